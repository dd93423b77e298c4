use Rattle.std.proofs.Common.{◌≡◌, [], ◌∷◌, refl, sym, ◌∙◌, subst}
use Rattle.std.proofs.lemmas.Result.{err_from_is_err_and}
use Rattle.aea_reader.specs.Heads.{mark_line, shape_line, two_lines}
use Rattle.aea_reader.specs.Places.{IsAt, HasText, IsFault}
use Rattle.aea_reader.proofs.Options.{at_exit}
use Rattle.aea_reader.proofs.Places.{text_well, text_bad}
use Rattle.aea_reader.proofs.HeadLines.{begins_two, is_second}
use Rattle.aea_reader.proofs.begin.read_shape.Goals as goal

pub returns-in_err-line-clause-read : goal.returns-in_err-line-clause-read
returns-in_err-line-clause-read g c input here =
    let left = (g.S.Source.state c.head_line.new.source).left in
    let p = err_from_is_err_and c.from_residual.result c.from_residual.ensures.1 in
    at_exit c.from_residual.result (λ l. IsAt input 3 (two_lines l) c.head_line.new.ahead left) (IsFault input 2 left) p.0 p.1
    (subst (IsFault input 2 left) (sym p.2) (c.in_err-line.ensures.found input (mark_line ∷ []) here))

pub returns-in-Some-clause-read : goal.returns-in-Some-clause-read
returns-in-Some-clause-read g c input here =
    let left = (g.S.Source.state c.head_line.new.source).left in
    let l = c.in-Some.lattice in
    let is : c.in_ok-line.line.items ≡ shape_line c.in-Some.lattice = sym c.deref.ensures.value ∙ c.in-Some.ensures.found in
    text_well input 2 (mark_line ∷ []) (shape_line l) c.head_line.new.ahead left
    (subst (λ t. HasText input 2 (mark_line ∷ []) t c.head_line.new.ahead left) is (c.in_ok-line.ensures.found input (mark_line ∷ []) here)) (begins_two l)

pub returns-clause-read : goal.returns-clause-read
returns-clause-read g c input here =
    let left = (g.S.Source.state c.head_line.new.source).left in (
      refl,
      text_bad input 2 (mark_line ∷ []) c.in_ok-line.line.items c.head_line.new.ahead left (c.in_ok-line.ensures.found input (mark_line ∷ []) here)
          (λ begins. c.in-None.ensures.none begins.lattice (c.deref.ensures.value ∙ is_second mark_line c.in_ok-line.line.items begins)),
    )
