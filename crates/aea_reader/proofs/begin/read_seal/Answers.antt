use Rattle.std.proofs.Common.{◌≡◌, refl, sym, ◌∙◌, subst}
use Rattle.std.proofs.lemmas.Result.{err_from_is_err_and}
use Rattle.aea_reader.specs.Heads.{mark_line, shape_line, seal_line, two_lines, three_lines}
use Rattle.aea_reader.specs.Places.{IsAt, HasText, IsFault}
use Rattle.aea_reader.proofs.Options.{at_exit}
use Rattle.aea_reader.proofs.Places.{text_well, text_bad}
use Rattle.aea_reader.proofs.HeadLines.{begins_three, is_third}
use Rattle.aea_reader.proofs.begin.read_seal.Goals as goal

pub returns-in_err-line-clause-read : goal.returns-in_err-line-clause-read
returns-in_err-line-clause-read g c input l here =
    let left = (g.S.Source.state c.head_line.new.source).left in
    let p = err_from_is_err_and c.from_residual.result c.from_residual.ensures.1 in
    at_exit c.from_residual.result (λ seal. IsAt input 4 (three_lines l seal) c.head_line.new.ahead left) (IsFault input 3 left) p.0 p.1
    (subst (IsFault input 3 left) (sym p.2) (c.in_err-line.ensures.found input (two_lines l) here))

pub returns-in-Some-clause-read : goal.returns-in-Some-clause-read
returns-in-Some-clause-read g c input l here =
    let left = (g.S.Source.state c.head_line.new.source).left in
    let seal = c.in-Some.seal in
    let is : c.in_ok-line.line.items ≡ seal_line c.in-Some.seal = sym c.deref.ensures.value ∙ c.in-Some.ensures.found in
    text_well input 3 (two_lines l) (seal_line seal) c.head_line.new.ahead left
    (subst (λ t. HasText input 3 (two_lines l) t c.head_line.new.ahead left) is (c.in_ok-line.ensures.found input (two_lines l) here)) (begins_three l seal c.in-Some.ensures.bytes)

pub returns-clause-read : goal.returns-clause-read
returns-clause-read g c input l here =
    let left = (g.S.Source.state c.head_line.new.source).left in (
      refl,
      text_bad input 3 (two_lines l) c.in_ok-line.line.items c.head_line.new.ahead left (c.in_ok-line.ensures.found input (two_lines l) here)
          (λ begins. c.in-None.ensures.none begins.head.seal begins.is_head.seal (c.deref.ensures.value ∙ is_third mark_line (shape_line l) c.in_ok-line.line.items begins)),
    )
