use Rattle.std.proofs.Common.{◌≡◌, [], ◌∷◌, refl, sym, ◌∙◌, subst}
use Rattle.std.proofs.lemmas.Result.{err_from_is_err_and}
use Rattle.std.proofs.lemmas.Bool.{true≢false}
use Rattle.aea_reader.specs.Heads.{mark_line}
use Rattle.aea_reader.specs.Places.{IsAt, HasText, IsFault}
use Rattle.aea_reader.proofs.Options.{at_exit}
use Rattle.aea_reader.proofs.Places.{text_well, text_bad}
use Rattle.aea_reader.proofs.HeadLines.{begins_mark, is_first}
use Rattle.aea_reader.proofs.begin.read_mark.Goals as goal

pub returns-in_err-line-clause-read : goal.returns-in_err-line-clause-read
returns-in_err-line-clause-read g c input here =
    let left = (g.S.Source.state c.head_line.new.source).left in
    let p = err_from_is_err_and c.from_residual.result c.from_residual.ensures.1 in
    at_exit c.from_residual.result (λ _. IsAt input 2 (mark_line ∷ []) c.head_line.new.ahead left) (IsFault input 1 left) p.0 p.1
    (subst (IsFault input 1 left) (sym p.2) (c.in_err-line.ensures.found input [] here))

pub returns-then-is_mark-clause-read : goal.returns-then-is_mark-clause-read
returns-then-is_mark-clause-read g c input here =
    let left = (g.S.Source.state c.head_line.new.source).left in
    let is : c.in_ok-line.line.items ≡ mark_line = sym c.deref.ensures.value ∙ c.is_mark.ensures.0 c.if-is_mark.true in
    text_well input 1 [] mark_line c.head_line.new.ahead left
    (subst (λ t. HasText input 1 [] t c.head_line.new.ahead left) is (c.in_ok-line.ensures.found input [] here)) begins_mark

pub returns-clause-read : goal.returns-clause-read
returns-clause-read g c input here =
    let left = (g.S.Source.state c.head_line.new.source).left in (
      refl,
      text_bad input 1 [] c.in_ok-line.line.items c.head_line.new.ahead left (c.in_ok-line.ensures.found input [] here)
          (λ begins. true≢false (sym (c.is_mark.ensures.1 (c.deref.ensures.value ∙ is_first c.in_ok-line.line.items begins)) ∙ c.if-is_mark.false)),
    )
