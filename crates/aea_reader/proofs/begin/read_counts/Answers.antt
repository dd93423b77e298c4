use Rattle.std.proofs.Common.{◌≡◌, rules, refl, sym, ◌∙◌, subst}
use Rattle.std.proofs.lemmas.Result.{err_from_is_err_and}
use Rattle.aea_report.specs.Format.{head_texts}
use Rattle.aea_report.specs.Grammar.{IsHeadOf}
use Rattle.aea_reader.specs.Heads.{mark_line, shape_line, seal_line, counts_line, three_lines}
use Rattle.aea_reader.specs.Places.{IsAt, HasText, IsFault}
use Rattle.aea_reader.proofs.Options.{at_exit}
use Rattle.aea_reader.proofs.Places.{text_well, text_bad}
use Rattle.aea_reader.proofs.HeadLines.{head_with, begins_head, is_fourth}
use Rattle.aea_reader.proofs.begin.read_counts.Goals as goal

pub returns-in_err-line-clause-read : goal.returns-in_err-line-clause-read
returns-in_err-line-clause-read g c input here =
    let left = (g.S.Source.state c.head_line.new.source).left in
    let texts = three_lines c.args.lattice.now c.args.seal in
    let p = err_from_is_err_and c.from_residual.result c.from_residual.ensures.1 in
    at_exit c.from_residual.result (λ h. IsAt input 5 (head_texts h) c.head_line.new.ahead left) (IsFault input 4 left) p.0 p.1
    (subst (IsFault input 4 left) (sym p.2) (c.in_err-line.ensures.found input texts here))

pub returns-in-Some-clause-read : goal.returns-in-Some-clause-read
returns-in-Some-clause-read g c input here =
    let left = (g.S.Source.state c.head_line.new.source).left in
    let l = c.args.lattice.now in
    let seal = c.args.seal in
    let texts = three_lines l seal in
    let damaged = c.in-Some.damaged in
    let peeled = c.in-Some.peeled in
    let solved = c.in-Some.solved in
    let lost = c.in-Some.lost in
    let is : c.in_ok-line.line.items ≡ counts_line damaged peeled solved lost = sym c.deref.ensures.value ∙ c.in-Some.ensures.found in
    let valid : IsHeadOf c.args.lattice.now (head_with c.args.lattice.now c.args.seal c.in-Some.damaged c.in-Some.peeled c.in-Some.solved c.in-Some.lost) = search rules in
    text_well input 4 texts (counts_line damaged peeled solved lost) c.head_line.new.ahead left
    (subst (λ t. HasText input 4 texts t c.head_line.new.ahead left) is (c.in_ok-line.ensures.found input texts here))
    (begins_head l (head_with l seal damaged peeled solved lost) valid)

pub returns-clause-read : goal.returns-clause-read
returns-clause-read g c input here =
    let left = (g.S.Source.state c.head_line.new.source).left in
    let l = c.args.lattice.now in
    let seal = c.args.seal in
    let texts = three_lines l seal in (
      refl,
      text_bad input 4 texts c.in_ok-line.line.items c.head_line.new.ahead left (c.in_ok-line.ensures.found input texts here)
          (λ begins.
          let h = begins.head in
          let is = begins.is_head in
          c.in-None.ensures.none h.damaged h.peeled h.solved h.lost is.damaged is.peeled is.solved is.lost
          (c.deref.ensures.value ∙ is_fourth mark_line (shape_line l) (seal_line seal) c.in_ok-line.line.items begins)),
    )
