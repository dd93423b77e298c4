use Rattle.std.proofs.Common.{not, ap, subst, sym, ◌∙◌}
use Rattle.std.specs.Prelude.{is_some}
use Rattle.std.proofs.lemmas.Bool.{not-false}
use Rattle.aea_lattice.specs.declared.grid.Lattice.{Lattice}
use Rattle.aea_verify.specs.Judged.{HeadSays}
use Rattle.aea_verify.proofs.Going.{begun-fault, judged-same}
use Rattle.aea_verify.proofs.reading.judge_report.Goals as goal

pub returns-in-Err-clause-says : goal.returns-in-Err-clause-says
returns-in-Err-clause-says g c input revealed = begun-fault input (g.S.Source.state c.begin.new.source).left c.in-Err.fault (c.in-Err.ensures.begun input revealed)

pub read_lines-requires-clause-blocks : goal.read_lines-requires-clause-blocks
read_lines-requires-clause-blocks g c so =
    judged-same c.args.marks.now.lattice c.in-Ok.begun.0.lattice c.args.seal.now c.in-Ok.begun.1 c.judge_head-broken.result
    (subst (λ (l : Lattice). HeadSays l c.args.seal.now c.in-Ok.begun.1 c.judge_head-broken.result) c.lattice.ensures.lattice c.judge_head-broken.ensures)
    c.in-Ok.ensures.head (ap not (c.is_none.ensures ∙ ap not so))

pub returns-in-Err-read_lines-clause-says : goal.returns-in-Err-read_lines-clause-says
returns-in-Err-read_lines-clause-says g c input revealed = c.in-Err-read_lines.ensures.reads input c.in-Ok.begun.1 (c.in-Ok.ensures.begun input revealed)

pub returns-clause-says : goal.returns-clause-says
returns-clause-says g c input revealed =
    let all = c.in-Ok-read_lines.ensures.reads input c.in-Ok.begun.1 (c.in-Ok.ensures.begun input revealed) in
    let says = subst (λ (l : Lattice). HeadSays l c.args.seal.now c.in-Ok.begun.1 c.judge_head-broken.result) c.lattice.ensures.lattice c.judge_head-broken.ensures in
    record {
      head = c.in-Ok.begun.1;
      lines = all.lines;
      report = all.report;
      verdict_is = c.verdict_with.ensures c.args.seal.now all.lines says (λ none. all.tally (not-false c.is_none.result (sym c.is_none.ensures ∙ ap is_some none)));
    }
