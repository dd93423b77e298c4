use Rattle.std.proofs.Common.{None, sym, ◌∙◌, ap, subst}
use Rattle.aea_lattice.specs.declared.grid.Lattice.{Lattice}
use Rattle.aea_lattice.specs.Blocks.{blocks_count}
use Rattle.aea_view.specs.Marked as view
use Rattle.aea_view.specs.Marked.{Marked}
use Rattle.aea_plan.specs.Plans.{head_by}
use Rattle.aea_plan.specs.Verdicts.{lines_by}
use Rattle.aea_report.specs.Printed.{IsPrinted}
use Rattle.aea_command_loss.proofs.DrillLemmas.LeftMarks.{marks-of, left_flipped}
use Rattle.aea_command_loss.proofs.drill.plan.plan_without.Goals as goal

pub returns-clause-reports : goal.returns-clause-reports
returns-clause-reports c = λ known are.
    let l = c.args.lattice.now in
    let left = c.in_ok-known.known in
    let plan = c.in_ok-plan.plan in
    let same = c.in_ok-known.ensures.lattice ∙ c.requires in
    let long = c.in_ok-known.ensures.whole ∙ ap blocks_count same in
    subst (λ (m : Lattice). IsPrinted m known None (head_by None plan) (lines_by plan.verdicts)) same
    (c.in_ok-plan.ensures.printed known None
    (subst (λ (m : Marked). view.AreMarks m known) (sym (marks-of left l same))
    (left_flipped l c.args.listed.now.marks left.marks known c.in_ok-known.ensures.marks long are)))
