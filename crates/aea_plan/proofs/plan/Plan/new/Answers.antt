use Rattle.std.proofs.Common.{sym, subst}
use Rattle.aea_lattice.specs.declared.grid.Lattice.{Lattice}
use Rattle.aea_view.specs.Marked.{is_marked}
use Rattle.aea_peel.specs.Plans.{IsPlan}
use Rattle.aea_report.specs.Printed.{IsPrinted}
use Rattle.aea_plan.specs.declared.plan.Plan.{Plan}
use Rattle.aea_plan.specs.Plans.{AreLossesOf, IsPlanOf, head_by}
use Rattle.aea_plan.specs.Verdicts.{lines_by}
use Rattle.aea_plan.proofs.Lining.{Facts, printed-by}
use Rattle.aea_plan.proofs.plan.Plan.new.Goals as goal

pub returns-clause-plan : goal.returns-clause-plan
returns-clause-plan c test are =
    let judged = c.in_ok-judged.judged in
    let same = sym c.in_ok-judged.ensures.lattice in
    record {
      damaged = c.in_ok-judged.ensures.damaged test are;
      steps = subst (λ (l : Lattice). IsPlan l test judged.steps) same (c.in_ok-judged.ensures.steps test are);
      reached = c.in_ok-judged.ensures.reached test are;
      losses = subst (λ (l : Lattice). AreLossesOf l (is_marked judged.verdicts.reached) judged.verdicts.losses) same c.in_ok-judged.ensures.losses;
    }

pub returns-clause-printed : goal.returns-clause-printed
returns-clause-printed c test seal are =
    let judged = c.in_ok-judged.judged in
    let same = sym c.in_ok-judged.ensures.lattice in
    let plan : Plan = record { steps = judged.steps; verdicts = judged.verdicts; counts = c.count_blocks-counts.result; most_nodes = c.most_nodes-most_nodes.result } in
    let of : IsPlanOf test plan = record {
      damaged = c.in_ok-judged.ensures.damaged test are;
      steps = subst (λ (l : Lattice). IsPlan l test judged.steps) same (c.in_ok-judged.ensures.steps test are);
      reached = c.in_ok-judged.ensures.reached test are;
      losses = subst (λ (l : Lattice). AreLossesOf l (is_marked judged.verdicts.reached) judged.verdicts.losses) same c.in_ok-judged.ensures.losses;
    } in
    let facts : Facts = record {
      inside = c.blocks_are_inside.ensures;
      determined = c.reached_are_determined.ensures;
      open_still = c.words_are_open.ensures;
      words = c.words_stay.ensures;
      stay = c.determined_stay.ensures;
    } in
    subst (λ (l : Lattice). IsPrinted l test seal (head_by seal plan) (lines_by plan.verdicts)) c.in_ok-judged.ensures.lattice
    (printed-by facts test seal plan c.in_ok-judged.ensures.verdicts c.count_blocks-counts.ensures.counts of)
