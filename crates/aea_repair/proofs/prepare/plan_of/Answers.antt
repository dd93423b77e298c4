use Rattle.std.proofs.Common.{refl}
use Rattle.aea_view.specs.Marked.{is_marked}
use Rattle.aea_repair.proofs.Plans.{of_plan}
use Rattle.aea_repair.proofs.prepare.plan_of.Goals as goal

pub returns-clause-can : goal.returns-clause-can
returns-clause-can c =
    let plan = c.in_ok-plan.plan in
    let fates = c.in_ok-fates.fates in
    c.plans_can_be_restored.ensures c.args.marks.now.lattice (is_marked c.args.marks.now) plan.verdicts.reached plan.steps fates
    (of_plan c.args.marks.now.lattice (is_marked c.args.marks.now) plan fates c.in_ok-fates.ensures c.in_ok-plan.ensures.lattice c.in_ok-plan.ensures.sound (c.in_ok-plan.ensures.plan (is_marked c.args.marks.now) (λ b has. refl)))

pub returns-clause-mends : goal.returns-clause-mends
returns-clause-mends c test are =
    let plan = c.in_ok-plan.plan in
    let fates = c.in_ok-fates.fates in
    c.given_are_restorable.ensures c.args.marks.now.lattice test plan.verdicts.reached plan.steps fates
    (of_plan c.args.marks.now.lattice test plan fates c.in_ok-fates.ensures c.in_ok-plan.ensures.lattice c.in_ok-plan.ensures.sound (c.in_ok-plan.ensures.plan test are))
