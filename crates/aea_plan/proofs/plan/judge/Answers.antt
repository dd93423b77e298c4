use Rattle.std.proofs.Common.{◌∙◌, subst}
use Rattle.aea_lattice.specs.declared.grid.Lattice.{Lattice}
use Rattle.aea_view.specs.Marked.{is_marked}
use Rattle.aea_peel.specs.Plans.{IsPlan}
use Rattle.aea_plan.specs.Plans.{AreLossesOf}
use Rattle.aea_plan.proofs.Flipped.{flipped, flipped-twice}
use Rattle.aea_plan.proofs.plan.judge.Goals as goal

pub returns-clause-verdicts : goal.returns-clause-verdicts
returns-clause-verdicts c =
    record { same = c.in_ok-peeled.ensures.lattice ∙ c.in_ok-complement.ensures.lattice }

pub returns-clause-damaged : goal.returns-clause-damaged
returns-clause-damaged c test are =
    flipped c.args.known.now c.in_ok-damaged.damaged test c.in_ok-damaged.ensures.lattice c.in_ok-damaged.ensures.marks c.in_ok-damaged.ensures.whole are

pub returns-clause-steps : goal.returns-clause-steps
returns-clause-steps c test are =
    let copied = flipped-twice c.args.known.now c.in_ok-damaged.damaged c.in_ok-complement.field-0 test
    c.in_ok-damaged.ensures.lattice c.in_ok-damaged.ensures.marks c.in_ok-damaged.ensures.whole
    c.in_ok-complement.ensures.lattice c.in_ok-complement.ensures.marks c.in_ok-complement.ensures.whole are in
    subst (λ (l : Lattice). IsPlan l test c.in_ok-peeled.peeled.plan.steps) (c.in_ok-complement.ensures.lattice ∙ c.in_ok-damaged.ensures.lattice)
    (c.in_ok-peeled.ensures.plan test copied)

pub returns-clause-reached : goal.returns-clause-reached
returns-clause-reached c test are =
    c.in_ok-peeled.ensures.reached test
    (flipped-twice c.args.known.now c.in_ok-damaged.damaged c.in_ok-complement.field-0 test
    c.in_ok-damaged.ensures.lattice c.in_ok-damaged.ensures.marks c.in_ok-damaged.ensures.whole
    c.in_ok-complement.ensures.lattice c.in_ok-complement.ensures.marks c.in_ok-complement.ensures.whole are)

pub returns-clause-losses : goal.returns-clause-losses
returns-clause-losses c =
    let marks = c.in_ok-peeled.peeled.marks in
    subst (λ (l : Lattice). AreLossesOf l (is_marked marks) c.in_ok-losses.losses)
    (c.in_ok-peeled.ensures.lattice ∙ c.in_ok-complement.ensures.lattice ∙ c.in_ok-damaged.ensures.lattice) c.in_ok-losses.ensures
