use Rattle.std.proofs.Common.{◌≡◌, ◌∙◌, ap, subst}
use Rattle.aea_lattice.specs.declared.grid.Lattice.{Lattice}
use Rattle.aea_view.specs.Marked.{Marked, AreMarks, is_marked}
use Rattle.aea_peel.specs.Plans.{IsPlan}
use Rattle.aea_gauss.specs.Fates.{AreFates}
use Rattle.aea_restore_tests.proofs.restoring.plan_of.Goals as goal

pub returns : goal.returns
returns c =
    let known = is_marked c.args.marks.now in
    let peeled = c.in_ok-peeled.peeled in
    let same : c.in_ok-copy.field-0 ≡ c.args.marks.now = c.in_ok-copy.ensures in
    let lattice : c.in_ok-copy.field-0.lattice ≡ c.args.marks.now.lattice = ap (λ (m : Marked). m.lattice) same in
    let are : AreMarks c.in_ok-copy.field-0 (is_marked c.args.marks.now) = λ b has. ap (λ (m : Marked). is_marked m b) same in
    c.plans_can_be_restored.ensures c.args.marks.now.lattice known peeled.marks peeled.plan.steps c.in_ok-fates.fates
    (record {
      lattice = c.in_ok-peeled.ensures.lattice ∙ lattice;
      plan = subst (λ (l : Lattice). IsPlan l known peeled.plan.steps) lattice (c.in_ok-peeled.ensures.plan known are);
      reached = c.in_ok-peeled.ensures.reached known are;
      rest = subst (λ (l : Lattice). AreFates l (is_marked peeled.marks) c.in_ok-fates.fates) c.lattice.ensures.lattice c.in_ok-fates.ensures;
    })
