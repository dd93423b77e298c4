use Rattle.std.proofs.Common.{◌∙◌, sym, subst}
use Rattle.aea_lattice.specs.declared.grid.Lattice.{Lattice}
use Rattle.aea_view.specs.Presence.{AnswersAs}
use Rattle.aea_peel.specs.Plans.{IsPlan}
use Rattle.aea_peel.proofs.worklist.peel.Given as given
use Rattle.aea_peel.proofs.worklist.peel.Goals as goal

pub returns : goal.returns
returns g c = record {
  plan = λ known answers.
      subst (λ (l : Lattice). IsPlan l known c.in_ok-peeled.peeled.plan.steps) (c.in_ok-marks.ensures.lattice ∙ c.requires.lattice)
      (c.in_ok-peeled.ensures.plan known
      (c.in_ok-marks.ensures.marks known
      (subst (λ (l : Lattice). AnswersAs (given.F-post g) l c.args.view.now.predicate known) (sym c.requires.lattice) answers)));
}
