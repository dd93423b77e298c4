use Rattle.std.proofs.Common.{List, sym, ◌∙◌, ap, subst, arith}
use Rattle.std.specs.Prelude.{Contains}
use Rattle.std.proofs.lemmas.List.Elements.{Contains-push}
use Rattle.aea_lattice.specs.declared.grid.Lattice.{Lattice}
use Rattle.aea_lattice.specs.Blocks.{blocks_count}
use Rattle.aea_view.specs.Marked.{Marked, AreMarks}
use Rattle.aea_peel.specs.declared.plan.Step.{Step}
use Rattle.aea_peel.specs.Plans.{IsPlan, AreReached}
use Rattle.aea_peel.specs.Queue.{IsState, IsQueue}
use Rattle.aea_peel.proofs.States.{IsState-start, IsPlan-end, AreReached-end, marks-of}
use Rattle.aea_peel.proofs.Queues.{IsQueue-end}
use Rattle.aea_peel.proofs.worklist.peel_marks.Goals as goal

pub loop-e-init : goal.loop-e-init
loop-e-init c =
    let l = c.lattice.result.now in
    let same = sym c.lattice.ensures.lattice in
    record {
      same = same;
      long = c.lattice.ensures.whole ∙ ap blocks_count same;
      state = λ known are.
          subst (λ (steps : List Step). IsState l known steps c.args.marks.marks) (sym c.in_ok-steps.ensures)
          (IsState-start l known c.args.marks.marks
          (subst (λ (m : Marked). AreMarks m known) (marks-of c.args.marks l same) are));
      queue = c.in_ok-waiting.ensures;
    }

pub take_step-requires-clause-equation : goal.take_step-requires-clause-equation
take_step-requires-clause-equation c =
    c.loop-e.invariant.queue.inside c.in-Some.e
    (subst (λ waiting. Contains waiting c.in-Some.e) (sym c.in-Some.ensures.items) (Contains-push c.pop.new.self.items c.in-Some.e))

pub loop-e-preserved : goal.loop-e-preserved
loop-e-preserved c = record {
  same = c.in_ok-take_step.ensures.same;
  long = c.in_ok-take_step.ensures.long;
  state = λ known are. c.in_ok-take_step.ensures.state known (c.loop-e.invariant.state known are);
  queue = c.in_ok-take_step.ensures.queue
      (subst (λ waiting. IsQueue c.lattice.result.now c.loop-e.marks.marks waiting) c.in-Some.ensures.items c.loop-e.invariant.queue);
}

pub returns-clause-plan : goal.returns-clause-plan
returns-clause-plan c = λ known are.
    let l = c.lattice.result.now in
    subst (λ (x : Lattice). IsPlan x known c.loop-e.steps) c.lattice.ensures.lattice
    (IsPlan-end l known c.loop-e.steps c.loop-e.marks.marks
    (IsQueue-end l c.loop-e.marks.marks c.loop-e.waiting.items
    (omega (arith, c.loop-e.waiting.ok.0, c.in_default.ensures.cases.0)) c.loop-e.invariant.queue)
    (c.loop-e.invariant.state known are))

pub returns-clause-reached : goal.returns-clause-reached
returns-clause-reached c = λ known are.
    let l = c.lattice.result.now in
    subst (λ (m : Marked). AreReached m known) (sym (marks-of c.loop-e.marks l c.loop-e.invariant.same))
    (AreReached-end l known c.loop-e.steps c.loop-e.marks.marks
    (IsQueue-end l c.loop-e.marks.marks c.loop-e.waiting.items
    (omega (arith, c.loop-e.waiting.ok.0, c.in_default.ensures.cases.0)) c.loop-e.invariant.queue)
    (c.loop-e.invariant.state known are))
