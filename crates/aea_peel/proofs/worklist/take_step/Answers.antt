use Rattle.std.proofs.Common.{◌≡◌, true, set, ◌∙◌, ap, subst}
use Rattle.aea_lattice.specs.declared.blocks.EqId.{EqId}
use Rattle.aea_lattice.specs.declared.grid.Lattice.{Lattice}
use Rattle.aea_lattice.specs.Blocks.{number_of}
use Rattle.aea_lattice.specs.Equations.{HasEquation, is_in_equation}
use Rattle.std.specs.Prelude.{IsTrue}
use Rattle.aea_peel.specs.Queue.{WaitsOrIsSpent}
use Rattle.aea_peel.proofs.States.{IsState-push}
use Rattle.aea_peel.proofs.Queues.{IsQueue-none, IsQueue-step}
use Rattle.aea_peel.proofs.worklist.take_step.Goals as goal

pub returns-in-None-clause-queue : goal.returns-in-None-clause-queue
returns-in-None-clause-queue c =
    IsQueue-none c.args.lattice.now c.args.marks.now.marks c.args.waiting.now.items c.args.e c.in-None.ensures.spent

pub returns-in_ok-add_around-in-Some-clause-state : goal.returns-in_ok-add_around-in-Some-clause-state
returns-in_ok-add_around-in-Some-clause-state c = λ known state.
    let l = c.args.lattice.now in
    let old = c.args.marks.now.marks in
    let block = c.in-Some.block in
    let written : c.set.new.self.marks ≡ set old (number_of l block) true =
    c.set.ensures.marks ∙ ap (λ (x : Lattice). set old (number_of x block) true) c.requires.same in
    rw (c.in_ok-push-in-Some.ensures.ok, written)
    (IsState-push l known c.args.steps.now old (record { block = block; by = c.args.e })
    c.requires.long c.in-Some.ensures.inside c.in-Some.ensures.forced c.in-Some.ensures.no_mark state)

pub returns-in_ok-add_around-in-Some-clause-queue : goal.returns-in_ok-add_around-in-Some-clause-queue
returns-in_ok-add_around-in-Some-clause-queue c = λ queue.
    let l = c.args.lattice.now in
    let old = c.args.marks.now.marks in
    let block = c.in-Some.block in
    let written : c.set.new.self.marks ≡ set old (number_of l block) true =
    c.set.ensures.marks ∙ ap (λ (x : Lattice). set old (number_of x block) true) c.requires.same in
    rw written
    (IsQueue-step l old c.args.waiting.now.items c.add_around.new.waiting.items c.args.e block
    c.in-Some.ensures.inside c.in-Some.ensures.forced
    c.in_ok-add_around-in-Some.ensures.adds
    (subst
    (λ marks. (q : EqId) → HasEquation l q → IsTrue (is_in_equation l q block) → WaitsOrIsSpent l marks c.add_around.new.waiting.items q)
    written c.in_ok-add_around-in-Some.ensures.added)
    queue)
