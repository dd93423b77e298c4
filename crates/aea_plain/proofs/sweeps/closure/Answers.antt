use Rattle.std.proofs.Common.{◌≡◌, ℕ, ◌+◌, ◌*◌, ◌<◌, Bool, true, false, cond, filter, All, IfOk, Result, Ok, Err, Vec, Global, refl, subst, sym, ap, arith}
use Rattle.aea_view.specs.Marked.{unmarked}
use Rattle.std.proofs.lemmas.Bool.{false≢true}
use Rattle.aea_lattice.specs.declared.blocks.BlockId.{BlockId}
use Rattle.aea_lattice.specs.Blocks.{blocks_of}
use Rattle.aea_lattice.specs.Closure.{is_among}
use Rattle.aea_plain.specs.Sets.{IsClosure}
use Rattle.aea_plain.specs.Marks.{is_marked, IsSpent}
use Rattle.aea_plain.proofs.Places.{All-equations_of}
use Rattle.aea_plain.proofs.Marks.{closure-end, state-start}
use Rattle.aea_plain.proofs.sweeps.closure.Goals as goal

measure-step : (r : Bool) (old new : ℕ) → (r ≡ true → new < old) → (r ≡ false → new ≡ old) → 2 * new + cond r 1 0 < 2 * old + 1
measure-step true old new fewer same = let h = fewer refl in omega arith
measure-step false old new fewer same = let h = same refl in omega arith

if_ok-more : {T E : Type 0} (r : Result T E) (P Q : T → Type 0) → ((x : T) → P x → Q x) → IfOk r P → IfOk r Q
if_ok-more (Ok x) P Q more h = more x h
if_ok-more (Err e) P Q more h = tt

pub loop-changed-smaller : goal.loop-changed-smaller
loop-changed-smaller c =
    subst (λ b. 2 * unmarked c.sweep-changed.new.marks + cond c.sweep-changed.result 1 0 < 2 * unmarked c.loop-changed.marks + cond b 1 0)
    (sym c.loop-changed-test.true)
    (measure-step c.sweep-changed.result (unmarked c.loop-changed.marks) (unmarked c.sweep-changed.new.marks)
    c.sweep-changed.ensures.fewer (λ h. ap unmarked (c.sweep-changed.ensures.same h)))

pub returns : goal.returns
returns c =
    let marks = c.loop-changed.marks.marks in
    if_ok-more c.marked_blocks.result
    (λ (v : Vec BlockId Global). v.items ≡ filter (is_marked c.args.lattice.now marks) (blocks_of c.args.lattice.now))
    (λ (v : Vec BlockId Global). IsClosure c.args.lattice.now (is_among c.args.known.now) v.items)
    (λ v are.
    closure-end c.args.lattice.now (is_among c.args.known.now) marks v.items c.loop-changed.invariant.state
    (All-equations_of (IsSpent c.args.lattice.now marks) c.args.lattice.now
    (subst (All (IsSpent c.args.lattice.now marks)) c.in_ok-equations.ensures.all
    (c.loop-changed.invariant.spent c.loop-changed-test.false)))
    are)
    c.marked_blocks.ensures

pub loop-changed-init : goal.loop-changed-init
loop-changed-init c = record {
  kept = c.in_ok-marks.ensures.same;
  long = c.in_ok-marks.ensures.long;
  state = state-start c.args.lattice.now (is_among c.args.known.now) c.in_ok-marks.marks.marks c.in_ok-marks.ensures.marks;
  spent = λ h. absurd (false≢true (sym h));
}
