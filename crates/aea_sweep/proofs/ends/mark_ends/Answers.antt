use Rattle.std.proofs.Common.{◌≡◌, ◌+◌, ◌-◌, ℕ, length, subst, arith}
use Rattle.aea_lattice.specs.Blocks.{blocks_count}
use Rattle.aea_view.specs.Marked.{is_marked}
use Rattle.aea_sweep.specs.Ends.{AreMarkedFrom}
use Rattle.aea_sweep.proofs.EndMarks.{step_last}
use Rattle.aea_sweep.proofs.ends.mark_ends.Goals as goal

pub loop-at-preserved : goal.loop-at-preserved
loop-at-preserved c =
    let l = c.args.lattice.now in
    let kn = is_marked c.args.known.now in
    let count = c.blocks-in-loop-at.ensures.count in
    let end = c.blocks-at-end.ensures.count in
    let less = c.loop-at-test.true in
    let high = c.loop-at.auto.at-end in
    let k : ℕ = c.blocks-in-loop-at.result - 1 - c.loop-at.at in
    let now : blocks_count l - c.loop-at.at ≡ k + 1 = omega (arith, count, end, less) in
    let then' : k ≡ blocks_count l - (c.loop-at.at + 1) = omega (arith, count, end, less) in
    record {
      same = c.mark_one-left.ensures.lattice;
      marked = λ s.
          subst (λ (j : ℕ). AreMarkedFrom l kn (length c.args.words.now) s.ends j c.mark_one-left.result c.mark_one-left.new.marks) then'
          (c.mark_one-left.ensures.marked c.args.words.now s c.requires.first
          (subst (λ (j : ℕ). AreMarkedFrom l kn (length c.args.words.now) s.ends j c.loop-at.left c.loop-at.marks) now (c.loop-at.invariant.marked s)));
    }

pub returns-clause-ends : goal.returns-clause-ends
returns-clause-ends c =
    let l = c.args.lattice.now in
    let kn = is_marked c.args.known.now in
    let count = c.blocks-at-end.ensures.count in
    let past = c.loop-at-test.false in
    let none : blocks_count l - c.loop-at.at ≡ 0 = omega (arith, count, past) in
    step_last l kn c.args.words.now c.args.first.now c.requires.words c.requires.first c.loop-at.left c.loop-at.marks
    (subst (λ (j : ℕ). AreMarkedFrom l kn (length c.args.words.now) c.requires.words.ends j c.loop-at.left c.loop-at.marks) none (c.loop-at.invariant.marked c.requires.words))
