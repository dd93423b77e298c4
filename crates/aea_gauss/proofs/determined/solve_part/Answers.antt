use Rattle.std.proofs.Common.{◌+◌, inl, inr, subst, sym, arith}
use Rattle.aea_readings.specs.Small.{block_in}
use Rattle.aea_gauss.specs.Lost.{IsNotLost}
use Rattle.aea_gauss.proofs.Placing.{Placed, placed_none, placed_more, placed_less, placed_all, part_determined, not_both}
use Rattle.aea_gauss.proofs.determined.solve_part.Goals as goal

pub reduce-requires-clause-some : goal.reduce-requires-clause-some
reduce-requires-clause-some c = c.has_determined.ensures.some c.if-not-has_determined.false

pub loop-a-init : goal.loop-a-init
loop-a-init c = placed_none c.args.lattice.now (IsNotLost c.args.lattice.now c.args.losses.now) c.args.blocks.now c.args.part_blocks.now c.args.part_equations.now c.args.fates.now c.requires.fates

pub loop-a-preserved : goal.loop-a-preserved
loop-a-preserved c =
    let l = c.args.lattice.now in
    let losses = c.args.losses.now in
    let blocks = c.args.blocks.now in
    let part = c.args.part_blocks.now in
    let equations = c.args.part_equations.now in
    let a = c.loop-a.a in
    elim c.in_ok-solve_determined.ensures [
      | inl same ↦
          subst (Placed l (IsNotLost l losses) blocks part equations (a + 1) c.args.fates.now) (sym same.0)
          (placed_less l (IsNotLost l losses) blocks part equations a c.args.fates.now c.loop-a.fates c.loop-a.invariant (not_both l losses (block_in part a) same.1))
      | inr puts ↦
          placed_more l (IsNotLost l losses) blocks part equations c.requires.listed a c.args.fates.now c.loop-a.fates c.solve_determined.new.fates (omega arith) c.loop-a.invariant puts.0 puts.1
    ]

pub returns-clause-rights : goal.returns-clause-rights
returns-clause-rights c known more are adds part =
    let l = c.args.lattice.now in
    placed_all l (IsNotLost l c.args.losses.now) c.args.blocks.now c.args.part_blocks.now c.args.part_equations.now c.loop-a.a c.args.fates.now c.loop-a.fates c.loop-a.invariant
    (omega arith) known
    (part_determined c.parts_stand_alone.ensures c.ends_stand_aside.ensures l known more c.args.losses.now are adds c.args.part_blocks.now c.args.part_equations.now c.requires.ready.listed part)

pub returns-then-not-has_determined-clause-rights : goal.returns-then-not-has_determined-clause-rights
returns-then-not-has_determined-clause-rights c known more are adds part = record {
  kept = λ a less right. right;
  put = λ a less stands none. absurd (not_both c.args.lattice.now c.args.losses.now _ (c.has_determined.ensures.lost c.if-not-has_determined.true _ stands) none);
}
