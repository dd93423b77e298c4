use Rattle.std.proofs.Common.{◌≡◌, length, sym, ◌∙◌, arith}
use Rattle.std.proofs.lemmas.Bool.{eqb-true}
use Rattle.aea_gauss.specs.Parts.{IsWanted}
use Rattle.aea_gauss.proofs.Placing.{placed_none, placed_more, placed_all, part_right}
use Rattle.aea_gauss.proofs.open.solve_whole.Goals as goal

pub loop-a-init : goal.loop-a-init
loop-a-init c = placed_none c.args.lattice.now IsWanted c.args.blocks.now c.args.part_blocks.now c.args.part_equations.now c.args.fates.now c.requires.fates

pub loop-a-preserved : goal.loop-a-preserved
loop-a-preserved c =
    placed_more c.args.lattice.now IsWanted c.args.blocks.now c.args.part_blocks.now c.args.part_equations.now c.requires.listed c.loop-a.a c.args.fates.now c.loop-a.fates c.solve_block.new.fates
    (omega arith) c.loop-a.invariant c.in_ok-solve_block.ensures tt

pub returns-clause-rights : goal.returns-clause-rights
returns-clause-rights c known part =
    placed_all c.args.lattice.now IsWanted c.args.blocks.now c.args.part_blocks.now c.args.part_equations.now c.loop-a.a c.args.fates.now c.loop-a.fates c.loop-a.invariant
    (omega arith) known (part_right c.parts_stand_alone.ensures c.args.lattice.now known c.args.part_blocks.now c.args.part_equations.now c.requires.ready.listed part)

pub returns-then-is_empty-clause-rights : goal.returns-then-is_empty-clause-rights
returns-then-is_empty-clause-rights c known part =
    let none : length c.args.part_blocks.now ≡ 0 = eqb-true (length c.args.part_blocks.now) 0 (sym c.is_empty.ensures ∙ c.if-is_empty.true) in
    record {
      kept = λ a less right. right;
      put = λ a less stands wanted. let inside = stands.1 in absurd (omega arith);
    }
