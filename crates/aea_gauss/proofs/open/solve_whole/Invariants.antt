use Rattle.aea_gauss.specs.Parts.{IsWanted}
use Rattle.aea_gauss.proofs.Placing.{Placed}
use Rattle.aea_gauss.proofs.open.solve_whole.Given as goal

abbrev pub invariant-loop-a : goal.invariant-loop-a
invariant-loop-a l = Placed l.lattice IsWanted l.blocks l.part_blocks l.part_equations l.a l.fn.fates l.fates
