use Rattle.aea_gauss.specs.Lost.{IsNotLost}
use Rattle.aea_gauss.proofs.Placing.{Placed}
use Rattle.aea_gauss.proofs.determined.solve_part.Given as goal

abbrev pub invariant-loop-a : goal.invariant-loop-a
invariant-loop-a l = Placed l.lattice (IsNotLost l.lattice l.losses) l.blocks l.part_blocks l.part_equations l.a l.fn.fates l.fates
