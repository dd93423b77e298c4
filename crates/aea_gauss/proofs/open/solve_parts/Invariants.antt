use Rattle.std.proofs.Common.{not}
use Rattle.aea_view.specs.Marked.{is_marked}
use Rattle.aea_gauss.specs.Parts.{IsWanted}
use Rattle.aea_gauss.proofs.Placing.{Solved}
use Rattle.aea_gauss.proofs.open.solve_parts.Given as goal

abbrev pub invariant-loop-label : goal.invariant-loop-label
invariant-loop-label l = Solved l.lattice (λ b. not (is_marked l.open b)) IsWanted l.blocks l.parts.blocks.items l.label l.fates
