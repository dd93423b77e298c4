use Rattle.aea_view.specs.Marked.{is_marked}
use Rattle.aea_gauss.specs.Lost.{IsNotLost, AreLostRight}
use Rattle.aea_gauss.proofs.Placing.{Solved}
use Rattle.aea_gauss.proofs.fates.solve.Given as goal

abbrev pub invariant-loop-label : goal.invariant-loop-label
invariant-loop-label l = record {
  solved : Solved l.lattice (is_marked l.known) (IsNotLost l.lattice l.lost) l.blocks l.parts.blocks.items l.label l.fates;
  lost : AreLostRight l.lattice (is_marked l.known) l.blocks l.lost l.fates;
}
