use Rattle.aea_readings.specs.Small.{small_start}
use Rattle.aea_gauss.proofs.Filling.{Filled}
use Rattle.aea_gauss.proofs.rows.fill_rows.Given as goal

abbrev pub invariant-loop-row : goal.invariant-loop-row
invariant-loop-row l = Filled l.row l.wide (small_start l.lattice l.blocks l.equations) l.fn.words l.words
