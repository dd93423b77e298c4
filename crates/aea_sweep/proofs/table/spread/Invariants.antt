use Rattle.std.proofs.Common.{◌&&◌}
use Rattle.std.specs.Prelude.{nat_lt}
use Rattle.aea_sweep.specs.Heads.{head_in}
use Rattle.aea_sweep.specs.Tables.{AddsRow}
use Rattle.aea_sweep.proofs.table.spread.Given as goal

abbrev pub invariant-loop-r : goal.invariant-loop-r
invariant-loop-r l = AddsRow l.spare (λ q. nat_lt q l.r && head_in l.fn.heads q l.place) l.fn.words.items l.words.items l.fn.heads l.heads
