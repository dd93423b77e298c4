use Rattle.std.proofs.Common.{◌≡◌, ℕ, ◌<◌, false}
use Rattle.aea_sweep.specs.Heads.{head_in}
use Rattle.aea_sweep.proofs.table.find.Given as goal

abbrev pub invariant-loop-r : goal.invariant-loop-r
invariant-loop-r l = (q : ℕ) → q < l.r → head_in l.heads q l.place ≡ false
