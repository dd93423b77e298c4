use Rattle.std.proofs.Common.{◌≡◌, ℕ, false, length}
use Rattle.aea_sweep.specs.Heads.{head_in}
use Rattle.aea_sweep.proofs.sweep.empty_heads.Given as goal

abbrev pub invariant-loop-at : goal.invariant-loop-at
invariant-loop-at l = record {
  long : length l.heads.items ≡ l._at;
  empty : (r t : ℕ) → head_in l.heads.items r t ≡ false;
}
