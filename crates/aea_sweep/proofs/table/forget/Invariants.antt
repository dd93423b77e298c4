use Rattle.std.proofs.Common.{◌≡◌, ℕ, ◌<◌, ◌≤◌, not, ◌&&◌, ◌==◌, length}
use Rattle.aea_sweep.specs.Heads.{head_in}
use Rattle.aea_sweep.proofs.table.forget.Given as goal

abbrev pub invariant-loop-r : goal.invariant-loop-r
invariant-loop-r l = record {
  long : length l.heads ≡ length l.fn.heads;
  done : (r t : ℕ) → r < l.r → t < 192 → head_in l.heads r t ≡ (head_in l.fn.heads r t && not (t == l.place));
  rest : (r t : ℕ) → l.r ≤ r → head_in l.heads r t ≡ head_in l.fn.heads r t;
}
