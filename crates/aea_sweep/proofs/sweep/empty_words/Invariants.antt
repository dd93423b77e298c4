use Rattle.std.proofs.Common.{◌≡◌, ℕ, [], length, get_or}
use Rattle.aea_sweep.proofs.sweep.empty_words.Given as goal

abbrev pub invariant-loop-at : goal.invariant-loop-at
invariant-loop-at l = record {
  long : length l.words.items ≡ l._at;
  empty : (r : ℕ) → get_or l.words.items r [] ≡ [];
}
