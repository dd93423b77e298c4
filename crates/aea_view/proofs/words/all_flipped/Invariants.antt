use Rattle.std.proofs.Common.{◌≡◌, ℕ, ◌<◌, ◌*◌, not, length}
use Rattle.aea_view.specs.Bits.{is_bit}
use Rattle.aea_view.proofs.words.all_flipped.Given as goal

abbrev pub invariant-loop-k : goal.invariant-loop-k
invariant-loop-k l = record {
  long : length l.flipped_words.items ≡ l.k;
  flipped : (i : ℕ) → i < 64 * l.k → is_bit l.flipped_words.items i ≡ not (is_bit l.words i);
}
