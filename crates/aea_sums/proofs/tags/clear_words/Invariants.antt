use Rattle.std.proofs.Common.{◌≡◌, ◌<◌, ℕ, length, get_or}
use Rattle.aea_sums.proofs.tags.clear_words.Given as goal

abbrev pub invariant-loop-t : goal.invariant-loop-t
invariant-loop-t l = record {
  long : length l.words ≡ length l.fn.words;
  none : (q : ℕ) → q < l.t → get_or l.words q 0 ≡ 0;
}
