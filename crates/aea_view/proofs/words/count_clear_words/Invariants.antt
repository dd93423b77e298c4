use Rattle.std.proofs.Common.{◌≡◌, ◌≤◌, ◌*◌, not, count_by}
use Rattle.aea_view.specs.Bits.{bits_of}
use Rattle.aea_view.proofs.words.count_clear_words.Given as goal

abbrev pub invariant-loop-at : goal.invariant-loop-at
invariant-loop-at l = record {
  counted : l.count ≡ count_by not (bits_of (64 * l.at) l.words);
  few : l.count ≤ 64 * l.at;
}
