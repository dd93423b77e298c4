use Rattle.std.proofs.Common.{◌≡◌, ◌≤◌, not, count_by}
use Rattle.aea_view.specs.Bits.{bits_of}
use Rattle.aea_view.proofs.words.count_clear.Given as goal

abbrev pub invariant-loop-k : goal.invariant-loop-k
invariant-loop-k l = record {
  counted : l.count ≡ count_by not (bits_of l.k l.words);
  few : l.count ≤ l.k;
}
