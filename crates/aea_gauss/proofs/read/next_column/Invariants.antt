use Rattle.std.proofs.Common.{◌≡◌, ℕ, ◌<◌, ◌≤◌, false}
use Rattle.aea_gauss_words.specs.Words.{is_bit}
use Rattle.aea_gauss.proofs.read.next_column.Given as goal

abbrev pub invariant-loop-column : goal.invariant-loop-column
invariant-loop-column l = (k : ℕ) → l.from ≤ k → k < l.column → is_bit l.words l.begin k ≡ false
