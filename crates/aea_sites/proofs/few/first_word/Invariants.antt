use Rattle.std.proofs.Common.{◌≡◌, ◌<◌, ℕ, false}
use Rattle.aea_sites.specs.Words.{is_word_at}
use Rattle.aea_sites.proofs.few.first_word.Given as goal

abbrev pub invariant-loop-k : goal.invariant-loop-k
invariant-loop-k l = (j : ℕ) → j < l.k → is_word_at l.fates j ≡ false
