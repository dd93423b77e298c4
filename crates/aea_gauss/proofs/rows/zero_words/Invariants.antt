use Rattle.std.proofs.Common.{◌≡◌, ℕ, ◌*◌, List, length, get_or}
use Rattle.aea_gauss.proofs.rows.zero_words.Given as goal

-- so many rows of zeros
pub record Zeros (rows wide : ℕ) (words : List ℕ) : Type 0 where
  pub long : length words ≡ rows * wide
  pub zeros : (k : ℕ) → get_or words k 0 ≡ 0

abbrev pub invariant-loop-row : goal.invariant-loop-row
invariant-loop-row l = Zeros l.row l.wide l.words.items
