use Rattle.std.proofs.Common.{◌≡◌, ℕ, ◌*◌, List, length}
use Rattle.aea_gauss_words.specs.Words.{bit_matrix}
use Rattle.aea_gauss_words.proofs.rows.reduce.Given as goal
use Rattle.aea_gauss_words.specs.Matrices.{SameSums, ReducedTo}

-- the sums are as they were, and the rows before this one have their leads alone
pub record Part (rows wide done : ℕ) (old new : List ℕ) : Type 0 where
  pub long : length new ≡ length old
  pub sums : SameSums rows (64 * wide) (bit_matrix wide old) (bit_matrix wide new)
  pub reduced : ReducedTo done rows (64 * wide) (bit_matrix wide new)

abbrev pub invariant-loop-row : goal.invariant-loop-row
invariant-loop-row l = Part l.rows l.wide l.row l.fn.words l.words
