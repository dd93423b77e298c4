use Rattle.std.proofs.Common.{◌≡◌, ℕ, ◌*◌, List, length}
use Rattle.aea_gauss_words.specs.Words.{bit_matrix}
use Rattle.aea_gauss_words.proofs.rows.clear.Given as goal
use Rattle.aea_gauss_words.proofs.Elimination.{PartCleared}

-- the rows before this one are done
pub record Cleared (rows wide row column done : ℕ) (old new : List ℕ) : Type 0 where
  pub long : length new ≡ length old
  pub part : PartCleared rows (64 * wide) (bit_matrix wide old) (bit_matrix wide new) row column done

abbrev pub invariant-loop-other : goal.invariant-loop-other
invariant-loop-other l = Cleared l.rows l.wide l.row l.column l.other l.fn.words l.words
