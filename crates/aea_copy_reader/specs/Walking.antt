-- What is known of two copies that are walked side by side.
use Rattle.std.specs.Prelude.{◌≡◌, ℕ, Bool, true, false, None, List}
use Rattle.aea_copy_reader.specs.Judging.{HasRead, Apart}
use Rattle.aea_copy_reader.specs.Comparing.{IsComparison}
use Rattle.aea_copy_reader.specs.declared.known.Standing.{Standing}
use Rattle.aea_copy_reader.specs.declared.known.Walked.{Walked}

-- The same pieces were read of both up to the last gate that they have in common; while the copies are the same, this is where
-- the reader is, and after that no entry that both have follows there.
pub record GoTogether (ledger bytes others : List ℕ) (s common : Standing) (same : Bool) : Type 0 where
  pub pieces : List (List ℕ)
  pub one : HasRead ledger bytes pieces common
  pub two : HasRead ledger others pieces common
  pub here : same ≡ true → common ≡ s
  pub parted : same ≡ false → Apart ledger bytes others pieces common

-- The same, where the first copy was walked to its end: if the copies were the same up to there, the text of one begins with
-- that of the other.
pub record HaveCommon (ledger bytes others : List ℕ) (w : Walked) : Type 0 where
  pub pieces : List (List ℕ)
  pub one : HasRead ledger bytes pieces w.common
  pub two : HasRead ledger others pieces w.common
  pub parted : w.same ≡ false → Apart ledger bytes others pieces w.common
  pub whole : w.same ≡ true → IsComparison bytes others None
