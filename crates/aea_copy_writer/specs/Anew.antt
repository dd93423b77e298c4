-- A file that is made anew, a copy or the ledger: what a stop leaves of it.
use Rattle.std.specs.Prelude.{◌≡◌, ◌⊎◌, ◌≤◌, ◌+◌, ℕ, true, false, List, [], ◌∷◌, ◌++◌, length, drop}
use Rattle.aea_disk.specs.State.{State}
use Rattle.aea_copies.specs.Format.{copied, first_link, last_link, text_of, whole_copy}
use Rattle.aea_disk.specs.Ends.{greatest_place}
use Rattle.aea_copies.specs.Grammar.{IsBegun, is_first}
use Rattle.aea_copy_writer.specs.declared.entries.Written.{Written}
use Rattle.aea_copy_writer.specs.Changes.{FitsChange}
use Rattle.aea_copy_writer.specs.Entries.{HasPieces}

-- The file is as it was, or it is not begun: it has fewer than 10 bytes, or its gate is not open.
abbrev pub IsOldOrNone : List ℕ → List ℕ → Type 0
IsOldOrNone old new = (new ≡ old) ⊎ (IsBegun new → ⊥)

-- it is not begun, or has these bytes
abbrev pub IsNoneOrMade : List ℕ → List ℕ → Type 0
IsNoneOrMade made new = (IsBegun new → ⊥) ⊎ (new ≡ made)

-- it is as it was, or not begun, or has these bytes
abbrev pub IsOldNoneOrMade : List ℕ → List ℕ → List ℕ → Type 0
IsOldNoneOrMade made old new = (new ≡ old) ⊎ ((IsBegun new → ⊥) ⊎ (new ≡ made))

-- the file has all of these bytes but the first, its gate, which is closed
abbrev pub IsClosed : List ℕ → List ℕ → Type 0
IsClosed made bytes = bytes ≡ 0 ∷ drop 1 made

-- the ledger with the text of these pieces, and a closed gate
abbrev pub whole_text : List (List ℕ) → List ℕ
whole_text pieces = text_of pieces ++ 0 ∷ []

-- the ledger begins with these pieces, up to this place, and a copy can have them
pub record CanMake (pieces : List (List ℕ)) (until : ℕ) (ledger : List ℕ) : Type 0 where
  pub has : HasPieces true pieces 0 until ledger
  pub some : is_first pieces ≡ false
  pub within : length (copied pieces) ≤ greatest_place

-- The ledger begins with the text of pieces, so many bytes, and the disk has space to make a copy of them, and to sync.
pub record FitsCopy (s : State) (file until : ℕ) : Type 0 where
  pub pieces : List (List ℕ)
  pub has : HasPieces true pieces 0 until (s.files 0)
  pub change : FitsChange s file (length (whole_copy pieces))

-- what is said of a copy of these pieces: where the gate that ends it is, and its last link
pub record RevealsCopy (pieces : List (List ℕ)) (w : Written) : Type 0 where
  pub gate : w.gate ≡ length (copied pieces)
  pub link : w.link ≡ last_link first_link pieces
