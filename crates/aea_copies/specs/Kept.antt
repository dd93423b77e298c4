-- What is kept of a ledger by its copies, and the ledger that is made of it.
use Rattle.std.specs.Prelude.{◌≡◌, ◌≢◌, ◌⊎◌, ◌≤◌, ◌+◌, ◌&&◌, ◌==◌, nat_lt, if◌then◌else◌, ℕ, List, [], ◌∷◌, ◌++◌, length, take, drop, slice_index}
use Rattle.std.specs.Str.{bytes_eq}
use Rattle.aea_disk.specs.Files.{Files}
use Rattle.aea_records.specs.Format.{open_gate}
use Rattle.aea_copies.specs.Format.{copied, text_of}
use Rattle.aea_copies.specs.Grammar.{IsCopy, IsBegun}

-- the file is one of the two copies
abbrev pub IsCopyFile : ℕ → Type 0
IsCopyFile file = (file ≡ 65) ⊎ (file ≡ 66)

-- the bytes are a good copy of these pieces
abbrev pub IsGood : List (List ℕ) → List ℕ → Type 0
IsGood pieces bytes = IsCopy bytes pieces (length (copied pieces))

-- copies are on
abbrev pub AreOn : Files → Type 0
AreOn files = IsBegun (files 65) ⊎ IsBegun (files 66)

-- These pieces are kept: a copy is good and has them, and the text of each good copy is a beginning of theirs.
pub record AreKept (files : Files) (pieces : List (List ℕ)) : Type 0 where
  pub file : ℕ
  pub is : IsCopyFile file
  pub good : IsGood pieces (files file)
  pub longest : (f : ℕ) (others : List (List ℕ)) → IsCopyFile f → IsGood others (files f) → (more : List ℕ) × (text_of pieces ≡ text_of others ++ more)

-- The ledger that is made where this text is kept: the ledger as it is where it has the text and after it a gate that is
-- not open; the same with that gate closed where it is open; else the text and a closed gate.
abbrev pub mended : List ℕ → List ℕ → List ℕ
mended text ledger =
    if nat_lt (length text) (length ledger) && bytes_eq (take (length text) ledger) text
    then (if slice_index ledger (length text) == open_gate then text ++ (0 ∷ drop (length text + 1) ledger) else ledger)
    else text ++ 0 ∷ []

-- What is left of files where no copies are on, or pieces are kept: nothing changes; or the ledger is the one that is made,
-- and both copies are good copies of these pieces. The other files stay.
pub record LeavesAdopted (old new : Files) : Type 0 where
  pub off : (AreOn old → ⊥) → (f : ℕ) → new f ≡ old f
  pub ledger : (pieces : List (List ℕ)) → AreKept old pieces → new 0 ≡ mended (text_of pieces) (old 0)
  pub copies : (pieces : List (List ℕ)) → AreKept old pieces → (f : ℕ) → IsCopyFile f → IsGood pieces (new f)
  pub others : (f : ℕ) → 1 ≤ f → f ≤ 64 → new f ≡ old f

-- the bytes begin with this text, and after it is a gate that is not open
pub record HasText (text bytes : List ℕ) : Type 0 where
  pub gate : ℕ
  pub closed : gate ≢ open_gate
  pub after : List ℕ
  pub spelling : bytes ≡ text ++ gate ∷ after
