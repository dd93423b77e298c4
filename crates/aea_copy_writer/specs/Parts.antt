-- Parts of a file that are put into another, and into a hash.
use Rattle.std.specs.Prelude.{◌≡◌, ◌+◌, ℕ, Bool, true, false, List, ◌++◌, length, take, drop}
use Rattle.sha2.specs.declared.Sha256.{Sha256}
use Rattle.sha2.specs.Hashers.{Holds256}
use Rattle.sha2.specs.Sha256.{sha256}
use Rattle.aea_records.specs.Format.{open_gate}
use Rattle.aea_records.specs.TableLaws.{AreBytes}

-- so many bytes of a file from a place on
abbrev pub part_of : List ℕ → ℕ → ℕ → List ℕ
part_of bytes from count = take count (drop from bytes)

-- the file has them all, and they are bytes
pub record IsThere (bytes : List ℕ) (from count : ℕ) : Type 0 where
  pub all : length (part_of bytes from count) ≡ count
  pub are : AreBytes (part_of bytes from count)

-- the hash has taken these bytes after what it held
abbrev pub Takes : Sha256 → List ℕ → Sha256 → Type 0
Takes before bytes after = (message : List ℕ) → Holds256 before message → Holds256 after (message ++ bytes)

-- the link is the digest of what the hash held, and of these bytes after it
abbrev pub IsLinkOf : Sha256 → List ℕ → List ℕ → Type 0
IsLinkOf before bytes link = (message : List ℕ) → Holds256 before message → link ≡ sha256 (message ++ bytes)

-- an open gate, or a closed one
abbrev pub gate_byte : Bool → ℕ
gate_byte true = open_gate
gate_byte false = 0
