-- “Copies”: which bytes are a good copy, of which pieces, and at which place a copy is bad.
use Rattle.std.specs.Prelude.{◌≡◌, ◌≢◌, ◌⊎◌, ◌<◌, ◌≤◌, ◌+◌, ◌^◌, ℕ, Bool, true, false, List, [], ◌∷◌, ◌++◌, length, take, drop, slice_index}
use Rattle.std.specs.Int.{w32, from_be_bytes}
use Rattle.aea_records.specs.Format.{open_gate}
use Rattle.aea_disk.specs.Ends.{greatest_place}
use Rattle.aea_records.specs.TableLaws.{AreBytes}
use Rattle.aea_copies.specs.Format.{first_link, last_link, copy_entry, copy_mark, copied}

-- The first piece has the 17 bytes of a ledger's header, whose gate is open; each further piece is one record with its open
-- gate: after the gate and the kind is the number of the bytes that follow it.
pub record IsHeaderPiece (piece : List ℕ) : Type 0 where
  pub long : length piece ≡ 17
  pub gate : slice_index piece 0 ≡ open_gate

pub record IsRecordPiece (piece : List ℕ) : Type 0 where
  pub long : 6 ≤ length piece
  pub gate : slice_index piece 0 ≡ open_gate
  pub size : from_be_bytes w32 (take 4 (drop 2 piece)) + 6 ≡ length piece

-- a piece of bytes, as many as an entry can have, that may come as the first or as a further one
abbrev pub IsKind : Bool → List ℕ → Type 0
IsKind true piece = IsHeaderPiece piece
IsKind false piece = IsRecordPiece piece

pub record IsPiece (first : Bool) (piece : List ℕ) : Type 0 where
  pub bytes : AreBytes piece
  pub short : length piece < 2 ^ 32
  pub kind : IsKind first piece

-- no piece is before it
abbrev pub is_first : List (List ℕ) → Bool
is_first [] = true
is_first (piece ∷ pieces) = false

-- all pieces of a copy
abbrev pub ArePieces : Bool → List (List ℕ) → Type 0
ArePieces first [] = Unit {0}
ArePieces first (piece ∷ pieces) = IsPiece first piece × ArePieces false pieces

-- The bytes are a good copy of these pieces, and its entries end at this place: it is begun and has the mark; each entry
-- has the right link, and none ends past the greatest place; the gate after them is there and is not open. What is
-- after that gate has no meaning.
pub record IsCopy (bytes : List ℕ) (pieces : List (List ℕ)) (end : ℕ) : Type 0 where
  pub some : is_first pieces ≡ false
  pub valid : ArePieces true pieces
  pub gate : ℕ
  pub closed : gate ≢ open_gate
  pub after : List ℕ
  pub spelling : bytes ≡ copied pieces ++ gate ∷ after
  pub place : end ≡ length (copied pieces)
  pub within : end ≤ greatest_place

-- the copy is begun
pub record IsBegun (bytes : List ℕ) : Type 0 where
  pub long : 10 ≤ length bytes
  pub gate : slice_index bytes 0 ≡ open_gate

-- it has the mark
abbrev pub HasMark : List ℕ → Type 0
HasMark bytes = take 8 (drop 1 bytes) ≡ copy_mark

-- After these pieces, at this place, begins an entry of the piece.
pub record IsEntry (earlier : List (List ℕ)) (place : ℕ) (rest piece after : List ℕ) : Type 0 where
  pub valid : IsPiece (is_first earlier) piece
  pub spelling : rest ≡ copy_entry (last_link first_link earlier) piece ++ after
  pub within : place + (37 + length piece) ≤ greatest_place

-- What is at a gate after these pieces is bad: the gate is missing, no entry is before the one that ends them, or what
-- follows an open gate is no entry.
abbrev pub IsBadGate : List (List ℕ) → ℕ → List ℕ → Type 0
IsBadGate earlier place [] = Unit {0}
IsBadGate earlier place (gate ∷ behind) =
    ((gate ≢ open_gate) × (is_first earlier ≡ true))
    ⊎ ((gate ≡ open_gate) × ((piece after : List ℕ) → IsEntry earlier place (gate ∷ behind) piece after → ⊥))

-- After good entries the copy is bad at a gate.
pub record IsBadEntryAt (bytes : List ℕ) (at : ℕ) : Type 0 where
  pub pieces : List (List ℕ)
  pub valid : ArePieces true pieces
  pub rest : List ℕ
  pub spelling : bytes ≡ copied pieces ++ rest
  pub place : at ≡ length (copied pieces)
  pub within : at ≤ greatest_place
  pub bad : IsBadGate pieces at rest

-- “bad at”: the copy is bad at this place, the least that applies
abbrev pub IsBadCopyAt : List ℕ → ℕ → Type 0
IsBadCopyAt bytes at =
    ((at ≡ 0) × (IsBegun bytes → ⊥))
    ⊎ ((at ≡ 1) × IsBegun bytes × (HasMark bytes → ⊥))
    ⊎ ((9 ≤ at) × IsBegun bytes × IsBadEntryAt bytes at)

-- a copy can have these pieces
pub record CanBeCopied (pieces : List (List ℕ)) : Type 0 where
  pub some : is_first pieces ≡ false
  pub valid : ArePieces true pieces
  pub within : length (copied pieces) ≤ greatest_place
