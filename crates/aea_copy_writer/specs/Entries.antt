-- Entries that are written after the closed gate of a copy, one for each piece of a part of the ledger.
use Rattle.std.specs.Prelude.{◌≡◌, ◌<◌, ◌+◌, ◌^◌, ◌==◌, ℕ, Bool, false, List, [], ◌∷◌, ◌++◌, length, take, drop, nat_lt}
use Rattle.aea_disk.specs.Files.{Files, ChangesFile, Holds}
use Rattle.aea_disk.specs.State.{State}
use Rattle.aea_copies.specs.Format.{chain, copy_entry, last_link, link_after, text_of}
use Rattle.aea_copies.specs.Grammar.{IsKind}
use Rattle.aea_copy_writer.specs.declared.entries.Written.{Written}
use Rattle.aea_copy_writer.specs.declared.entries.Next.{Next}
use Rattle.aea_copy_writer.specs.Changes.{FitsChange}
use Rattle.aea_copy_writer.specs.Parts.{gate_byte}

-- a piece by its length, its gate and the length that it says: one that may come first, or a further one
pub record IsShaped (first : Bool) (piece : List ℕ) : Type 0 where
  pub short : length piece < 2 ^ 32
  pub kind : IsKind first piece

abbrev pub AreShaped : Bool → List (List ℕ) → Type 0
AreShaped first [] = Unit {0}
AreShaped first (piece ∷ pieces) = IsShaped first piece × AreShaped false pieces

-- The bytes have these pieces, from one place up to another; the first of them may be one that comes first, or not.
pub record HasPieces (first : Bool) (pieces : List (List ℕ)) (from until : ℕ) (bytes : List ℕ) : Type 0 where
  pub shaped : AreShaped first pieces
  pub place : until ≡ from + length (text_of pieces)
  pub there : take (length (text_of pieces)) (drop from bytes) ≡ text_of pieces

-- what is after the closed gate, where the entries of these pieces are: all of them but the gate of the first, and a closed gate
abbrev pub after_gate : List ℕ → List (List ℕ) → List ℕ
after_gate link pieces = drop 1 (chain link pieces ++ 0 ∷ [])

-- The entries of these pieces were written after the closed gate at this place, and no other byte: where the gate after them
-- is, and the last link.
pub record HasWritten (file gate : ℕ) (link : List ℕ) (pieces : List (List ℕ)) (w : Written) (old new : Files) : Type 0 where
  pub place : w.gate ≡ gate + length (chain link pieces)
  pub last : w.link ≡ last_link link pieces
  pub step : ChangesFile file (Holds (gate + 1) (after_gate link pieces)) old new

-- The ledger has pieces there, and the disk has space for their entries and the gate after them, and to sync.
pub record FitsEntries (s : State) (file gate : ℕ) (link : List ℕ) (from until : ℕ) : Type 0 where
  pub pieces : List (List ℕ)
  pub has : HasPieces (from == 0) pieces from until (s.files 0)
  pub change : FitsChange s file (gate + length (chain link pieces) + 1)

-- the gate after an entry whose piece ends at this place: open where there are more
abbrev pub gate_after : (at until : ℕ) → ℕ
gate_after at until = gate_byte (nat_lt at until)

-- The entry of this piece, which begins at this place of the ledger, was written after the gate that the last one ends at.
pub record HasNext (file at until : ℕ) (last : Written) (piece : List ℕ) (next : Next) (old new : Files) : Type 0 where
  pub begins : next.at ≡ at + length piece
  pub gate : next.last.gate ≡ last.gate + (37 + length piece)
  pub link : next.last.link ≡ link_after last.link piece
  pub step : ChangesFile file (Holds (last.gate + 1) (drop 1 (copy_entry last.link piece) ++ gate_after (at + length piece) until ∷ [])) old new

-- The ledger has a piece there, and others after it, and the disk has space for its entry and a gate, and to sync.
pub record FitsNext (s : State) (file at until gate : ℕ) : Type 0 where
  pub piece : List ℕ
  pub others : List (List ℕ)
  pub has : HasPieces (at == 0) (piece ∷ others) at until (s.files 0)
  pub change : FitsChange s file (gate + (37 + length piece) + 1)

-- So far the first of these pieces have been written, and the others are still to be read from the ledger.
pub record IsOn (file gate : ℕ) (link : List ℕ) (pieces : List (List ℕ)) (from until at : ℕ) (last : Written) (old new : Files) : Type 0 where
  pub done : List (List ℕ)
  pub more : List (List ℕ)
  pub split : pieces ≡ done ++ more
  pub text : at ≡ from + length (text_of done)
  pub place : last.gate ≡ gate + length (chain link done)
  pub linked : last.link ≡ last_link link done
  pub step : ChangesFile file (Holds (gate + 1) (drop 1 (chain link done ++ gate_after at until ∷ []))) old new
  pub rest : HasPieces (at == 0) more at until (old 0)
