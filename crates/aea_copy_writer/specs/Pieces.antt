-- One piece that is put into a copy, or is taken from one.
use Rattle.std.specs.Prelude.{◌≡◌, ◌+◌, ◌-◌, ◌≤◌, ◌<◌, ◌^◌, ℕ, List, [], ◌∷◌, ◌++◌, length, drop}
use Rattle.std.specs.Int.{w32, to_be_bytes}
use Rattle.sha2.specs.declared.Sha256.{Sha256}
use Rattle.aea_disk.specs.Files.{Files, ChangesFile, Holds}
use Rattle.aea_copies.specs.Format.{copy_entry, copied, link_after, text_of}
use Rattle.aea_copy_writer.specs.declared.entries.Written.{Written}
use Rattle.aea_copy_writer.specs.declared.entry.Piece.{Piece}
use Rattle.aea_copy_writer.specs.declared.ledger.At.{At}
use Rattle.aea_copy_writer.specs.Parts.{part_of, IsThere, IsLinkOf, gate_byte}

-- After the gate at this place are the bytes of the length, the piece, which the ledger has whole, its link, which is the
-- digest of what the hash held and of the piece, and a gate; and no other byte was written.
pub record HasEntry (file gate : ℕ) (number : List ℕ) (piece : Piece) (hasher : Sha256) (link : List ℕ) (old new : Files) : Type 0 where
  pub there : IsThere (old 0) piece.at piece.len
  pub digest : IsLinkOf hasher (part_of (old 0) piece.at piece.len) link
  pub step : ChangesFile file (Holds (gate + 1) ((number ++ part_of (old 0) piece.at piece.len) ++ (link ++ gate_byte piece.more ∷ []))) old new

-- The entry of the piece, which the ledger has whole, is after the gate, but for its own gate; and a gate is after it.
pub record HasWhole (file : ℕ) (last : Written) (piece : Piece) (link : List ℕ) (old new : Files) : Type 0 where
  pub there : IsThere (old 0) piece.at piece.len
  pub digest : link ≡ link_after last.link (part_of (old 0) piece.at piece.len)
  pub step : ChangesFile file (Holds (last.gate + 1) (drop 1 (copy_entry last.link (part_of (old 0) piece.at piece.len)) ++ gate_byte piece.more ∷ [])) old new

-- At this gate of a copy is the entry of a piece, up to its link.
pub record IsTextAt (bytes : List ℕ) (at : At) (piece rest : List ℕ) : Type 0 where
  pub gate : ℕ
  pub some : 1 ≤ length piece
  pub small : length piece < 2 ^ 32
  pub spelling : drop at.place bytes ≡ gate ∷ (to_be_bytes w32 (length piece) ++ (piece ++ rest))

-- The piece was copied into the ledger's file, after the text before it, but for the file's first byte.
pub record HasMoved (at : At) (piece : List ℕ) (next : At) (old new : Files) : Type 0 where
  pub place : next.place ≡ at.place + (37 + length piece)
  pub text : next.text ≡ at.text + length piece
  pub step : ChangesFile 0 (Holds (at.text + (1 - at.text)) (drop (1 - at.text) piece)) old new

-- So far the text of the first of these pieces was copied into the ledger's file, but for its first byte.
pub record IsFilled (source : ℕ) (pieces : List (List ℕ)) (at : At) (old new : Files) : Type 0 where
  pub done : List (List ℕ)
  pub more : List (List ℕ)
  pub split : pieces ≡ done ++ more
  pub place : at.place ≡ length (copied done)
  pub text : at.text ≡ length (text_of done)
  pub step : ChangesFile 0 (Holds 1 (drop 1 (text_of done))) old new
