-- “Rehearsal”: the archive of a rehearsal, which of its blocks are altered and how, and what is there when it is done. It is
-- given by the shape of the archive, its lattice, and the number from which the generator begins.
use Rattle.std.specs.Prelude.{◌≡◌, ◌↔◌, ◌⊎◌, ℕ, ◌+◌, ◌*◌, Bool, not, ◌&&◌, cond, List, [], ◌∷◌, ◌++◌, length, codes, bit_xor, IsTrue, Some}
use Rattle.std.specs.Str.{bytes_eq}
use Rattle.sha2.specs.Sha256.{sha256}
use Rattle.aea_lattice.specs.declared.blocks.BlockId.{BlockId}
use Rattle.aea_lattice.specs.declared.grid.Lattice.{Lattice}
use Rattle.aea_lattice.specs.declared.shape.Shape.{Shape}
use Rattle.aea_lattice.specs.Blocks.{HasBlock, blocks_count, number_of}
use Rattle.aea_lattice.specs.Data.{value_of, Determines}
use Rattle.aea_disk.specs.Files.{Files}
use Rattle.aea_envelope.specs.Cells.{head_of, block_digest, cell_of}
use Rattle.aea_shelf.specs.Places.{HasAtHome}
use Rattle.aea_report.specs.declared.head.Head.{Head}
use Rattle.aea_report.specs.declared.line.Line.{Line}
use Rattle.aea_report.specs.Printed.{IsPrinted}
use Rattle.aea_report.specs.Fits.{Fits}
use Rattle.aea_records.specs.Format.{Stored, Object, spelled}
use Rattle.aea_ledger.specs.Recorded.{IsLatticeOf, AreRecordsOf}
use Rattle.aea_ledger.specs.Stops.{HasLedger}
use Rattle.aea_archive.specs.Blocks.{IsIntactBy, RevealsSurvivors}
use Rattle.aea_archive.specs.Next.{object_blocks}
use Rattle.aea_rehearse.specs.Generator.{state_after, bytes_from, strikes}
use Rattle.aea_rehearse.specs.declared.rehearsal.Rehearsal.{Rehearsal}

-- The archive is AE(3,2,5), with blocks of 512 bytes, on ten sites.
pub record IsRehearsalShape (shape : Shape) : Type 0 where
  pub alpha : shape.alpha ≡ 3
  pub s : shape.s ≡ 2
  pub p : shape.p ≡ 5
  pub block : shape.block ≡ 512
  pub sites : shape.sites ≡ 10

-- the bytes of its one object: 512 for each node, a step of the generator for each byte
abbrev pub object_bytes : Lattice → ℕ → List ℕ
object_bytes l number = bytes_from number (l.n * 512)

-- the data list that they are
abbrev pub rehearsal_data : Shape → Lattice → ℕ → List (List ℕ)
rehearsal_data shape l number = object_blocks shape (object_bytes l number)

-- the payload of a block as it is woven
abbrev pub woven_payload : Shape → Lattice → ℕ → BlockId → List ℕ
woven_payload shape l number b = value_of l shape.block (rehearsal_data shape l number) b

-- the first byte, by XOR with 1
abbrev pub flipped : List ℕ → List ℕ
flipped [] = []
flipped (x ∷ xs) = bit_xor x 1 ∷ xs

-- a block's cell in which a bit of the first byte of the payload is flipped, and the digest is that of the payload before
abbrev pub flipped_cell : BlockId → List ℕ → List ℕ
flipped_cell b payload = head_of b ++ flipped payload ++ block_digest b payload

-- whether the payload, flipped, has the digest that it has otherwise
abbrev pub keeps_digest : BlockId → List ℕ → Bool
keeps_digest b payload = bytes_eq (block_digest b (flipped payload)) (block_digest b payload)

-- the state by which it is judged whether a block is altered: after the steps for the bytes there is one for each block, in
-- number order
abbrev pub block_state : Lattice → ℕ → BlockId → ℕ
block_state l number b = state_after number (l.n * 512 + (number_of l b + 1))

-- whether a block is altered: where its state strikes, but for a block that would keep its digest
abbrev pub is_altered : Shape → Lattice → ℕ → ℕ → BlockId → Bool
is_altered shape l number permille b =
    strikes permille (block_state l number b) && not (keeps_digest b (woven_payload shape l number b))

-- whether it is left unaltered
abbrev pub is_unaltered : Shape → Lattice → ℕ → ℕ → BlockId → Bool
is_unaltered shape l number permille b = not (is_altered shape l number permille b)

-- what is at the home of a block when the altering is done
abbrev pub left_cell : Shape → Lattice → ℕ → ℕ → BlockId → List ℕ
left_cell shape l number permille b =
    cond (is_altered shape l number permille b) (flipped_cell b (woven_payload shape l number b)) (cell_of b (woven_payload shape l number b))

-- The record is the one of the object `rehearsal`, with these bytes.
pub record IsRehearsalRecord (bytes : List ℕ) (o : Stored) : Type 0 where
  pub name : o.name ≡ codes "rehearsal"
  pub size : o.size ≡ length bytes
  pub digest : o.digest ≡ sha256 bytes

-- The counts are those of the report: of all blocks, and of those that its head names.
pub record HasCountsOf (l : Lattice) (h : Head) (r : Rehearsal) : Type 0 where
  pub blocks : r.blocks ≡ blocks_count l
  pub damaged : r.damaged ≡ h.damaged
  pub peeled : r.peeled ≡ h.peeled
  pub solved : r.solved ≡ h.solved
  pub lost : r.lost ≡ h.lost

-- What a rehearsal from this number leaves, with so many nodes and so many blocks in a thousand that are struck:
pub record IsRehearsed (number nodes permille : ℕ) (c : Files) (r : Rehearsal) : Type 0 where
  pub shape : Shape
  pub is_shape : IsRehearsalShape shape
  pub lattice : Lattice
  pub is_lattice : IsLatticeOf shape nodes [] lattice
  -- the ledger has one record, of the generated bytes, and records the data list of their blocks
  pub stored : Stored
  pub is_stored : IsRehearsalRecord (object_bytes lattice number) stored
  pub ledger : HasLedger shape (Object stored ∷ []) (c 0)
  pub recorded : AreRecordsOf shape (Object stored ∷ []) (rehearsal_data shape lattice number)
  -- the blocks that are intact are the unaltered ones and those that they determine, and each other one is as it was altered
  pub intact : (b : BlockId) → HasBlock lattice b
      → IsIntactBy shape stored.digests c b ↔ (IsTrue (is_unaltered shape lattice number permille b) ⊎ Determines lattice (is_unaltered shape lattice number permille) b)
  pub others : (b : BlockId) → HasBlock lattice b → (IsIntactBy shape stored.digests c b → ⊥)
      → HasAtHome shape b (flipped_cell b (woven_payload shape lattice number b)) c
  -- the counts are those of the printed report for the unaltered blocks, with the ledger's seal, and it fits what is left
  pub head : Head
  pub lines : List Line
  pub printed : IsPrinted lattice (is_unaltered shape lattice number permille) (Some (sha256 (spelled shape (Object stored ∷ [])))) head lines
  pub counts : HasCountsOf lattice head r
  pub accepted : (test : BlockId → Bool) → RevealsSurvivors shape nodes stored.digests c test
      → Fits lattice (sha256 (spelled shape (Object stored ∷ []))) test head lines
