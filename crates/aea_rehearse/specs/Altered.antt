-- The stages of a rehearsal: the archive when its blocks are altered, and when it is repaired.
use Rattle.std.specs.Prelude.{◌≡◌, ◌+◌, ◌*◌, ℕ, Bool, List, [], ◌∷◌, length, Ok, Some}
use Rattle.aea_lattice.specs.declared.blocks.BlockId.{BlockId}
use Rattle.aea_lattice.specs.declared.grid.Lattice.{Lattice}
use Rattle.aea_lattice.specs.declared.shape.Shape.{Shape}
use Rattle.aea_lattice.specs.Blocks.{HasBlock}
use Rattle.aea_disk.specs.Files.{Files}
use Rattle.aea_envelope.specs.Cells.{block_digest}
use Rattle.aea_shelf.specs.Places.{HasAtHome}
use Rattle.aea_shelf.specs.Writes.{KeepsHomes}
use Rattle.aea_report.specs.declared.head.Head.{Head}
use Rattle.aea_report.specs.declared.line.Line.{Line}
use Rattle.aea_report.specs.Fits.{Fits}
use Rattle.aea_report.specs.Grammar.{IsReport}
use Rattle.aea_report.specs.Printed.{IsPrinted}
use Rattle.aea_records.specs.Format.{Stored, Object, nodes_of}
use Rattle.aea_ledger.specs.Recorded.{IsLatticeOf, AreRecordsOf}
use Rattle.aea_ledger.specs.Values.{Opened, IsThisOne}
use Rattle.aea_ledger.specs.Stops.{HasLedger}
use Rattle.aea_archive.specs.Blocks.{recorded_in, RevealsSurvivors}
use Rattle.aea_restore.specs.Laws.{IsRestorable}
use Rattle.aea_restore.specs.Repairs.{IsLeft}
use Rattle.aea_repair.specs.declared.outcome.Outcome.{Outcome}
use Rattle.aea_repair.specs.Repairs.{Restores}
use Rattle.aea_repair.specs.Reports.{HasNumbersOf}
use Rattle.aea_rehearse.specs.declared.rehearsal.Rehearsal.{Rehearsal}
use Rattle.aea_rehearse.specs.Rehearsed.{IsRehearsalShape, IsRehearsalRecord, object_bytes, rehearsal_data, woven_payload, left_cell}

-- The blocks of an archive with these digests were gone through: each has the digest of its woven payload, and its home has
-- the cell, or the flipped one where it is altered.
pub record IsAlteredAt (number permille : ℕ) (shape : Shape) (l : Lattice) (digests : List (List ℕ)) (c : Files) : Type 0 where
  pub wide : (b : BlockId) → HasBlock l b → length (woven_payload shape l number b) ≡ shape.block
  pub recorded : (b : BlockId) → HasBlock l b → block_digest b (woven_payload shape l number b) ≡ recorded_in shape digests b
  pub left : (b : BlockId) → HasBlock l b → HasAtHome shape b (left_cell shape l number permille b) c

-- The archive was made and altered.
pub record IsAltered (number nodes permille : ℕ) (c : Files) : Type 0 where
  pub shape : Shape
  pub is_shape : IsRehearsalShape shape
  pub lattice : Lattice
  pub is_lattice : IsLatticeOf shape nodes [] lattice
  pub stored : Stored
  pub is_stored : IsRehearsalRecord (object_bytes lattice number) stored
  pub count : nodes_of (Object stored ∷ []) ≡ nodes
  pub ledger : HasLedger shape (Object stored ∷ []) (c 0)
  pub recorded : AreRecordsOf shape (Object stored ∷ []) (rehearsal_data shape lattice number)
  pub altered : IsAlteredAt number permille shape lattice stored.digests c

-- The opened archive was repaired, with these bytes as its report: for each test of the blocks that were intact before.
pub record IsMended (v : Opened) (bytes : List ℕ) (old new : Files) (o : Outcome) : Type 0 where
  pub restores : (known : BlockId → Bool) → RevealsSurvivors v.shape v.lattice.n v.digests old known → Restores {T = Outcome} v known old new (Ok o)
  pub stays : (known : BlockId → Bool) → RevealsSurvivors v.shape v.lattice.n v.digests old known → KeepsHomes v.shape (IsLeft (IsRestorable v.lattice known)) old new
  pub ledger : new 0 ≡ old 0
  pub head : Head
  pub lines : List Line
  pub report : IsReport bytes head lines
  pub printed : (known : BlockId → Bool) → RevealsSurvivors v.shape v.lattice.n v.digests old known → IsPrinted v.lattice known (Some v.seal) head lines
  pub numbers : HasNumbersOf head o
  pub fits : (intact : BlockId → Bool) → RevealsSurvivors v.shape v.lattice.n v.digests new intact → Fits v.lattice v.seal intact head lines

-- The archive was opened and repaired.
pub record IsRestored (old new : Files) (o : Outcome) : Type 0 where
  pub opened : Opened
  pub this : IsThisOne opened (old 0)
  pub bytes : List ℕ
  pub mended : IsMended opened bytes old new o

-- The numbers are those of the outcome.
pub record HasNumbers (nodes : ℕ) (o : Outcome) (r : Rehearsal) : Type 0 where
  pub blocks : r.blocks ≡ 4 * nodes
  pub damaged : r.damaged ≡ o.peeled + o.solved + o.lost
  pub peeled : r.peeled ≡ o.peeled
  pub solved : r.solved ≡ o.solved
  pub lost : r.lost ≡ o.lost
