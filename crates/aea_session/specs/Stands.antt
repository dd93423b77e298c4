-- What a session keeps, and the state of the machine that it stands for.
use Rattle.std.specs.Prelude.{◌≡◌, ℕ, ◌+◌, ◌*◌, true, List, ◌++◌, length, slice_index_or, Option, None, Some}
use Rattle.aea_lattice.specs.declared.shape.Shape.{Shape}
use Rattle.aea_lattice.specs.Growth.{IsGrown}
use Rattle.aea_disk.specs.Files.{Files}
use Rattle.aea_shelf.specs.Places.{cell_size}
use Rattle.aea_records.specs.Format.{Record}
use Rattle.aea_ledger.specs.Values.{HasRecords, IsThisOne}
use Rattle.aea_ledger.specs.Recorded.{AreRecordsOf}
use Rattle.aea_machine.specs.Machine.{Upload, Machine, in_slot, slots_count}
use Rattle.aea_machine.specs.Sound.{HaveOwnNames, IsWithinLimits}
use Rattle.aea_append.specs.Weaving.{IsWovenOf, AreIntactOn}
use Rattle.aea_uploads.specs.declared.slot.Slot.{Slot}
use Rattle.aea_uploads.specs.Laws.{AreWide}
use Rattle.aea_uploads.specs.Slots.{Keeps}
use Rattle.aea_session.specs.declared.work.Work.{Work}

-- what is kept in a slot is the machine's upload there, or nothing where it has none
abbrev pub IsKept : Shape → List (List ℕ) → Option Slot → Option Upload → Type 0
IsKept shape datas None None = Unit {0}
IsKept shape datas None (Some u) = ⊥
IsKept shape datas (Some s) None = ⊥
IsKept shape datas (Some s) (Some u) = Keeps shape datas s u

-- The session keeps this state of the machine, whose X may be any list with as many blocks as the ledger has nodes: the heads are
-- after the nodes of X and W, there is a digest for each block of W, and each slot keeps its upload.
pub record KeepsMachine (v : Work) (m : Machine) : Type 0 where
  pub objects : m.objects ≡ v.ledger.objects
  pub raised : v.ledger.raised ≡ true
  pub datas : length m.datas ≡ v.ledger.lattice.n
  pub grown : IsGrown v.ledger.lattice (v.ledger.lattice.n + length m.woven) v.heads.lattice
  pub size : v.heads.size ≡ v.ledger.shape.block
  pub wide : AreWide v.ledger.shape (m.datas ++ m.woven)
  pub digests : length v.digests.items ≡ length m.woven * (1 + v.ledger.shape.alpha)
  pub cell : length v.cell.items ≡ cell_size v.ledger.shape
  pub many : length v.slots ≡ slots_count
  pub count : length m.slots ≡ slots_count
  pub slots : (slot : ℕ) → IsKept v.ledger.shape (m.datas ++ m.woven) (slice_index_or v.slots slot None) (in_slot m slot)
  pub names : HaveOwnNames m
  pub limits : IsWithinLimits m

-- it keeps some state of the machine
abbrev pub KeepsSomeMachine : Work → Type 0
KeepsSomeMachine v = (m : Machine) × KeepsMachine v m

-- And it stands for X and W: the ledger records X, and heads and digests are those of X followed by W.
pub record StandsFor (v : Work) (m : Machine) : Type 0 where
  pub records : List Record
  pub has : HasRecords v.ledger records
  pub recorded : AreRecordsOf v.ledger.shape records m.datas
  pub woven : IsWovenOf v.ledger.shape v.ledger.lattice v.heads m.datas m.woven v.digests.items

-- The disk is the session's: it has the session's ledger, and each block of W is intact by the digest that the session keeps.
pub record IsTheSessions (v : Work) (c : Files) : Type 0 where
  pub ledger : IsThisOne v.ledger (c 0)
  pub cells : AreIntactOn (Unit {0}) v.ledger.shape v.ledger.lattice.n v.heads.lattice.n v.digests.items c
