-- A chunk: whether the machine takes it, and what its bytes do to what a session keeps.
use Rattle.std.specs.Prelude.{◌≡◌, ℕ, ◌+◌, ◌-◌, ◌*◌, ◌<◌, true, List, length, slice_index_or, slice_set, Option, None, Some}
use Rattle.aea_lattice.specs.declared.shape.Shape.{Shape}
use Rattle.aea_disk.specs.Files.{Files}
use Rattle.aea_messages.specs.declared.message.Message.TheVariants.{Chunk}
use Rattle.aea_machine.specs.declared.refusal.Refusal.{Refusal}
use Rattle.aea_machine.specs.Machine.{Upload, Machine, step, stays, in_slot, slots_count, has_room, filled_by}
use Rattle.aea_machine.specs.Refusals.{refused_by}
use Rattle.aea_uploads.specs.declared.slot.Slot.{Slot}
use Rattle.aea_uploads.specs.Gathering.{Gathers}
use Rattle.aea_session.specs.declared.work.Work.{Work}

-- The machine takes a chunk of these bytes: the slot has an upload, and there is a node for each block that this fills with them.
pub record TakesChunk (shape : Shape) (m : Machine) (slot : ℕ) (bytes : List ℕ) : Type 0 where
  pub upload : Upload
  pub inside : slot < slots_count
  pub there : in_slot m slot ≡ Some upload
  pub fits : has_room m (length (filled_by shape upload bytes)) ≡ true

-- the machine refuses the chunk so, or takes it
abbrev pub IsDecided : Shape → Machine → ℕ → List ℕ → Option Refusal → Type 0
IsDecided shape m slot bytes None = TakesChunk shape m slot bytes
IsDecided shape m slot bytes (Some refusal) = step shape m (Chunk slot bytes) ≡ stays m (refused_by refusal)

-- The bytes joined what the slot keeps, the blocks that they filled were woven, and the session has the digests of their nodes
-- after the others.
pub record AddsChunk (reveals : Type 0) (v w : Work) (slot : ℕ) (bytes : List ℕ) (old new : Files) : Type 0 where
  pub before : Slot
  pub after : Slot
  pub was : slice_index_or v.slots slot None ≡ Some before
  pub slots : w.slots ≡ slice_set v.slots slot (Some after)
  pub gathers : Gathers reveals v.ledger.shape bytes v.heads w.heads before after v.digests.items w.digests.items old new
  pub counted : length w.digests.items ≡ length v.digests.items + (w.heads.lattice.n - v.heads.lattice.n) * (1 + v.ledger.shape.alpha)
  pub cell : length w.cell.items ≡ length v.cell.items
