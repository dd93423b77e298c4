-- When a close is made.
use Rattle.std.specs.Prelude.{◌≡◌, ◌≢◌, ℕ, ◌+◌, ◌<◌, ◌≤◌, slice_index_or, None, Some}
use Rattle.std.specs.FinMap.{len}
use Rattle.aea_records.specs.Format.{greatest_objects, raised_limit}
use Rattle.aea_machine.specs.Machine.{slots_count}
use Rattle.aea_uploads.specs.declared.slot.Slot.{Slot}
use Rattle.aea_session.specs.declared.work.Work.{Work}

-- No refusal of a close applies: there is such a slot, something is in it, there are not the most objects, and where it has a rest
-- one more node fits.
pub record MayClose (v : Work) (slot : ℕ) : Type 0 where
  pub below : slot < slots_count
  pub kept : Slot
  pub there : slice_index_or v.slots slot None ≡ Some kept
  pub few : len v.ledger.objects ≢ greatest_objects
  pub fits : 1 ≤ kept.have → v.heads.lattice.n + 1 ≤ raised_limit
