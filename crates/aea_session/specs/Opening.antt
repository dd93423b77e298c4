-- What an open looks at, and the step that it is.
use Rattle.std.specs.Prelude.{ℕ, Bool, false, List, Option, None, Some}
use Rattle.std.specs.Str.{bytes_eq}
use Rattle.aea_machine.specs.declared.refusal.Refusal.{Refusal}
use Rattle.aea_machine.specs.Machine.{Machine, Step, Made, stays, with_slot}
use Rattle.aea_machine.specs.Refusals.{refused_by}
use Rattle.aea_uploads.specs.declared.slot.Slot.{Slot}
use Rattle.aea_uploads.specs.Slots.{opened}

-- whether an upload of this name is kept in the slot
abbrev pub keeps_name : List ℕ → Option Slot → Bool
keeps_name name None = false
keeps_name name (Some s) = bytes_eq name s.name

-- the step of an open that is refused so, or by nothing
abbrev pub opened_unless : Machine → ℕ → List ℕ → Option Refusal → Step
opened_unless m slot name (Some refusal) = stays m (refused_by refusal)
opened_unless m slot name None = record { state = with_slot m slot (Some (opened name)); answer = Made }
