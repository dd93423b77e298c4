-- The step of the machine for an abort.
use Rattle.std.proofs.Common.{◌≡◌, ℕ, Bool, false, Option, None, Some, ◌∙◌, ap}
use Rattle.std.specs.Prelude.{if◌then◌else◌}
use Rattle.aea_lattice.specs.declared.shape.Shape.{Shape}
use Rattle.aea_messages.specs.declared.message.Message.TheVariants.{Abort}
use Rattle.aea_machine.specs.Machine.{Upload, Machine, Made, BadSlot, SlotFree, stays, step, in_slot, with_slot, is_no_slot, abort_in}

-- of a slot with this in it
aborts_in : (shape : Shape) (m : Machine) (slot : ℕ) (p : Option Upload) → is_no_slot slot ≡ false → in_slot m slot ≡ p → step shape m (Abort slot) ≡ abort_in m slot p
aborts_in shape m slot p is there = ap (λ (b : Bool). if b then stays m BadSlot else abort_in m slot (in_slot m slot)) is ∙ ap (abort_in m slot) there

-- of a free slot, and of one with an upload
pub aborts_free : (shape : Shape) (m : Machine) (slot : ℕ) → is_no_slot slot ≡ false → in_slot m slot ≡ None → step shape m (Abort slot) ≡ stays m SlotFree
aborts_free shape m slot is there = aborts_in shape m slot None is there

pub aborts_made : (shape : Shape) (m : Machine) (slot : ℕ) (u : Upload) → is_no_slot slot ≡ false → in_slot m slot ≡ Some u
    → step shape m (Abort slot) ≡ record { state = with_slot m slot None; answer = Made }
aborts_made shape m slot u is there = aborts_in shape m slot (Some u) is there
