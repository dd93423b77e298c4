-- Blocks that are held at a moment, in each of its images.
use Rattle.std.proofs.Common.{ℕ, List, sym, subst, arith}
use Rattle.aea_lattice.specs.declared.blocks.BlockId.{BlockId}
use Rattle.aea_lattice.specs.declared.shape.Shape.{Shape}
use Rattle.aea_lattice.specs.Shapes.{IsBlockOf}
use Rattle.aea_disk.specs.Files.{Files}
use Rattle.aea_disk.specs.State.{State, AtEachMoment}
use Rattle.aea_shelf.specs.Places.{home_bytes, HasAtHome}
use Rattle.aea_shelf.specs.Intact.{IsBlockHeld, IsHeldIn}
use Rattle.aea_shelf.specs.Writes.{KeepsShelf}
use Rattle.aea_shelf.proofs.Cells.{length-home, at_home, intact_of}

-- a block that is held is held in the images of now
pub held_in : (shape : Shape) (b : BlockId) (recorded : List ℕ) (s : State) → IsBlockHeld shape b recorded s → IsHeldIn shape b recorded (s.image s.moment)
held_in shape b recorded s held = record {
  bytes = home_bytes shape b s.files;
  size = length-home shape b s.files held.intact.within;
  cell = held.intact.here;
  images = held.images;
}

-- and back, where the disk as it reads is one of them
pub held_of : (shape : Shape) (b : BlockId) (recorded : List ℕ) (s : State) → s.image s.moment s.files → IsHeldIn shape b recorded (s.image s.moment) → IsBlockHeld shape b recorded s
held_of shape b recorded s reads held =
    let here = held.images s.files reads in
    let same = (at_home shape b held.bytes s.files held.size here).0 in
    record {
      intact = intact_of shape b recorded held.bytes s.files held.size here held.cell;
      images = λ c image. subst (λ (xs : List ℕ). HasAtHome shape b xs c) (sym same) (held.images c image);
    }

-- fewer images
pub held_less : (shape : Shape) (b : BlockId) (recorded : List ℕ) (all some : Files → Type 0) → ((c : Files) → some c → all c) → IsHeldIn shape b recorded all → IsHeldIn shape b recorded some
held_less shape b recorded all some fewer held = record { bytes = held.bytes; size = held.size; cell = held.cell; images = λ c here. held.images c (fewer c here) }

-- a block that stays is held at each moment of the calls
pub held_through : (reveals : Type 0) (shape : Shape) (keep : BlockId → Type 0) (old new : State) (a : BlockId) (recorded : List ℕ) → IsBlockOf shape a → keep a → KeepsShelf reveals shape keep old new
    → IsHeldIn shape a recorded (old.image old.moment) → AtEachMoment old new (IsHeldIn shape a recorded)
held_through reveals shape keep old new a recorded has_a kept shelf held t from to = record {
  bytes = held.bytes;
  size = held.size;
  cell = held.cell;
  images = λ c here. let was = shelf.images t c from to here in was.2 a held.bytes has_a kept (omega (arith, held.size)) (held.images was.0 was.1);
}
