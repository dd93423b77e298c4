-- What calls that only read leave of blocks that were held.
use Rattle.aea_lattice.specs.declared.blocks.BlockId.{BlockId}
use Rattle.aea_lattice.specs.Shapes.{IsBlockOf}
use Rattle.aea_disk.specs.State.{State, AtEachMoment}
use Rattle.aea_disk.specs.Frames.{OnlyReads}
use Rattle.aea_shelf.specs.Facts.{HomesAreOnItsSites}
use Rattle.aea_shelf.specs.Intact.{IsHeldIn}
use Rattle.aea_ledger.specs.Values.{Opened}
use Rattle.aea_archive.specs.Blocks.{recorded_in, IsHeldBy}
use Rattle.aea_archive.proofs.Writes.{cells_read, cells_held}

-- A block that was held is so at each moment of the calls and after them.
pub held_read : HomesAreOnItsSites → (reveals fault : Type 0) (v : Opened) (old new : State) (b : BlockId) → reveals → IsBlockOf v.shape b → OnlyReads reveals fault old new → IsHeldBy v.shape v.digests old b
    → AtEachMoment old new (IsHeldIn v.shape b (recorded_in v.shape v.digests b)) × IsHeldBy v.shape v.digests new b
held_read sites reveals fault v old new b revealed fits reads held =
    cells_held reveals fault v (λ d. Unit {0}) old new b revealed fits tt (cells_read sites reveals fault fault v.shape v.lattice.n (λ d. Unit {0}) old new (λ is. is) (λ is. is) reads) held
