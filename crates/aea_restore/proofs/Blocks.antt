-- The ways in which one block is restored: it is marked already, a read fails, or its cell is written.
use Rattle.std.proofs.Common.{◌≡◌, ℕ, List, replicate, Bool, false, refl, sym, ◌∙◌, ap, subst}
use Rattle.aea_lattice.specs.declared.blocks.BlockId.{BlockId}
use Rattle.aea_lattice.specs.declared.blocks.EqId.{EqId}
use Rattle.aea_lattice.specs.Blocks.{HasBlock}
use Rattle.aea_disk.specs.Files.{Files}
use Rattle.aea_envelope.specs.Cells.{block_digest}
use Rattle.aea_ledger.specs.Values.{Opened}
use Rattle.aea_restore.specs.Plans.{Give}
use Rattle.aea_restore.specs.Drawn.{IsDrawn, other_blocks, added_up, AreAllIntact, IsOtherDigest, IsClash}
use Rattle.aea_restore.specs.UnderWay.{IsUnderWay, AreDrawn, GoesOn, IsTornAfter, StaysDrawn}
use Rattle.aea_restore.proofs.Drawing.{drawn_sum, drawn_same}
use Rattle.aea_restore.proofs.Ways.{torn_before}
use Rattle.aea_restore.proofs.Loops.{goes_same, goes_both, torn_both}

-- a read failed
pub read_failed : (v : Opened) (ready : BlockId → Bool) (b : BlockId) (old new : Files) → ready b ≡ false → new ≡ old → IsTornAfter v (λ a. a ≡ b) ready ready old new
read_failed v ready b old new unready same known first way = (b, refl, torn_before v known ready first new b unready (subst (IsUnderWay v known ready first) (sym same) way))

-- reads, and what goes on after them
pub read_then_goes : (v : Opened) (ready after : BlockId → Bool) (old mid new : Files) → mid ≡ old → GoesOn v ready after mid new → GoesOn v ready after old new
read_then_goes v ready after old mid new same late = goes_both v ready ready after old mid new (goes_same v ready old mid same) late

pub read_then_torn : (v : Opened) (ready after : BlockId → Bool) (b : BlockId) (old mid new : Files) → mid ≡ old → IsTornAfter v (λ a. a ≡ b) ready after mid new → IsTornAfter v (λ a. a ≡ b) ready after old new
read_then_torn v ready after b old mid new same late = torn_both v (λ a. a ≡ b) (λ a. a ≡ b) ready ready after old mid new (λ d is. is) (goes_same v ready old mid same) late

-- The sum that was added up is drawn from the survivors, where what can be read is intact.
pub added_drawn : (v : Opened) (known ready : BlockId → Bool) (first old : Files) (b : BlockId) (es : List EqId) (start sum : List ℕ) → HasBlock v.lattice b → Give v.lattice ready b es → start ≡ replicate v.shape.block 0
    → (AreAllIntact v ready old → sum ≡ added_up v.shape old start (other_blocks v.lattice ready b es)) → AreDrawn v known ready first old → IsDrawn v known first b sum
added_drawn v known ready first old b es start sum has gives zeros added all =
    drawn_sum v known ready first old b es sum has gives all
    (added all.intact ∙ ap (λ (s : List ℕ). added_up v.shape old s (other_blocks v.lattice ready b es)) zeros)

-- then the payload stays drawn
pub added_stays : (v : Opened) (ready after : BlockId → Bool) (old mid new : Files) (b : BlockId) (es : List EqId) (start sum : List ℕ) → HasBlock v.lattice b → Give v.lattice ready b es → start ≡ replicate v.shape.block 0 → mid ≡ old
    → (AreAllIntact v ready old → sum ≡ added_up v.shape old start (other_blocks v.lattice ready b es))
    → ((known : BlockId → Bool) (first : Files) → IsDrawn v known first b sum → AreDrawn v known ready first mid → AreDrawn v known after first new)
    → StaysDrawn v ready after old new
added_stays v ready after old mid new b es start sum has gives zeros same added writes known first all =
    writes known first (added_drawn v known ready first old b es start sum has gives zeros added all) (drawn_same v known ready first old mid same all)

-- and another digest of it is a clash
pub added_clash : (v : Opened) (known ready : BlockId → Bool) (first old : Files) (b d : BlockId) (es : List EqId) (start sum revealed computed : List ℕ) → HasBlock v.lattice b → Give v.lattice ready b es → start ≡ replicate v.shape.block 0
    → (AreAllIntact v ready old → sum ≡ added_up v.shape old start (other_blocks v.lattice ready b es)) → AreDrawn v known ready first old
    → d ≡ b → IsOtherDigest v b revealed computed → computed ≡ block_digest b sum → (d ≡ b) × IsClash v known first d revealed computed
added_clash v known ready first old b d es start sum revealed computed has gives zeros added all same other is = (
  same,
  subst (λ (a : BlockId). IsClash v known first a revealed computed) (sym same)
      (record { other = other; payload = sum; drawn = added_drawn v known ready first old b es start sum has gives zeros added all; computed_is = is }),
)
