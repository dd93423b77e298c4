-- The state of loading: heads that are loaded from the homes of the last parities, and the damaged one with the least
-- number among those that were read. Strands are counted in strand order.
use Rattle.std.specs.Prelude.{◌≡◌, ◌⊎◌, ℕ, ◌+◌, ◌<◌, ◌≤◌, List, length, replicate, Option, Some, None}
use Rattle.aea_lattice.specs.declared.blocks.Class.{Class}
use Rattle.aea_lattice.specs.declared.blocks.BlockId.{BlockId}
use Rattle.aea_lattice.specs.declared.grid.Lattice.{Lattice}
use Rattle.aea_lattice.specs.Blocks.{block_of, HasParity, number_of}
use Rattle.aea_lattice.specs.Strands.{strand_of}
use Rattle.aea_lattice.specs.Ends.{strands_of, last_open}
use Rattle.aea_lattice.specs.Shapes.{number_in}
use Rattle.aea_envelope.specs.Cells.{block_digest, cell_of}
use Rattle.aea_disk.specs.Files.{Files}
use Rattle.aea_shelf.specs.Places.{HasAtHome}
use Rattle.aea_weave.specs.Woven.{Woven, strands_before, head_of}
use Rattle.aea_ledger.specs.Values.{Opened}
use Rattle.aea_archive.specs.Blocks.{recorded_in, IsIntactBy}
use Rattle.aea_archive.specs.Lasts.{IsLastParity, IsDamagedLast}

-- the place of a block's strand in strand order
abbrev pub place_of : Lattice → BlockId → ℕ
place_of l b = strands_before l b.class + strand_of l b.class b.node

-- The head is what the archive has of a strand whose last open node is this one: the payload of its parity, with the recorded
-- digest, of a block's size and, where the disk's contents are known, with its cell at its home; zeros where the strand has none.
abbrev pub IsLoaded : Type 0 → Opened → Files → Class → List ℕ → Option ℕ → Type 0
IsLoaded reveals v c class head None = head ≡ replicate v.shape.block 0
IsLoaded reveals v c class head (Some g) =
    (block_digest (block_of g class) head ≡ recorded_in v.shape v.digests (block_of g class))
    × (length head ≡ v.shape.block)
    × (reveals → HasAtHome v.shape (block_of g class) (cell_of (block_of g class) head) c)

-- what was found on one strand: its last parity where that is damaged
abbrev pub IsFoundOn : Type 0 → Opened → Files → Class → ℕ → Option BlockId → Type 0
IsFoundOn reveals v c class strand None =
    reveals → (b : BlockId) → IsLastParity v.lattice b → b.class ≡ class → strand_of v.lattice class b.node ≡ strand
    → IsIntactBy v.shape v.digests c b
IsFoundOn reveals v c class strand (Some b) =
    IsLastParity v.lattice b × (b.class ≡ class) × (strand_of v.lattice class b.node ≡ strand)
    × (reveals → IsDamagedLast v.shape v.lattice v.digests c b)

-- what was found on the first strands, so many of them: the damaged last parity with the least number
abbrev pub IsFound : Type 0 → Opened → Files → ℕ → Option BlockId → Type 0
IsFound reveals v c count None =
    reveals → (b : BlockId) → IsLastParity v.lattice b → place_of v.lattice b < count → IsIntactBy v.shape v.digests c b
IsFound reveals v c count (Some b) =
    IsLastParity v.lattice b
    × (reveals → IsDamagedLast v.shape v.lattice v.digests c b
    × ((a : BlockId) → IsDamagedLast v.shape v.lattice v.digests c a → place_of v.lattice a < count
    → number_in v.shape b ≤ number_in v.shape a))

-- The first strands were looked at, so many of them: their heads are loaded, if nothing was found, and the others are
-- zeros.
pub record HasLoaded (reveals : Type 0) (v : Opened) (c : Files) (heads : Woven) (count : ℕ) (found : Option BlockId) : Type 0 where
  pub lattice : heads.lattice ≡ v.lattice
  pub size : heads.size ≡ v.shape.block
  pub loaded : found ≡ None → (class : Class) (strand : ℕ) → HasParity v.lattice class
      → strand < strands_of v.lattice class → strands_before v.lattice class + strand < count
      → IsLoaded reveals v c class (head_of heads class strand) (last_open v.lattice class strand)
  pub rest : (class : Class) (strand : ℕ) → HasParity v.lattice class → strand < strands_of v.lattice class
      → count ≤ strands_before v.lattice class + strand → head_of heads class strand ≡ replicate v.shape.block 0
  pub least : IsFound reveals v c count found

-- the result is the one of two blocks that has the lesser number, if there is any
pub record IsLesser (l : Lattice) (a b answer : Option BlockId) : Type 0 where
  pub none : answer ≡ None → (a ≡ None) × (b ≡ None)
  pub some : (x : BlockId) → answer ≡ Some x → (a ≡ Some x) ⊎ (b ≡ Some x)
  pub left : (x y : BlockId) → answer ≡ Some x → a ≡ Some y → number_of l x ≤ number_of l y
  pub right : (x y : BlockId) → answer ≡ Some x → b ≡ Some y → number_of l x ≤ number_of l y
