-- “Honest and plain”: what the blocks that are intact hold, and what growing a file cannot make intact.
use Rattle.std.specs.Prelude.{◌≡◌, List, ℕ, Bool, IsTrue}
use Rattle.aea_lattice.specs.declared.blocks.BlockId.{BlockId}
use Rattle.aea_lattice.specs.declared.grid.Lattice.{Lattice}
use Rattle.aea_lattice.specs.declared.shape.Shape.{Shape}
use Rattle.aea_lattice.specs.Blocks.{HasBlock}
use Rattle.aea_lattice.specs.Data.{value_of}
use Rattle.aea_disk.specs.Files.{Files}
use Rattle.aea_shelf.specs.Places.{padded_home}
use Rattle.aea_shelf.specs.Intact.{IsRecorded, IsIntact, payload_at}

-- The survivors are honest for a data list: the payload of each intact cell is that block in the list's lattice.
abbrev pub IsHonest : Lattice → Shape → (BlockId → List ℕ) → List (List ℕ) → Files → Type 0
IsHonest l shape recorded datas c =
    (b : BlockId) → HasBlock l b → IsIntact shape b (recorded b) c
    → payload_at shape c b ≡ value_of l shape.block datas b

-- The same of the blocks that a test picks.
abbrev pub IsHonestOn : (BlockId → Bool) → Lattice → Shape → (BlockId → List ℕ) → List (List ℕ) → Files → Type 0
IsHonestOn picks l shape recorded datas c =
    (b : BlockId) → HasBlock l b → IsTrue (picks b) → IsIntact shape b (recorded b) c
    → payload_at shape c b ≡ value_of l shape.block datas b

-- The damage is plain: no damaged block becomes intact when bytes past the end of its site's file are taken as zeros.
abbrev pub IsPlain : Lattice → Shape → (BlockId → List ℕ) → Files → Type 0
IsPlain l shape recorded c =
    (b : BlockId) → HasBlock l b → IsRecorded b (recorded b) (padded_home shape b c) → IsIntact shape b (recorded b) c
