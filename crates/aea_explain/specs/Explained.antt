-- “Explanation”: whether a block is intact, and its fate where all other intact blocks are known.
use Rattle.std.specs.Prelude.{◌≡◌, ◌↔◌, Bool, true, false, not, ◌&&◌, IsTrue}
use Rattle.aea_lattice.specs.declared.blocks.BlockId.{BlockId}
use Rattle.aea_lattice.specs.declared.grid.Lattice.{Lattice}
use Rattle.aea_lattice.specs.Blocks.{HasBlock, same_block}
use Rattle.aea_lattice.specs.Data.{Determines}
use Rattle.aea_disk.specs.Files.{Files}
use Rattle.aea_ledger.specs.Values.{Opened}
use Rattle.aea_archive.specs.Blocks.{IsIntactBy, RevealsSurvivors}
use Rattle.aea_gauss.specs.declared.fates.Fate.{Fate}
use Rattle.aea_gauss.specs.declared.fates.Fate.TheVariants.{Sum, Word}
use Rattle.aea_gauss.specs.Fates.{block_of_fate, IsFate}
use Rattle.aea_explain.specs.declared.explaining.Explanation.{Explanation}

-- the known blocks without this one
abbrev pub without : (BlockId → Bool) → BlockId → BlockId → Bool
without known b d = known d && not (same_block d b)

-- The explanation of a block by the known ones: whether it is one of them, and its fate where all the others of them are
-- known.
pub record IsExplained (l : Lattice) (known : BlockId → Bool) (b : BlockId) (e : Explanation) : Type 0 where
  pub intact : e.intact ≡ known b
  pub block : block_of_fate e.fate ≡ b
  pub fate : IsFate l (without known b) e.fate

-- The block of an opened ledger has this explanation. Of a disk whose contents are known it is that by the intact blocks of
-- these files, whichever test distinguishes them; of any other one it is that by some test.
pub record Explains (reveals : Type 0) (v : Opened) (c : Files) (b : BlockId) (e : Explanation) : Type 0 where
  pub intact : reveals → IsTrue e.intact ↔ IsIntactBy v.shape v.digests c b
  pub revealed : reveals → (known : BlockId → Bool) → RevealsSurvivors v.shape v.lattice.n v.digests c known → IsExplained v.lattice known b e
  pub some : (known : BlockId → Bool) × (reveals → RevealsSurvivors v.shape v.lattice.n v.digests c known) × IsExplained v.lattice known b e

-- the two tests are the same at each block of the lattice
abbrev pub Agree : Lattice → (BlockId → Bool) → (BlockId → Bool) → Type 0
Agree l known test = (d : BlockId) → HasBlock l d → known d ≡ test d

-- A block has at most one explanation by tests that agree, as those do that distinguish the intact blocks of the same files.
abbrev pub ExplanationsAreOne : Type 0
ExplanationsAreOne =
    (l : Lattice) (known test : BlockId → Bool) (b : BlockId) (e f : Explanation) → HasBlock l b → Agree l known test
    → IsExplained l known b e → IsExplained l test b f → e ≡ f

-- whether the fate is listed equations, and not listed nodes
abbrev pub is_sum : Fate → Bool
is_sum (Sum b equations) = true
is_sum (Word b nodes) = false

-- An explanation has listed equations exactly where the other known blocks determine the block, and listed nodes where
-- they do not.
abbrev pub SumsExplainDetermined : Type 0
SumsExplainDetermined =
    (l : Lattice) (known : BlockId → Bool) (b : BlockId) (e : Explanation) → HasBlock l b → IsExplained l known b e
    → IsTrue (is_sum e.fate) ↔ Determines l (without known b) b
