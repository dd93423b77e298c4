-- “Fates”: what happens to each block that is not known. The rules of choice leave no choice.
use Rattle.std.specs.Prelude.{◌≡◌, Bool, not, List, filter, map, All}
use Rattle.aea_lattice.specs.declared.blocks.BlockId.{BlockId}
use Rattle.aea_lattice.specs.declared.grid.Lattice.{Lattice}
use Rattle.aea_lattice.specs.Blocks.{HasBlock, blocks_of}
use Rattle.aea_lattice.specs.LeastWord.{IsWord}
use Rattle.aea_fates.specs.Sums.{IsSum}
use Rattle.aea_gauss.specs.declared.fates.Fate.{Fate}
use Rattle.aea_gauss.specs.declared.fates.Fate.TheVariants.{Sum, Word}

-- the block whose fate it is
abbrev pub block_of_fate : Fate → BlockId
block_of_fate (Sum b equations) = b
block_of_fate (Word b nodes) = b

-- the fate is that of its block
abbrev pub IsFate : Lattice → (BlockId → Bool) → Fate → Type 0
IsFate l known (Sum b equations) = IsSum l known b equations
IsFate l known (Word b nodes) = IsWord l known b nodes

-- one fate for each block of the lattice that is not known, in number order
pub record AreFates (l : Lattice) (known : BlockId → Bool) (fates : List Fate) : Type 0 where
  pub blocks : map block_of_fate fates ≡ filter (λ b. not (known b)) (blocks_of l)
  pub each : All (IsFate l known) fates

-- the fates are those of blocks in number order: of all that some test leaves, as of those that are not known
abbrev pub AreInOrder : Lattice → List Fate → Type 0
AreInOrder l fates = (known : BlockId → Bool) × (map block_of_fate fates ≡ filter (λ b. not (known b)) (blocks_of l))

-- where the second test is the same for the blocks of the lattice, the fates for the first are those for the second
abbrev pub FatesDependOnBlocks : Type 0
FatesDependOnBlocks =
    (l : Lattice) (known other : BlockId → Bool) (fates : List Fate) → ((b : BlockId) → HasBlock l b → known b ≡ other b)
    → AreFates l known fates → AreFates l other fates

-- Two lists of fates for the same lattice and the same known blocks are one.
abbrev pub FatesAreOne : Type 0
FatesAreOne =
    (l : Lattice) (known : BlockId → Bool) (fates others : List Fate) → AreFates l known fates → AreFates l known others → fates ≡ others
