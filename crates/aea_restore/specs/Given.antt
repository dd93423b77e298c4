-- What can be restored from a set of known blocks: the blocks of steps of single equations, and then those of sums.
use Rattle.std.specs.Prelude.{◌≡◌, Bool, false, ◌||◌, List, [], ◌∷◌, All, IsTrue}
use Rattle.std.specs.List.{flat_map}
use Rattle.aea_lattice.specs.declared.blocks.BlockId.{BlockId}
use Rattle.aea_lattice.specs.declared.blocks.EqId.{EqId}
use Rattle.aea_lattice.specs.declared.grid.Lattice.{Lattice}
use Rattle.aea_lattice.specs.Blocks.{HasBlock}
use Rattle.aea_lattice.specs.Closure.{is_among}
use Rattle.aea_peel.specs.declared.plan.Step.{Step}
use Rattle.aea_peel.specs.Plans.{blocks_given, is_had}
use Rattle.aea_gauss.specs.declared.fates.Fate.{Fate}
use Rattle.aea_gauss.specs.declared.fates.Fate.TheVariants.{Sum, Word}
use Rattle.aea_restore.specs.Plans.{AreStepsOn, Give}

-- the block that a fate restores: that of a Sum
abbrev pub block_summed : Fate → List BlockId
block_summed (Sum b equations) = b ∷ []
block_summed (Word b nodes) = []

-- the blocks of the Sums, in order
abbrev pub blocks_summed : List Fate → List BlockId
blocks_summed fates = flat_map block_summed fates

-- whether a step or a Sum gives the block
abbrev pub is_given : List Step → List Fate → BlockId → Bool
is_given steps fates b = is_among (blocks_given steps) b || is_among (blocks_summed fates) b

-- a step or a Sum gives the block
abbrev pub IsGiven : List Step → List Fate → BlockId → Type 0
IsGiven steps fates b = IsTrue (is_given steps fates b)

-- A sum that can be carried out: it gives a block of the lattice that is not known.
pub record IsSumOn (l : Lattice) (known had : BlockId → Bool) (b : BlockId) (equations : List EqId) : Type 0 where
  pub block : HasBlock l b
  pub fresh : known b ≡ false
  pub gives : Give l had b equations

-- a fate that can be carried out; a word asks for nothing
abbrev pub IsFateOn : Lattice → (BlockId → Bool) → (BlockId → Bool) → Fate → Type 0
IsFateOn l known had (Sum b equations) = IsSumOn l known had b equations
IsFateOn l known had (Word b nodes) = Unit {0}

-- the same without a word on what was known at first
abbrev pub CanSum : Lattice → (BlockId → Bool) → Fate → Type 0
CanSum l had (Sum b equations) = HasBlock l b × Give l had b equations
CanSum l had (Word b nodes) = Unit {0}

-- Steps and fates that can be carried out from the known blocks, the steps first.
pub record CanBeRestored (l : Lattice) (known : BlockId → Bool) (steps : List Step) (fates : List Fate) : Type 0 where
  pub plan : AreStepsOn l known steps
  pub sums : All (IsFateOn l known (is_had known steps)) fates
