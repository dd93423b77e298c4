-- Of which blocks the payload of a determined block is a sum, and what is computed of it.
use Rattle.std.specs.Prelude.{◌≡◌, ◌⊎◌, ℕ, Bool, true, false, List, [], map, replicate, slice_get, Some, All, IsTrue}
use Rattle.aea_lattice.specs.declared.blocks.BlockId.{BlockId}
use Rattle.aea_lattice.specs.declared.blocks.EqId.{EqId}
use Rattle.aea_lattice.specs.declared.grid.Lattice.{Lattice}
use Rattle.aea_lattice.specs.declared.shape.Shape.{Shape}
use Rattle.aea_lattice.specs.Blocks.{HasBlock}
use Rattle.aea_lattice.specs.Equations.{HasEquation}
use Rattle.aea_lattice.specs.Data.{xor_all}
use Rattle.aea_disk.specs.Files.{Files}
use Rattle.aea_envelope.specs.Cells.{block_digest}
use Rattle.aea_shelf.specs.Intact.{payload_at}
use Rattle.aea_gauss.specs.declared.fates.Fate.{Fate}
use Rattle.aea_gauss.specs.declared.fates.Fate.TheVariants.{Sum, Word}
use Rattle.aea_gauss.specs.Fates.{block_of_fate, IsFate, AreFates}
use Rattle.aea_ledger.specs.Values.{Opened}
use Rattle.aea_restore.specs.Plans.{is_left_over}
use Rattle.aea_restore.specs.Drawn.{IsSumOf, ArePicked, is_other, other_blocks, IsOtherDigest}
use Rattle.aea_restore.specs.Judged.{IsJudgedSum, IsReadClashIn}

-- The equations of a sum are those of the lattice, and its block is in an odd number of them.
pub record AddUpTo (l : Lattice) (b : BlockId) (equations : List EqId) : Type 0 where
  pub block : HasBlock l b
  pub valid : All (HasEquation l) equations
  pub contains : IsTrue (is_left_over l equations b)

-- the fate is a sum of the lattice
abbrev pub IsSumIn : Lattice → Fate → Type 0
IsSumIn l (Sum b equations) = AddUpTo l b equations
IsSumIn l (Word b nodes) = ⊥

-- whether the block is one of those that the sum adds up to, beside its own
abbrev pub is_summand : Lattice → Fate → BlockId → Bool
is_summand l (Sum b equations) d = is_other (is_left_over l equations) b d
is_summand l (Word b nodes) d = false

-- These blocks, one equation after another. (A datum that is in three of the equations is here three times.)
abbrev pub summands : Lattice → Fate → List BlockId
summands l (Sum b equations) = other_blocks l (is_left_over l equations) b equations
summands l (Word b nodes) = []

-- the XOR of what is at their homes in the place of their payloads
abbrev pub sum_at : Lattice → Shape → Files → Fate → List ℕ
sum_at l shape c fate = xor_all shape.block (map (payload_at shape c) (summands l fate))

-- The payload is the XOR of payloads that were read at their homes, one of each in their order, each of which has the digest
-- that the ledger keeps of its block.
abbrev pub IsSummed : Type 0 → Opened → Files → Fate → List ℕ → Type 0
IsSummed reveals v c fate payload = IsJudgedSum reveals v c (replicate v.shape.block 0) (summands v.lattice fate) payload

-- Two digests of the block of a sum differ: the one that the ledger keeps of it, and that of such a payload.
pub record IsSummedClash (reveals : Type 0) (v : Opened) (c : Files) (fate : Fate) (revealed computed : List ℕ) : Type 0 where
  pub other : IsOtherDigest v (block_of_fate fate) revealed computed
  pub payload : List ℕ
  pub summed : IsSummed reveals v c fate payload
  pub computed_is : computed ≡ block_digest (block_of_fate fate) payload

-- What a clash says that comes while the payload is computed: it is one of a summand that was read, and is not intact; or of the
-- block itself.
abbrev pub IsPayloadClash : Type 0 → Opened → Files → Fate → BlockId → List ℕ → List ℕ → Type 0
IsPayloadClash reveals v c fate d revealed computed =
    IsReadClashIn reveals v c (summands v.lattice fate) d revealed computed
    ⊎ ((d ≡ block_of_fate fate) × IsSummedClash reveals v c fate revealed computed)

-- whether the fate is listed nodes
abbrev pub is_word : Fate → Bool
is_word (Sum b equations) = false
is_word (Word b nodes) = true

-- the fate is listed equations
abbrev pub IsOfEquations : Fate → Type 0
IsOfEquations fate = is_word fate ≡ false

-- the fate is the listed equations of its block
abbrev pub IsListedSum : Lattice → (BlockId → Bool) → Fate → Type 0
IsListedSum l known fate = IsFate l known fate × IsOfEquations fate

-- In the lattice of every data list the block of a sum is the XOR of its summands, which are blocks of the lattice.
abbrev pub SumsAreOfSummands : Type 0
SumsAreOfSummands =
    (l : Lattice) (fate : Fate) → IsSumIn l fate → IsSumOf l (block_of_fate fate) (summands l fate) × ArePicked l (is_summand l fate) (summands l fate)

-- The listed equations of a block are a sum, and its summands are known.
abbrev pub ListedAreSums : Type 0
ListedAreSums =
    (l : Lattice) (known : BlockId → Bool) (fate : Fate) → HasBlock l (block_of_fate fate) → IsListedSum l known fate
    → IsSumIn l fate × ((d : BlockId) → HasBlock l d → IsTrue (is_summand l fate d) → IsTrue (known d))

-- Of the fates of a lattice each that is listed equations is a sum, and its summands are known.
abbrev pub FatesAreSums : Type 0
FatesAreSums =
    (l : Lattice) (known : BlockId → Bool) (fates : List Fate) (k : ℕ) (fate : Fate) → AreFates l known fates → slice_get fates k ≡ Some fate → IsOfEquations fate
    → IsSumIn l fate × ((d : BlockId) → HasBlock l d → IsTrue (is_summand l fate d) → IsTrue (known d))
