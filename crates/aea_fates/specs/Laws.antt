-- Laws of listed equations and of listed nodes.
use Rattle.std.specs.Prelude.{◌≡◌, ◌↔◌, ℕ, Bool, false, not, ◌||◌, List, filter, map, IsTrue}
use Rattle.std.specs.List.{flat_map}
use Rattle.aea_lattice.specs.declared.blocks.BlockId.{BlockId}
use Rattle.aea_lattice.specs.declared.blocks.EqId.{EqId}
use Rattle.aea_lattice.specs.declared.grid.Lattice.{Lattice}
use Rattle.aea_lattice.specs.Blocks.{HasBlock}
use Rattle.aea_lattice.specs.Equations.{HasEquation, is_in_equation, equation_blocks}
use Rattle.aea_lattice.specs.Data.{IsDataList, xor_all, value_of, Determines}
use Rattle.aea_lattice.specs.LeastWord.{IsWord}
use Rattle.aea_fates.specs.Sums.{IsSum}

-- a block has at most one list, of equations or of nodes
pub record HasOneList (l : Lattice) (known : BlockId → Bool) (b : BlockId) : Type 0 where
  pub one_sum : (xs ys : List EqId) → IsSum l known b xs → IsSum l known b ys → xs ≡ ys
  pub one_word : (xs ys : List ℕ) → IsWord l known b xs → IsWord l known b ys → xs ≡ ys
  pub one_kind : (xs : List EqId) (ys : List ℕ) → IsSum l known b xs → IsWord l known b ys → ⊥

-- Every block of a lattice has at most one list.
abbrev pub ListsAreOne : Type 0
ListsAreOne = (l : Lattice) (known : BlockId → Bool) (b : BlockId) → HasBlock l b → HasOneList l known b

-- A block that has listed equations is determined by the known blocks.
abbrev pub SumsAreDetermined : Type 0
SumsAreDetermined =
    (l : Lattice) (known : BlockId → Bool) (b : BlockId) (equations : List EqId) → HasBlock l b → IsSum l known b equations → Determines l known b

-- A block that has listed nodes is not determined by the known blocks.
abbrev pub WordsAreOpen : Type 0
WordsAreOpen =
    (l : Lattice) (known : BlockId → Bool) (b : BlockId) (nodes : List ℕ) → HasBlock l b → IsWord l known b nodes → ¬ Determines l known b

-- The second set has the first, and of blocks of the lattice only such that the first determines, as those of its closure.
pub record AddsDetermined (l : Lattice) (known more : BlockId → Bool) : Type 0 where
  pub within : (d : BlockId) → HasBlock l d → IsTrue (known d) → IsTrue (more d)
  pub determined : (d : BlockId) → HasBlock l d → IsTrue (more d) → Determines l known d

-- Marking also blocks that the known ones determine leaves the listed nodes of a lost block as they are. The listed
-- equations of a determined block may change by it.
abbrev pub WordsStay : Type 0
WordsStay =
    (l : Lattice) (known more : BlockId → Bool) → AddsDetermined l known more
    → (b : BlockId) (nodes : List ℕ) → IsWord l known b nodes ↔ IsWord l more b nodes

-- Marking also blocks that the known ones determine changes nothing of what is determined.
abbrev pub DeterminedStay : Type 0
DeterminedStay =
    (l : Lattice) (known more : BlockId → Bool) → AddsDetermined l known more
    → (b : BlockId) → Determines l known b ↔ Determines l more b

-- the known blocks of some equations, one equation after another, each as often as it is there
abbrev pub known_blocks : Lattice → (BlockId → Bool) → List EqId → List BlockId
known_blocks l known equations = filter known (flat_map (equation_blocks l) equations)

-- A block that is not known is the XOR of the known blocks of its listed equations, in the lattice of every data list.
abbrev pub SumsGiveBlocks : Type 0
SumsGiveBlocks =
    (l : Lattice) (known : BlockId → Bool) (b : BlockId) (equations : List EqId) → HasBlock l b → known b ≡ false
    → IsSum l known b equations → (w : ℕ) (datas : List (List ℕ)) → IsDataList l w datas
    → value_of l w datas b ≡ xor_all w (map (value_of l w datas) (known_blocks l known equations))

-- No equation has blocks that are not known both in the part and outside.
abbrev pub IsPart : Lattice → (BlockId → Bool) → (BlockId → Bool) → Type 0
IsPart l known part =
    (e : EqId) (b d : BlockId) → HasEquation l e → IsTrue (is_in_equation l e b) → IsTrue (is_in_equation l e d)
    → known b ≡ false → known d ≡ false → part b ≡ part d

-- the known blocks and all that are outside the part
abbrev pub known_or_outside : (BlockId → Bool) → (BlockId → Bool) → BlockId → Bool
known_or_outside known part b = known b || not (part b)

-- Nothing that is outside a part matters for its blocks: where all of it is known too, the lists of the part's
-- blocks are those for the known blocks alone.
abbrev pub PartsStandAlone : Type 0
PartsStandAlone =
    (l : Lattice) (known part : BlockId → Bool) → IsPart l known part
    → (b : BlockId) → HasBlock l b → IsTrue (part b)
    → ((equations : List EqId) → IsSum l (known_or_outside known part) b equations → IsSum l known b equations)
    × ((nodes : List ℕ) → IsWord l (known_or_outside known part) b nodes → IsWord l known b nodes)
