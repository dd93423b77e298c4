-- Parts of what is not known: blocks that an equation has together get one label.
use Rattle.std.specs.Prelude.{◌≡◌, ℕ, suc, ◌<◌, ◌≤◌, ◌^◌, Bool, cond, List, [], ◌∷◌, All, length, get_or, slice_set, IsTrue}
use Rattle.aea_lattice.specs.declared.blocks.Class.TheVariants.{Datum}
use Rattle.aea_lattice.specs.declared.blocks.BlockId.{BlockId}
use Rattle.aea_lattice.specs.declared.blocks.EqId.{EqId}
use Rattle.aea_lattice.specs.declared.grid.Lattice.{Lattice}
use Rattle.aea_lattice.specs.Equations.{HasEquation, is_in_equation}
use Rattle.aea_lattice.specs.Blocks.{block_of}
use Rattle.aea_fates.specs.Live.{live_equations}
use Rattle.aea_readings.specs.Small.{block_in, equation_in, unknown_blocks, AreListed}
use Rattle.aea_fates.specs.Laws.{IsPart, known_or_outside}
use Rattle.aea_gauss.specs.declared.fates.Fate.{Fate}
use Rattle.aea_gauss.specs.declared.fates.Fate.TheVariants.{Word}
use Rattle.aea_gauss.specs.Fates.{block_of_fate, IsFate}
use Rattle.aea_gauss.specs.Revealed.{RevealsFate}

-- the items at the places that pass, in order
abbrev pub items_at : {A : Type 0} → (ℕ → Bool) → List A → List A
items_at p [] = []
items_at p (x ∷ xs) = cond (p 0) (x ∷ items_at (λ k. p (suc k)) xs) (items_at (λ k. p (suc k)) xs)

-- Parents of places: each place has one that is not greater. A place that is its own parent is the end of chains.
abbrev pub AreParents : List ℕ → Type 0
AreParents parents = (k : ℕ) → k < length parents → get_or parents k 0 ≤ k

-- the place is its own parent
pub record IsRoot (parents : List ℕ) (k : ℕ) : Type 0 where
  pub inside : k < length parents
  pub own : get_or parents k 0 ≡ k

-- The labels are the same at each place and its parent.
abbrev pub Follows : (ℕ → ℕ) → List ℕ → Type 0
Follows label parents = (k : ℕ) → k < length parents → label k ≡ label (get_or parents k 0)

-- Labels of places that are the same for all blocks of the list that are in the equation.
abbrev pub JoinsEquation : Lattice → List BlockId → EqId → (ℕ → ℕ) → Type 0
JoinsEquation l blocks e label =
    (a b : ℕ) → a < length blocks → b < length blocks → IsTrue (is_in_equation l e (block_in blocks a)) → IsTrue (is_in_equation l e (block_in blocks b))
    → label a ≡ label b

-- the same for the two blocks, where both are in the list
abbrev pub JoinsBlocks : List BlockId → BlockId → BlockId → (ℕ → ℕ) → Type 0
JoinsBlocks blocks first second label =
    (a b : ℕ) → a < length blocks → b < length blocks → block_in blocks a ≡ first → block_in blocks b ≡ second → label a ≡ label b

-- the same for each of the first equations
abbrev pub JoinsEach : Lattice → List BlockId → List EqId → ℕ → (ℕ → ℕ) → Type 0
JoinsEach l blocks equations count label = (i : ℕ) → i < count → JoinsEquation l blocks (equation_in equations i) label

-- the label that is at a place
abbrev pub label_at : List ℕ → ℕ → ℕ
label_at labels k = get_or labels k 0

-- the label is that of each block of the list that is in the equation
abbrev pub IsLabelOf : Lattice → List BlockId → List ℕ → EqId → ℕ → Type 0
IsLabelOf l blocks labels e label = (a : ℕ) → a < length blocks → IsTrue (is_in_equation l e (block_in blocks a)) → get_or labels a 0 ≡ label

-- The blocks and the equations are those of a part: all unknown blocks of a set that shares no equation with the others,
-- and all equations that have one.
pub record ArePart (l : Lattice) (known : BlockId → Bool) (blocks : List BlockId) (equations : List EqId) : Type 0 where
  pub within : BlockId → Bool
  pub part : IsPart l known within
  pub blocks_are : blocks ≡ unknown_blocks l (known_or_outside known within)
  pub equations_are : equations ≡ live_equations l (known_or_outside known within)

-- the block is in the list
abbrev pub StandsIn : List BlockId → BlockId → Type 0
StandsIn blocks b = (a : ℕ) × (a < length blocks) × (block_in blocks a ≡ b)

-- the fate at a place
abbrev pub fate_in : List Fate → ℕ → Fate
fate_in fates a = get_or fates a (Word (block_of 0 Datum) [])

-- the lists at each place are the blocks and the equations of a part
abbrev pub AreParts : Lattice → (BlockId → Bool) → List (List BlockId) → List (List EqId) → Type 0
AreParts l known blocks equations = (c : ℕ) → c < length blocks → ArePart l known (get_or blocks c []) (get_or equations c [])

-- the blocks of a part are in number order and in the list of all, and the equations are of the lattice, and not too many
pub record IsReady (l : Lattice) (all blocks : List BlockId) (equations : List EqId) : Type 0 where
  pub listed : AreListed l blocks
  pub stand : All (StandsIn all) blocks
  pub inside : All (HasEquation l) equations
  pub few : length equations < 2 ^ 23

-- each block of the list is in one of these lists
abbrev pub HaveEach : List BlockId → List (List BlockId) → Type 0
HaveEach blocks parts = (a : ℕ) → a < length blocks → (c : ℕ) × (c < length parts) × StandsIn (get_or parts c []) (block_in blocks a)

-- The fate of the block at a place of a part is put at the block's place in the list of all. It is right for every set of known
-- blocks that leaves the part's blocks unknown, with its equations.
pub record PutsFate (l : Lattice) (blocks part : List BlockId) (equations : List EqId) (a : ℕ) (old new : List Fate) : Type 0 where
  pub at : ℕ
  pub fate : Fate
  pub inside : at < length blocks
  pub here : block_in blocks at ≡ block_of_fate fate
  pub block : block_of_fate fate ≡ block_in part a
  pub reveals : RevealsFate l part equations fate
  pub is : new ≡ slice_set old at fate

-- The fates of those blocks of a part that are wanted are right now, and those that were right still are.
pub record Rights (l : Lattice) (known : BlockId → Bool) (Wanted : BlockId → Type 0) (blocks part : List BlockId) (old new : List Fate) : Type 0 where
  pub kept : (a : ℕ) → a < length blocks → IsFate l known (fate_in old a) → IsFate l known (fate_in new a)
  pub put : (a : ℕ) → a < length blocks → StandsIn part (block_in blocks a) → Wanted (block_in blocks a) → IsFate l known (fate_in new a)

-- each block is wanted
abbrev pub IsWanted : BlockId → Type 0
IsWanted b = Unit {0}
