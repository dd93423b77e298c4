-- Facts of the definitions alone: of codewords, and of what a set of blocks determines.
use Rattle.std.specs.Prelude.{◌≡◌, ◌≢◌, ◌↔◌, ◌+◌, ◌<◌, ◌≤◌, max, filter, map, nat_le, ℕ, suc, Bool, false, cond, List, [], ◌∷◌, All, IsTrue, replicate}
use Rattle.std.specs.List.{flat_map}
use Rattle.aea_lattice.specs.declared.blocks.Class.{Class}
use Rattle.aea_lattice.specs.declared.blocks.Class.TheVariants.{Datum}
use Rattle.aea_lattice.specs.declared.blocks.BlockId.{BlockId}
use Rattle.aea_lattice.specs.declared.blocks.EqId.{EqId}
use Rattle.aea_lattice.specs.declared.grid.Lattice.{Lattice}
use Rattle.aea_lattice.specs.Fences.{is_parted}
use Rattle.aea_lattice.specs.Blocks.{HasBlock, block_of, same_block, number_of, blocks_of}
use Rattle.aea_lattice.specs.Strands.{strand_of, previous}
use Rattle.aea_lattice.specs.Equations.{HasEquation, equation_blocks, is_odd_count, is_in_codeword, equations_of, adds_up_to}
use Rattle.aea_lattice.specs.Data.{IsBytes, IsDataList, xor_bytes, xor_all, value_of, Determines}
use Rattle.aea_lattice.specs.Closure.{IsReached, is_among}
use Rattle.aea_lattice.specs.Ends.{last_open}
use Rattle.aea_lattice.specs.Growth.{IsGrown}

-- a set of blocks is the codeword of a set of nodes
abbrev pub IsCodewordOf : Lattice → (ℕ → Bool) → (BlockId → Bool) → Type 0
IsCodewordOf l nodes set = (b : BlockId) → HasBlock l b → set b ≡ is_in_codeword l nodes b

-- every equation has an even number of the blocks of the set
abbrev pub MeetsEvenly : Lattice → (BlockId → Bool) → Type 0
MeetsEvenly l set = (e : EqId) → HasEquation l e → is_odd_count set (equation_blocks l e) ≡ false

-- the codeword of the nodes contains no block of the set
abbrev pub Misses : Lattice → (BlockId → Bool) → (ℕ → Bool) → Type 0
Misses l known nodes = (d : BlockId) → HasBlock l d → IsTrue (known d) → is_in_codeword l nodes d ≡ false

-- the data list in which the same bytes are added by XOR to each block of the nodes; the first block is that of node i
abbrev pub changed_from : ℕ → (ℕ → Bool) → List ℕ → List (List ℕ) → List (List ℕ)
changed_from i nodes bytes [] = []
changed_from i nodes bytes (x ∷ xs) = cond (nodes i) (xor_bytes x bytes) x ∷ changed_from (suc i) nodes bytes xs

-- A set of blocks is a codeword exactly where every equation has an even number of its blocks. It is then the
-- codeword of its data nodes.
abbrev pub CodewordsAreEven : Type 0
CodewordsAreEven =
    (l : Lattice) (set : BlockId → Bool)
    → (((nodes : ℕ → Bool) × IsCodewordOf l nodes set) ↔ MeetsEvenly l set)
    × (MeetsEvenly l set → IsCodewordOf l (λ i. set (block_of i Datum)) set)

-- A set determines every block of its closure.
abbrev pub ReachedAreDetermined : Type 0
ReachedAreDetermined =
    (l : Lattice) (known : BlockId → Bool) (b : BlockId) → HasBlock l b → IsReached l known b → Determines l known b

-- A codeword that contains no block of a set contains no block that the set determines.
abbrev pub WordsMissDetermined : Type 0
WordsMissDetermined =
    (l : Lattice) (known : BlockId → Bool) (nodes : ℕ → Bool) → Misses l known nodes
    → (b : BlockId) → HasBlock l b → Determines l known b → is_in_codeword l nodes b ≡ false

-- Adding the same bytes to the blocks of some nodes, not all of them zero, gives a second data list. Its lattice
-- differs from that of the first exactly on the codeword of the nodes, and off the codeword the two are equal.
abbrev pub ChangesAreCodewords : Type 0
ChangesAreCodewords =
    (l : Lattice) (nodes : ℕ → Bool) (w : ℕ) (datas : List (List ℕ)) (bytes : List ℕ)
    → IsDataList l w datas → IsBytes w bytes → bytes ≢ replicate w 0
    → IsDataList l w (changed_from 1 nodes bytes datas)
    × ((b : BlockId) → HasBlock l b
    → IsTrue (is_in_codeword l nodes b) ↔ (value_of l w (changed_from 1 nodes bytes datas) b ≢ value_of l w datas b))
    × ((b : BlockId) → HasBlock l b → is_in_codeword l nodes b ≡ false
    → value_of l w (changed_from 1 nodes bytes datas) b ≡ value_of l w datas b)

-- The blocks of an equation add up to zero by XOR, in the lattice of every data list.
abbrev pub EquationsAddUp : Type 0
EquationsAddUp =
    (l : Lattice) (w : ℕ) (datas : List (List ℕ)) (e : EqId) → IsDataList l w datas → HasEquation l e
    → xor_all w (map (value_of l w datas) (equation_blocks l e)) ≡ replicate w 0

-- The blocks are those that a set of equations adds up to: a block is among them an odd number of times exactly
-- where it is in an odd number of the equations.
pub record AreOfSum (l : Lattice) (equations : EqId → Bool) (blocks : List BlockId) : Type 0 where
  pub inside : All (HasBlock l) blocks
  pub counted : (b : BlockId) → HasBlock l b → is_odd_count (same_block b) blocks ≡ adds_up_to l equations b

-- What a set of equations adds up to is zero by XOR, in the lattice of every data list.
abbrev pub SetsAddUp : Type 0
SetsAddUp =
    (l : Lattice) (w : ℕ) (datas : List (List ℕ)) (equations : EqId → Bool) (blocks : List BlockId)
    → IsDataList l w datas → AreOfSum l equations blocks
    → xor_all w (map (value_of l w datas) blocks) ≡ replicate w 0

-- The blocks of the lattice that a set of equations adds up to, each once, are such a list, and so are the blocks of
-- the equations of the set, one equation after another.
abbrev pub SumsAreListed : Type 0
SumsAreListed =
    (l : Lattice) (equations : EqId → Bool)
    → AreOfSum l equations (filter (adds_up_to l equations) (blocks_of l))
    × AreOfSum l equations (flat_map (equation_blocks l) (filter equations (equations_of l)))

-- Two blocks of a lattice with one number are the same.
abbrev pub NumbersRevealBlocks : Type 0
NumbersRevealBlocks = (l : Lattice) (a b : BlockId) → HasBlock l a → HasBlock l b → number_of l a ≡ number_of l b → a ≡ b

-- Every item of the list of the blocks of a lattice is a block of the lattice.
abbrev pub BlocksAreInside : Type 0
BlocksAreInside = (l : Lattice) → All (HasBlock l) (blocks_of l)

-- Among the blocks of a lattice that pass a test are exactly its blocks that pass it.
abbrev pub PassingAreAmong : Type 0
PassingAreAmong =
    (l : Lattice) (test : BlockId → Bool) (b : BlockId)
    → IsTrue (is_among (filter test (blocks_of l)) b) ↔ (HasBlock l b × IsTrue (test b))

-- The parity that enters the next node on a strand is that of the strand's last open node: in a lattice that has grown,
-- the node just before the first new one is the last open one of its strand in the lattice without it. Right after a
-- fence there is none.
abbrev pub LastsEnter : Type 0
LastsEnter =
    (l m : Lattice) (n : ℕ) → IsGrown l n m → (c : Class)
    → previous m c (l.n + 1) ≡ last_open l c (strand_of l c (l.n + 1))

-- the greatest number of a list; 0 of none
abbrev pub greatest : List ℕ → ℕ
greatest [] = 0
greatest (x ∷ xs) = max x (greatest xs)

-- the greatest fence below node i; 0 where there is none
abbrev pub fence_below : List ℕ → ℕ → ℕ
fence_below fences i = greatest (filter (λ f. nat_le (suc f) i) fences)

-- A node is not parted from i exactly where it is greater than the greatest fence below i.
abbrev pub JoinedStandAfterTheFence : Type 0
JoinedStandAfterTheFence = (fences : List ℕ) (k i : ℕ) → 1 ≤ k → (is_parted fences k i ≡ false) ↔ (fence_below fences i < k)
