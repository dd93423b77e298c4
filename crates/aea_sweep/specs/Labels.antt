-- Labels of blocks, and where the strands go on that are labelled already.
use Rattle.std.specs.Prelude.{◌≡◌, ◌≢◌, ℕ, ◌<◌, ◌≤◌, Bool, true, ◌&&◌, ◌==◌, cond, nat_le, nat_lt, List, length, get_or}
use Rattle.aea_lattice.specs.declared.blocks.Class.{Class}
use Rattle.aea_lattice.specs.declared.blocks.BlockId.{BlockId}
use Rattle.aea_lattice.specs.declared.grid.Lattice.{Lattice}
use Rattle.aea_lattice.specs.Blocks.{HasNode, HasParity, HasBlock, block_of, class_number, number_of, blocks_count}
use Rattle.aea_lattice.specs.Strands.{strand_of, is_on}

-- whether node x is on the strand of node a, at a or after it, and no fence parts them
abbrev pub is_along : Lattice → Class → ℕ → ℕ → Bool
is_along l c a x = nat_le a x && is_on l c (strand_of l c x) x a

-- whether the block is a parity of the class from node a on, before the limit and before the next fence, on the strand of a
abbrev pub is_stretch : Lattice → Class → ℕ → ℕ → BlockId → Bool
is_stretch l c a limit b = class_number b.class == class_number c && (is_along l c a b.node && nat_lt b.node limit)

-- the label of the block, 0 where it has none
abbrev pub label_of : Lattice → List ℕ → BlockId → ℕ
label_of l labels b = get_or labels (number_of l b) 0

-- After node j of a strand comes the node e, or e is after the last node of the lattice: no node is between them.
pub record IsBehind (l : Lattice) (c : Class) (j e : ℕ) : Type 0 where
  pub later : j < e
  pub none : (x : ℕ) → x ≤ l.n → is_along l c j x ≡ true → x < e → x ≡ j
  pub goes_on : e ≤ l.n → is_along l c j e ≡ true

-- From node j of a strand to before node e each parity has a label; e is on the strand, or after the last node of the lattice.
pub record IsSkip (l : Lattice) (labels : List ℕ) (c : Class) (j e : ℕ) : Type 0 where
  pub later : j < e
  pub labelled : (x : ℕ) → x ≤ l.n → is_along l c j x ≡ true → x < e → label_of l labels (block_of x c) ≢ 0
  pub goes_on : e ≤ l.n → is_along l c j e ≡ true

-- The table has such a node for each parity with a label.
abbrev pub AreSkips : Lattice → List ℕ → List ℕ → Type 0
AreSkips l labels skips =
    (j : ℕ) (c : Class) → HasNode l j → HasParity l c → label_of l labels (block_of j c) ≢ 0 → IsSkip l labels c j (label_of l skips (block_of j c))

-- labels and skips of the blocks of the lattice
pub record AreLabels (l : Lattice) (labels skips : List ℕ) : Type 0 where
  pub labels_long : length labels ≡ blocks_count l
  pub skips_long : length skips ≡ blocks_count l
  pub skips_are : AreSkips l labels skips

-- The blocks that pass and had no label have got this one, and all others are as they were.
abbrev pub Labels : Lattice → (BlockId → Bool) → ℕ → List ℕ → List ℕ → Type 0
Labels l test label labels new =
    (b : BlockId) → HasBlock l b → label_of l new b ≡ cond (test b && label_of l labels b == 0) label (label_of l labels b)

-- each parity of the strand of node a has a label, from there to before node e, which is on it or after the last node
pub record IsDone (l : Lattice) (labels : List ℕ) (c : Class) (a e : ℕ) : Type 0 where
  pub labelled : (x : ℕ) → x ≤ l.n → is_along l c a x ≡ true → x < e → label_of l labels (block_of x c) ≢ 0
  pub goes_on : e ≤ l.n → is_along l c a e ≡ true

-- whether the codeword of the nodes contains the block, which is of the class
abbrev pub is_classed : Lattice → Class → (BlockId → Bool) → BlockId → Bool
is_classed l c test b = class_number b.class == class_number c && test b
