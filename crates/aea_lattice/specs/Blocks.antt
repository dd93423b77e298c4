-- “Lattice”: the nodes and blocks of a lattice, and the numbers of its blocks.
use Rattle.std.specs.Prelude.{ℕ, zero, suc, ◌++◌, map, ◌+◌, ◌-◌, ◌*◌, ◌≤◌, Bool, ◌&&◌, ◌==◌, nat_le, List, [], ◌∷◌, filter, get_or}
use Rattle.aea_lattice.specs.declared.blocks.Class.{Class}
use Rattle.aea_lattice.specs.declared.blocks.Class.TheVariants.{Datum, Horiz, Right, Left}
use Rattle.aea_lattice.specs.declared.blocks.BlockId.{BlockId}
use Rattle.aea_lattice.specs.declared.grid.Lattice.{Lattice}

-- the number of a class
abbrev pub class_number : Class → ℕ
class_number Datum = 0
class_number Horiz = 1
class_number Right = 2
class_number Left = 3

-- the block of this node and class
abbrev pub block_of : ℕ → Class → BlockId
block_of i c = record { node = i; class = c }

-- whether two blocks are the same
abbrev pub same_block : BlockId → BlockId → Bool
same_block a b = a.node == b.node && class_number a.class == class_number b.class

-- i is one of the nodes 1 to n
pub record HasNode (l : Lattice) (i : ℕ) : Type 0 where
  pub first : 1 ≤ i
  pub last : i ≤ l.n

-- the lattice has parities of this class
pub record HasParity (l : Lattice) (c : Class) : Type 0 where
  pub parity : 1 ≤ class_number c
  pub used : class_number c ≤ l.alpha

-- the block is one of the lattice: (i,c) with i from 1 to n and c from 0 to α
pub record HasBlock (l : Lattice) (b : BlockId) : Type 0 where
  pub first : 1 ≤ b.node
  pub last : b.node ≤ l.n
  pub used : class_number b.class ≤ l.alpha

-- how many blocks the lattice has
abbrev pub blocks_count : Lattice → ℕ
blocks_count l = l.n * (1 + l.alpha)

-- the number of a block: its place in number order, counted from 0
abbrev pub number_of : Lattice → BlockId → ℕ
number_of l b = (b.node - 1) * (1 + l.alpha) + class_number b.class

-- the parity classes of the lattice, in order
abbrev pub classes : Lattice → List Class
classes l = filter (λ c. nat_le (class_number c) l.alpha) (Horiz ∷ Right ∷ Left ∷ [])

-- the blocks of the nodes 1 to i, in number order
abbrev pub blocks_to : Lattice → ℕ → List BlockId
blocks_to l zero = []
blocks_to l (suc i) = blocks_to l i ++ map (block_of (suc i)) (Datum ∷ classes l)

-- the blocks of the lattice, in number order
abbrev pub blocks_of : Lattice → List BlockId
blocks_of l = blocks_to l l.n

-- the block at a number
abbrev pub block_at : Lattice → ℕ → BlockId
block_at l k = get_or (blocks_of l) k (block_of 0 Datum)
