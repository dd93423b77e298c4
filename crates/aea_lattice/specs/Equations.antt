-- “Equation” and “Codeword”: the equations of a lattice, what sets of equations add up to, and codewords.
use Rattle.std.specs.Prelude.{◌≢◌, ℕ, suc, zero, ◌%◌, Bool, ◌&&◌, ◌==◌, List, [], ◌∷◌, ◌++◌, map, count_by, Option, Some, None, IfSome, option_to_list}
use Rattle.std.specs.List.{list_any}
use Rattle.aea_lattice.specs.declared.blocks.Class.{Class}
use Rattle.aea_lattice.specs.declared.blocks.Class.TheVariants.{Datum}
use Rattle.aea_lattice.specs.declared.blocks.BlockId.{BlockId}
use Rattle.aea_lattice.specs.declared.blocks.EqId.{EqId}
use Rattle.aea_lattice.specs.declared.blocks.Equation.{Equation}
use Rattle.aea_lattice.specs.declared.grid.Lattice.{Lattice}
use Rattle.aea_lattice.specs.Blocks.{block_of, same_block, HasNode, HasParity, HasBlock, classes}
use Rattle.aea_lattice.specs.Strands.{prefix, previous}

-- whether an odd number of items passes the test
abbrev pub is_odd_count : {A : Type 0} → (A → Bool) → List A → Bool
is_odd_count p xs = count_by p xs % 2 == 1

-- the input of an equation, if it has one
abbrev pub input_blocks : Option ℕ → Class → List BlockId
input_blocks None c = []
input_blocks (Some g) c = block_of g c ∷ []

-- The blocks of equation (i,c): the parity (g,c) of the node g just before i on the strand, the datum (i,0) and
-- the parity (i,c). Where the strand begins at i it has the last two.
abbrev pub equation_blocks : Lattice → EqId → List BlockId
equation_blocks l e =
    input_blocks (previous l e.class e.node) e.class
    ++ block_of e.node Datum ∷ block_of e.node e.class ∷ []

-- the blocks of an equation as a program has them, in the same order
abbrev pub blocks_in : Equation → List BlockId
blocks_in q = option_to_list q.input ++ q.datum ∷ q.output ∷ []

-- each block of an equation is one of the lattice
pub record LiesInside (l : Lattice) (q : Equation) : Type 0 where
  pub input : IfSome q.input (HasBlock l)
  pub datum : HasBlock l q.datum
  pub output : HasBlock l q.output

-- no two blocks of an equation are one
pub record AreDistinct (q : Equation) : Type 0 where
  pub ends : q.datum ≢ q.output
  pub input_datum : IfSome q.input (λ g. g ≢ q.datum)
  pub input_output : IfSome q.input (λ g. g ≢ q.output)

-- the equation is one of the lattice: it has a node and a parity class of it
pub record HasEquation (l : Lattice) (e : EqId) : Type 0 where
  pub node : HasNode l e.node
  pub class : HasParity l e.class

-- whether the block is in the equation
abbrev pub is_in_equation : Lattice → EqId → BlockId → Bool
is_in_equation l e b = list_any (same_block b) (equation_blocks l e)

-- the equation of this node and class
abbrev pub equation_of : ℕ → Class → EqId
equation_of i c = record { node = i; class = c }

-- the equations of the nodes 1 to i, in equation order
abbrev pub equations_to : Lattice → ℕ → List EqId
equations_to l zero = []
equations_to l (suc i) = equations_to l i ++ map (equation_of (suc i)) (classes l)

-- the equations of the lattice, in equation order
abbrev pub equations_of : Lattice → List EqId
equations_of l = equations_to l l.n

-- Whether a set of equations adds up to a set of blocks that has this one: it is in an odd number of them.
abbrev pub adds_up_to : Lattice → (EqId → Bool) → BlockId → Bool
adds_up_to l equations b = is_odd_count (λ e. equations e && is_in_equation l e b) (equations_of l)

-- Whether the codeword of a set of nodes contains the block (i,c): a datum by its node, a parity where an odd
-- number of members are at or before i on its strand.
abbrev pub codeword_at : Lattice → (ℕ → Bool) → ℕ → Class → Bool
codeword_at l nodes i Datum = nodes i
codeword_at l nodes i c = is_odd_count nodes (prefix l c i)

-- whether the codeword of a set of nodes contains the block
abbrev pub is_in_codeword : Lattice → (ℕ → Bool) → BlockId → Bool
is_in_codeword l nodes b = codeword_at l nodes b.node b.class
