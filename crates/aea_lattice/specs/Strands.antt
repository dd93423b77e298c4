-- “Strand” and “Prefix”: the strands of a lattice as residues, and the nodes along a strand between fences.
use Rattle.std.specs.Prelude.{◌≡◌, ◌↔◌, ℕ, suc, zero, ◌+◌, ◌-◌, ◌/◌, ◌%◌, ◌≤◌, Bool, not, ◌&&◌, ◌==◌, List, [], ◌∷◌, ◌++◌, filter, Option, Some, None}
use Rattle.aea_lattice.specs.declared.blocks.Class.{Class}
use Rattle.aea_lattice.specs.declared.blocks.Class.TheVariants.{Datum, Horiz, Right, Left}
use Rattle.aea_lattice.specs.declared.grid.Lattice.{Lattice}
use Rattle.aea_lattice.specs.Fences.{is_parted}

-- the column of node i, where the nodes fill columns of s rows
abbrev pub column : Lattice → ℕ → ℕ
column l i = (i - 1) / l.s

-- the row of node i
abbrev pub row : Lattice → ℕ → ℕ
row l i = (i - 1) % l.s

-- The strand of node i: its row on Horiz, (column - row) mod p on Right, (column + row) mod p on Left.
-- A row is less than p, so column - row is written column + (p - row). A datum lies on no strand.
abbrev pub strand_of : Lattice → Class → ℕ → ℕ
strand_of l Datum i = 0
strand_of l Horiz i = row l i
strand_of l Right i = (column l i + (l.p - row l i)) % l.p
strand_of l Left i = (column l i + row l i) % l.p

-- the nodes 1 to i in order
abbrev pub nodes_to : ℕ → List ℕ
nodes_to zero = []
nodes_to (suc i) = nodes_to i ++ suc i ∷ []

-- whether node k lies on the strand, and no fence parts it from node i
abbrev pub is_on : Lattice → Class → ℕ → ℕ → ℕ → Bool
is_on l c strand i k = strand_of l c k == strand && not (is_parted l.fences k i)

-- The nodes up to m on a strand that no fence parts from node i, in order. All that speaks of the nodes of a strand
-- does so by this definition.
abbrev pub nodes_on : Lattice → Class → ℕ → ℕ → ℕ → List ℕ
nodes_on l c strand i m = filter (is_on l c strand i) (nodes_to m)

-- The prefix pre(i,c): the nodes up to i on the strand of i that no fence parts from i, in order. It ends in i.
abbrev pub prefix : Lattice → Class → ℕ → List ℕ
prefix l c i = nodes_on l c (strand_of l c i) i i

-- the item just before the last one of a list, if there are two
abbrev pub next_to_last : List ℕ → Option ℕ
next_to_last [] = None
next_to_last (x ∷ []) = None
next_to_last (x ∷ y ∷ []) = Some x
next_to_last (x ∷ y ∷ z ∷ zs) = next_to_last (y ∷ z ∷ zs)

-- the node just before i in its prefix, if the strand does not begin at i
abbrev pub previous : Lattice → Class → ℕ → Option ℕ
previous l c i = next_to_last (prefix l c i)

-- the answer is the node of the lattice that has i just before it, if there is one
abbrev pub IsNext : Lattice → Class → ℕ → Option ℕ → Type 0
IsNext l c i answer = (j : ℕ) → (answer ≡ Some j) ↔ ((j ≤ l.n) × (previous l c j ≡ Some i))
