-- Neighbours on a strand with no regard to fences, as the tables give them. No public contract cites these.
use Rattle.std.specs.Prelude.{◌≡◌, ◌↔◌, ℕ, ◌≤◌, Bool, ◌==◌, filter, cond, Option, Some, None}
use Rattle.aea_lattice.specs.declared.blocks.Class.{Class}
use Rattle.aea_lattice.specs.declared.grid.Lattice.{Lattice}
use Rattle.aea_lattice.specs.Fences.{is_parted}
use Rattle.aea_lattice.specs.Strands.{strand_of, nodes_to, next_to_last}

-- whether node k lies on the strand of node i
abbrev pub same_strand : Lattice → Class → ℕ → ℕ → Bool
same_strand l c i k = strand_of l c k == strand_of l c i

-- the node just before i among all nodes of its strand
abbrev pub neighbour : Lattice → Class → ℕ → Option ℕ
neighbour l c i = next_to_last (filter (same_strand l c i) (nodes_to i))

-- the answer is the node of the lattice that has i just before it among all nodes of the strand
abbrev pub IsNextNeighbour : Lattice → Class → ℕ → Option ℕ → Type 0
IsNextNeighbour l c i answer = (j : ℕ) → (answer ≡ Some j) ↔ ((j ≤ l.n) × (neighbour l c j ≡ Some i))

-- the neighbour before node i, where no fence parts it from i
abbrev pub joined_before : Lattice → ℕ → Option ℕ → Option ℕ
joined_before l i None = None
joined_before l i (Some g) = cond (is_parted l.fences g i) None (Some g)

-- the neighbour after node i, where no fence parts i from it
abbrev pub joined_after : Lattice → ℕ → Option ℕ → Option ℕ
joined_after l i None = None
joined_after l i (Some j) = cond (is_parted l.fences i j) None (Some j)
