-- How many strands a class has, and where each of them ends.
use Rattle.std.specs.Prelude.{ℕ, ◌+◌, List, [], ◌∷◌, Option, Some, None}
use Rattle.aea_lattice.specs.declared.blocks.Class.{Class}
use Rattle.aea_lattice.specs.declared.blocks.Class.TheVariants.{Datum, Horiz, Right, Left}
use Rattle.aea_lattice.specs.declared.grid.Lattice.{Lattice}
use Rattle.aea_lattice.specs.Strands.{nodes_on}

-- the number of strands of a class: s of Horiz, and p of Right and of Left
abbrev pub strands_of : Lattice → Class → ℕ
strands_of l Datum = 0
strands_of l Horiz = l.s
strands_of l Right = l.p
strands_of l Left = l.p

-- The open nodes of a strand: those that no fence parts from a node after the last one. They are the nodes of the
-- strand after the last fence, and the ones that are before the next node of the strand in its prefix.
abbrev pub open_nodes : Lattice → Class → ℕ → List ℕ
open_nodes l c strand = nodes_on l c strand (l.n + 1) l.n

-- the last item of a list, if there is one
abbrev pub last_of : List ℕ → Option ℕ
last_of [] = None
last_of (x ∷ []) = Some x
last_of (x ∷ y ∷ ys) = last_of (y ∷ ys)

-- the last open node of a strand, if it has one
abbrev pub last_open : Lattice → Class → ℕ → Option ℕ
last_open l c strand = last_of (open_nodes l c strand)
