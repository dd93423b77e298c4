-- Lists of equations and of nodes as sets.
use Rattle.std.specs.Prelude.{ℕ, Bool, ◌&&◌, ◌==◌, List}
use Rattle.std.specs.List.{list_any}
use Rattle.aea_lattice.specs.declared.blocks.EqId.{EqId}
use Rattle.aea_lattice.specs.Blocks.{class_number}

-- whether two equations are the same
abbrev pub same_equation : EqId → EqId → Bool
same_equation a b = a.node == b.node && class_number a.class == class_number b.class

-- whether the equation is in the list
abbrev pub is_listed : List EqId → EqId → Bool
is_listed equations e = list_any (same_equation e) equations

-- whether the node is in the list
abbrev pub has_node : List ℕ → ℕ → Bool
has_node nodes i = list_any (λ k. i == k) nodes
