use Rattle.std.proofs.Common.{◌≡◌, nat_le, [], ◌∷◌, ◌++◌, map, filter, take}
use Rattle.aea_lattice.specs.declared.blocks.Class.TheVariants.{Horiz, Right, Left}
use Rattle.aea_lattice.specs.Blocks.{class_number}
use Rattle.aea_lattice.specs.Equations.{equation_of}
use Rattle.aea_plain.proofs.sums.push_equations.Given as goal

abbrev pub invariant-loop-class : goal.invariant-loop-class
invariant-loop-class l =
    l.equations.items ≡ l.fn.equations.items ++ map (equation_of l.node) (filter (λ c. nat_le (class_number c) l.lattice.alpha) (take l.class-index (Horiz ∷ Right ∷ Left ∷ [])))
