-- The number of strands of a class.
use Rattle.std.proofs.Common.{ℕ, ◌+◌, ◌-◌, ◌<◌, ◌≤◌, arith}
use Rattle.std.proofs.lemmas.Nat.{mod_below}
use Rattle.std.proofs.lemmas.Bool.Decides.{nat_tests}
use Rattle.aea_lattice.specs.declared.blocks.Class.{Class}
use Rattle.aea_lattice.specs.declared.blocks.Class.TheVariants.{Datum, Horiz, Right, Left}
use Rattle.aea_lattice.specs.declared.grid.Lattice.{Lattice}
use Rattle.aea_lattice.specs.Blocks.{HasParity}
use Rattle.aea_lattice.specs.Strands.{row, column, strand_of}
use Rattle.aea_lattice.proofs.Neighbours.{some_rows, woven}

few_rows : (l : Lattice) → l.s ≤ 16
few_rows l = let h = l.in_profile in grind (arith, nat_tests)

-- a class has at most 64 strands
pub few_strands : (l : Lattice) (c : Class) (i : ℕ) → HasParity l c → strand_of l c i < 64
few_strands l Datum i has = omega arith
few_strands l Horiz i has =
    let below : row l i < l.s = mod_below (i - 1) l.s (some_rows l) in omega (arith, few_rows l)
few_strands l Right i has =
    let shape = woven l has.used in
    let below : strand_of l Right i < l.p = mod_below (column l i + (l.p - row l i)) l.p (let a = shape.two in let b = shape.p_least in omega arith) in
    omega (arith, shape.p_most)
few_strands l Left i has =
    let shape = woven l (let used = has.used in omega arith) in
    let below : strand_of l Left i < l.p = mod_below (column l i + row l i) l.p (let a = shape.two in let b = shape.p_least in omega arith) in
    omega (arith, shape.p_most)
