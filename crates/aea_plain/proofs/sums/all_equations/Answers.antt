use Rattle.std.proofs.Common.{◌-◌, All, sym, subst, arith}
use Rattle.aea_lattice.specs.Equations.{HasEquation}
use Rattle.aea_lattice.proofs.Among.{equations_inside}
use Rattle.aea_plain.proofs.sums.all_equations.Goals as goal

pub returns-clause-inside : goal.returns-clause-inside
returns-clause-inside c =
    subst (All (HasEquation c.args.lattice.now)) (sym c.loop-node.invariant)
    (equations_inside c.args.lattice.now (c.loop-node.node - 1) (omega arith))
