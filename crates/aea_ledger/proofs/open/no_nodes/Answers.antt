use Rattle.aea_ledger.proofs.Starts.{has_lattice}
use Rattle.aea_ledger.proofs.open.no_nodes.Goals as goal

pub unreachable-requires : goal.unreachable-requires
unreachable-requires c =
    let none = c.in_default.ensures.valid.1 (has_lattice c.args.shape.now _ _ _ c.alpha.ensures c.s.ensures c.p.ensures) in cc
