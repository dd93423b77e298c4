use Rattle.std.proofs.Common.{refl, subst, sym, ◌+◌, ℕ}
use Rattle.aea_sweep.specs.Labels.{IsBehind}
use Rattle.aea_sweep.proofs.Alongs.{behind_some, behind_none}
use Rattle.aea_sweep.proofs.labels.behind.Goals as goal

pub returns-in-Some : goal.returns-in-Some
returns-in-Some c =
    let next = (c.in-Some.ensures.next c.in-Some.next).0 refl in
    behind_some c.args.lattice.now c.args.class c.args.node c.in-Some.next next.0 next.1

pub returns-in-None : goal.returns-in-None
returns-in-None c =
    subst (λ (n : ℕ). IsBehind c.args.lattice.now c.args.class c.args.node (n + 1)) (sym c.n.ensures)
    (behind_none c.args.lattice.now c.args.class c.args.node c.requires.node.first c.requires.node.last c.in-None.ensures.next)
