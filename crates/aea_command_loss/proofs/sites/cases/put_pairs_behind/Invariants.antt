use Rattle.std.proofs.Common.{Ok}
use Rattle.aea_command_loss.specs.Sites.{pairs_behind}
use Rattle.aea_command_loss.specs.Sites.Steps.{PutsLosses}
use Rattle.aea_command_loss.proofs.sites.cases.put_pairs_behind.Given as goal

-- the lines of the first of these pairs are put
abbrev pub invariant-loop-k : goal.invariant-loop-k
invariant-loop-k g l =
    let O = g.O.Sink in
    PutsLosses {T = Unit {0}} l.lattice l.sites (pairs_behind l.a l.k) (O.state l.fn.out) (O.state l.out) (Ok tt)
