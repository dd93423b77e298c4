use Rattle.std.proofs.Common.{◌≡◌, take}
use Rattle.aea_sites.proofs.count.copied.Given as goal

abbrev pub invariant-loop-k : goal.invariant-loop-k
invariant-loop-k l = l.list ≡ take l.k l.nodes
