use Rattle.aea_sums.proofs.Tagging.{Tagging}
use Rattle.aea_sums.proofs.tags.fill_tags.Given as goal

abbrev pub invariant-loop-k : goal.invariant-loop-k
invariant-loop-k l = Tagging l.lattice l.wanted l.table l.k
