use Rattle.std.proofs.Common.{◌+◌, ◌-◌, length}
use Rattle.aea_sweep.proofs.Merging.{Merged}
use Rattle.aea_sweep.proofs.word.add_lists.Given as goal

abbrev pub invariant-merge : goal.invariant-merge
invariant-merge l = Merged l.first l.second l.sum l.a l.b

abbrev pub decreases-merge : goal.decreases-merge
decreases-merge l = (length l.first - l.a) + (length l.second - l.b)
