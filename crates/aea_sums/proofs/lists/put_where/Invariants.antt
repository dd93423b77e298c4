use Rattle.std.proofs.Common.{◌-◌, ◌≤◌}
use Rattle.aea_sums.proofs.Listing.{Putting}
use Rattle.aea_sums.proofs.lists.put_where.Given as goal

abbrev pub invariant-loop-k : goal.invariant-loop-k
invariant-loop-k l = record {
  putting : Putting l.word l.e l.fn.lists l.lists l.from;
  within : l.from ≤ 64;
}

abbrev pub decreases-loop-k : goal.decreases-loop-k
decreases-loop-k l = 64 - l.from
