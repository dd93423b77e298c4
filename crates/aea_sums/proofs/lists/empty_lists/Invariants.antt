use Rattle.std.proofs.Common.{◌≡◌, [], replicate}
use Rattle.aea_sums.proofs.lists.empty_lists.Given as goal

abbrev pub invariant-loop-at : goal.invariant-loop-at
invariant-loop-at l = l.lists.items ≡ replicate l._at []
