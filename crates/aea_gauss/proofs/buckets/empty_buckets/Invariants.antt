use Rattle.std.proofs.Common.{◌≡◌, [], replicate}
use Rattle.aea_gauss.proofs.buckets.empty_buckets.Given as goal

abbrev pub invariant-loop-at : goal.invariant-loop-at
invariant-loop-at g l = l.buckets.items ≡ replicate l._at []
