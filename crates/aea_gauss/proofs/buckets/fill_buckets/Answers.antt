use Rattle.std.proofs.Common.{arith}
use Rattle.aea_gauss.proofs.Parting.{bucket_more}
use Rattle.aea_gauss.proofs.buckets.fill_buckets.Goals as goal

pub loop-k-preserved : goal.loop-k-preserved
loop-k-preserved g c =
    bucket_more c.args.items.now c.args.labels.now c.loop-k.buckets c.put_in.new.buckets _ c.loop-k.k c.index-items-k.result c.index-items-k.result
    c.loop-k-test.true (let less = c.loop-k-test.true in let long = c.requires.long in c.requires.below c.loop-k.k (omega arith)) c.index-items-k.is c.in_ok-put_in.ensures c.loop-k.invariant.0 c.loop-k.invariant.1
