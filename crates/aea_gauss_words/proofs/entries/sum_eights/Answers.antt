use Rattle.std.proofs.Common.{arith}
use Rattle.aea_gauss_words.proofs.Setting.{sums_more}
use Rattle.aea_gauss_words.proofs.entries.sum_eights.Goals as goal

pub loop-eight-preserved : goal.loop-eight-preserved
loop-eight-preserved c =
    let less = c.loop-eight-test.true in
    sums_more c.args.from c.args.into c.args.begin c.loop-eight.eight c.args.len c.args.words.now c.args.table.now c.loop-eight.table c.sum_lanes.new.table
    c.requires.apart (omega arith) c.loop-eight.invariant c.sum_lanes.ensures
