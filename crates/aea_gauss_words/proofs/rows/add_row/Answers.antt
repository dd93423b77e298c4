use Rattle.std.proofs.Common.{◌+◌, arith}
use Rattle.aea_gauss_words.proofs.rows.add_row.Goals as goal
use Rattle.aea_gauss_words.proofs.Lanes.{adds_set}
use Rattle.aea_gauss_words.proofs.Bits.{apart_less}

pub loop-at-preserved : goal.loop-at-preserved
loop-at-preserved c =
    adds_set c.loop-at.at c.args.from c.args.into c.args.words.now c.loop-at.words (omega arith)
    (apart_less c.args.from c.args.into (c.loop-at.at + 1) c.args.wide (omega arith) c.requires.apart) c.loop-at.invariant
