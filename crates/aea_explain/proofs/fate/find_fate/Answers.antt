use Rattle.std.proofs.Common.{arith}
use Rattle.aea_explain.proofs.Fated.{none_among}
use Rattle.aea_explain.proofs.fate.find_fate.Goals as goal

pub returns : goal.returns
returns c =
    none_among c.args.fates.now c.args.block
    (λ k fate below here. c.loop-k.invariant.none k fate (omega (arith, below, c.loop-k-test.false, c.len-k-end.ensures)) here)
