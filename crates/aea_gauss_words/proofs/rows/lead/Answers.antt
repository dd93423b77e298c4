use Rattle.std.proofs.Common.{◌+◌, arith}
use Rattle.aea_gauss_words.proofs.rows.lead.Goals as goal
use Rattle.aea_gauss_words.proofs.Bits.{word_lead, none_more}

pub returns-then-word-ne0 : goal.returns-then-word-ne0
returns-then-word-ne0 c =
    word_lead c.args.words.now c.args.start c.args.wide c.loop-at.at (omega arith) c.loop-at.invariant c.if-word-ne0.true (omega (arith, c.type_inv.words (c.args.start + c.loop-at.at)))

pub loop-at-preserved : goal.loop-at-preserved
loop-at-preserved c = none_more c.args.words.now c.args.start c.loop-at.at c.loop-at.invariant (omega arith)
