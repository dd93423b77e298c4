use Rattle.std.proofs.Common.{◌∙◌, arith}
use Rattle.aea_sums.proofs.Tagging.{tagging_begun, tagging_more, tagging_ended}
use Rattle.aea_sums.proofs.tags.fill_tags.Goals as goal

pub loop-k-init : goal.loop-k-init
loop-k-init c = tagging_begun c.args.lattice.now c.args.wanted.now c.clear_words.new.words (c.clear_words.ensures.long ∙ c.requires.long) c.clear_words.ensures.none

pub returns-clause-tags : goal.returns-clause-tags
returns-clause-tags c =
    tagging_ended c.args.lattice.now c.args.wanted.now c.loop-k.table c.loop-k.k (let h = c.loop-k-test.false in omega arith) c.loop-k.invariant

pub loop-k-preserved : goal.loop-k-preserved
loop-k-preserved c =
    let k = c.loop-k.k in
    let less = c.loop-k-test.true in
    tagging_more c.args.lattice.now c.args.wanted.now c.loop-k.table k c.number-number.result c.flipped.result (omega arith) (c.requires.wanted k (omega arith))
    c.number-number.ensures.value c.flipped.ensures (let below = c.number-number.ensures.below in let long = c.loop-k.invariant.long in omega arith) c.loop-k.invariant
