use Rattle.std.proofs.Common.{◌≡◌, ◌+◌, ◌-◌, ◌*◌, ◌∙◌, arith}
use Rattle.aea_gauss_words.proofs.Grouping.{middle_reduces, middle_long}
use Rattle.aea_gauss_words.proofs.by_tables.reduce_within.Goals as goal

pub returns : goal.returns
returns c =
    let lo = c.args.lo in
    let wide = c.args.wide in
    let n = (lo + 32) * wide - lo * wide in
    let is : n ≡ 32 * wide = omega arith in
    middle_reduces c.args.rows wide lo n c.args.words.now c.reduce.new.words c.requires.group c.requires.long is
    (c.reduce.ensures.long ∙ middle_long c.args.rows wide lo n c.args.words.now c.requires.group c.requires.long is) c.reduce.ensures.reduction
