use Rattle.std.proofs.Common.{◌+◌, ◌*◌, arith}
use Rattle.aea_gauss_words.specs.Words.{bit_matrix}
use Rattle.aea_gauss_words.proofs.Grouping.{leaves_more, leaves_all}
use Rattle.aea_gauss_words.proofs.by_tables.reduce_by_tables.Goals as goal

pub loop-row-preserved : goal.loop-row-preserved
loop-row-preserved c =
    let wide = c.args.wide in
    let row = c.loop-row.row in
    leaves_more c.args.rows (64 * wide) row (row + 1) (bit_matrix wide c.args.words.now) (bit_matrix wide c.loop-row.words) (bit_matrix wide c.reduce_row.new.words) c.loop-row.invariant
    c.reduce_row.ensures.sums c.reduce_row.ensures.reduced

pub returns : goal.returns
returns c =
    let past = c.loop-row-test.false in
    leaves_all c.args.rows (64 * c.args.wide) c.loop-row.row (bit_matrix c.args.wide c.args.words.now) (bit_matrix c.args.wide c.loop-row.words) (omega arith) c.loop-row.invariant
