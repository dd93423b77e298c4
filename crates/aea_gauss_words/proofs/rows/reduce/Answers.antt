use Rattle.std.proofs.Common.{◌*◌, ◌∙◌}
use Rattle.aea_gauss_words.specs.Words.{bit_matrix}
use Rattle.aea_gauss_words.proofs.rows.reduce.Goals as goal
use Rattle.aea_gauss_words.proofs.Elimination.{sums_through}

pub loop-row-preserved : goal.loop-row-preserved
loop-row-preserved c = record {
  long = c.reduce_row.ensures.long ∙ c.loop-row.invariant.long;
  sums =
      sums_through c.args.rows (64 * c.args.wide) (bit_matrix c.args.wide c.args.words.now) (bit_matrix c.args.wide c.loop-row.words) (bit_matrix c.args.wide c.reduce_row.new.words)
      c.loop-row.invariant.sums c.reduce_row.ensures.sums;
  reduced = c.reduce_row.ensures.reduced c.loop-row.invariant.reduced;
}
