use Rattle.std.proofs.Common.{◌*◌, ◌∙◌, arith}
use Rattle.aea_gauss_words.specs.Words.{bit_matrix}
use Rattle.aea_gauss_words.proofs.rows.clear.Goals as goal
use Rattle.aea_gauss_words.proofs.Elimination.{part_more}

pub loop-other-preserved : goal.loop-other-preserved
loop-other-preserved c = record {
  long = c.clear_one.ensures.long ∙ c.loop-other.invariant.long;
  part =
      part_more c.args.rows (64 * c.args.wide) (bit_matrix c.args.wide c.args.words.now) (bit_matrix c.args.wide c.loop-other.words) (bit_matrix c.args.wide c.clear_one.new.words)
      c.args.row c.args.column c.loop-other.other c.requires.row c.requires.column (omega arith) c.loop-other.invariant.part c.clear_one.ensures.cleared;
}
