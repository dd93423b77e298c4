use Rattle.std.proofs.Common.{◌*◌, arith}
use Rattle.aea_gauss_words.specs.Words.{words_for, bit_matrix}
use Rattle.aea_gauss_words.proofs.rows.eliminate.Goals as goal
use Rattle.aea_gauss_words.proofs.Elimination.{narrow, still_empty}

pub returns-clause-padded : goal.returns-clause-padded
returns-clause-padded c =
    still_empty c.args.rows c.args.cols (64 * words_for c.args.cols) (bit_matrix (words_for c.args.cols) c.args.words.now) (bit_matrix (words_for c.args.cols) c.reduce_all.new.words)
    c.reduce_all.ensures c.requires.padded

pub returns-clause-reduction : goal.returns-clause-reduction
returns-clause-reduction c =
    narrow c.args.rows c.args.cols (64 * words_for c.args.cols) (bit_matrix (words_for c.args.cols) c.args.words.now) (bit_matrix (words_for c.args.cols) c.reduce_all.new.words)
    (omega arith) c.reduce_all.ensures
