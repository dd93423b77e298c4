use Rattle.std.proofs.Common.{◌*◌}
use Rattle.aea_gauss_words.specs.Words.{bit_matrix}
use Rattle.aea_gauss_words.specs.Tables.{LeavesReduced}
use Rattle.aea_gauss_words.proofs.by_tables.reduce_by_tables.Given as goal

abbrev pub invariant-loop-row : goal.invariant-loop-row
invariant-loop-row l = LeavesReduced l.rows (64 * l.wide) l.row (bit_matrix l.wide l.fn.words) (bit_matrix l.wide l.words)
