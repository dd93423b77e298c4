use Rattle.std.proofs.Common.{◌*◌}
use Rattle.aea_gauss_words.specs.Words.{bit_matrix}
use Rattle.aea_gauss_words.specs.Tables.{LeavesReduced}
use Rattle.aea_gauss_words.proofs.by_tables.reduce_groups.Given as goal

abbrev pub invariant-loop-group : goal.invariant-loop-group
invariant-loop-group l = LeavesReduced l.rows (64 * l.wide) (l.group * 32) (bit_matrix l.wide l.fn.words) (bit_matrix l.wide l.words)
