use Rattle.std.proofs.Common.{◌+◌}
use Rattle.aea_gauss_words.specs.Tables.{word_of}
use Rattle.aea_gauss_words.proofs.Tabling.{Filling}
use Rattle.aea_gauss_words.proofs.tables.fill_table.Given as goal

abbrev pub invariant-loop-s : goal.invariant-loop-s
invariant-loop-s l = Filling l.base l.s l.len (λ s k. word_of l.wide l.words (l.first + s) (l.at + k)) l.fn.table l.table
