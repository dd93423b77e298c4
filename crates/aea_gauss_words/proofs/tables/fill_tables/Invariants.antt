use Rattle.std.proofs.Common.{ℕ, ◌<◌, ◌+◌, ◌*◌}
use Rattle.aea_gauss_words.specs.Tables.{IsTable, word_of}
use Rattle.aea_gauss_words.proofs.tables.fill_tables.Given as goal

abbrev pub invariant-loop-t : goal.invariant-loop-t
invariant-loop-t l = (t : ℕ) → t < l.t → IsTable (t * 16384) 8 l.len (λ s k. word_of l.wide l.words (l.lo + 8 * t + s) (l.at + k)) l.table
