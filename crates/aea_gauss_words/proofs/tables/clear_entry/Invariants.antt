use Rattle.aea_gauss_words.specs.Tables.{Sets}
use Rattle.aea_gauss_words.proofs.tables.clear_entry.Given as goal

abbrev pub invariant-loop-k : goal.invariant-loop-k
invariant-loop-k l = Sets l.base l.k (λ k. 0) l.fn.table l.table
