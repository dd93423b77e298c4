use Rattle.aea_gauss_words.proofs.Tabling.{Doubled}
use Rattle.aea_gauss_words.proofs.tables.double_entries.Given as goal

abbrev pub invariant-loop-x : goal.invariant-loop-x
invariant-loop-x l = Doubled l.base l.size l.begin l.len l.x l.words l.fn.table l.table
