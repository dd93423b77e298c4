use Rattle.aea_gauss_words.specs.Tables.{AddsSums}
use Rattle.aea_gauss_words.proofs.chunks.add_sums.Given as goal

abbrev pub invariant-loop-i : goal.invariant-loop-i
invariant-loop-i l = AddsSums l.rows l.wide l.from l.i l.at l.len l.table l.picks l.fn.words l.words
