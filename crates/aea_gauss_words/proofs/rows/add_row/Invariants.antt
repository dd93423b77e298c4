use Rattle.aea_gauss_words.specs.Words.{Adds}
use Rattle.aea_gauss_words.proofs.rows.add_row.Given as goal

abbrev pub invariant-loop-at : goal.invariant-loop-at
invariant-loop-at l = Adds l.from l.into l.at l.fn.words l.words
