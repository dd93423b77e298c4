use Rattle.aea_gauss_words.specs.Tables.{ArePicks}
use Rattle.aea_gauss_words.proofs.picks.pick_rows.Given as goal

abbrev pub invariant-loop-i : goal.invariant-loop-i
invariant-loop-i l = ArePicks l.wide l.words l.lo l.leads l.from l.i l.picks
