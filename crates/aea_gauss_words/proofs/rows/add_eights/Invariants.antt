use Rattle.std.proofs.Common.{◌*◌}
use Rattle.aea_gauss_words.specs.Words.{Adds}
use Rattle.aea_gauss_words.proofs.rows.add_eights.Given as goal

abbrev pub invariant-loop-eight : goal.invariant-loop-eight
invariant-loop-eight l = Adds l.from l.into (l.eight * 8) l.fn.words l.words
