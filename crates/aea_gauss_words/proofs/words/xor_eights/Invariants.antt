use Rattle.std.proofs.Common.{◌*◌}
use Rattle.aea_weave.specs.Runs.{Xors}
use Rattle.aea_gauss_words.proofs.words.xor_eights.Given as goal

abbrev pub invariant-loop-eight : goal.invariant-loop-eight
invariant-loop-eight l = Xors 0 (l.eight * 8) l.fn.dst l.src l.dst
