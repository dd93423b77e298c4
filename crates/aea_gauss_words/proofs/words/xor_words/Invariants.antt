use Rattle.aea_weave.specs.Runs.{Xors}
use Rattle.aea_gauss_words.proofs.words.xor_words.Given as goal

abbrev pub invariant-loop-k : goal.invariant-loop-k
invariant-loop-k l = Xors 0 l.k l.fn.dst l.src l.dst
