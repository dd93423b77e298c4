use Rattle.std.proofs.Common.{◌*◌}
use Rattle.aea_weave.specs.Runs.{Xors}
use Rattle.aea_weave.proofs.xor.xor_runs.Given as goal

abbrev pub invariant-loop-run : goal.invariant-loop-run
invariant-loop-run l = Xors 0 (l.run * 64) l.fn.dst l.src l.dst
