use Rattle.std.proofs.Common.{◌≡◌, map, take}
use Rattle.aea_gauss.specs.Outputs.{equation_at}
use Rattle.aea_gauss.proofs.outputs.equations_at.Given as goal

abbrev pub invariant-loop-k : goal.invariant-loop-k
invariant-loop-k l = l.equations.items ≡ map equation_at (take l.k l.outputs)
