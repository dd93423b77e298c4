use Rattle.std.proofs.Common.{arith}
use Rattle.aea_verify.proofs.Tallied.{few-blocks}
use Rattle.aea_verify.proofs.tally.Tally.begin.Goals as goal

pub returns-clause-small : goal.returns-clause-small
returns-clause-small c l = record { few = few-blocks l; least = omega arith; line = omega arith; counts = omega arith }
