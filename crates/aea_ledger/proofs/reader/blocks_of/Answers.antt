use Rattle.std.proofs.Common.{◌+◌, arith}
use Rattle.std.proofs.lemmas.Nat.{mul-le}
use Rattle.aea_ledger.proofs.Small.{alpha_small}
use Rattle.aea_ledger.proofs.reader.blocks_of.Goals as goal

pub returns-clause-few : goal.returns-clause-few
returns-clause-few c =
    omega (arith, mul-le c.args.nodes (1 + c.from.result) 1048576 4 c.requires (omega (arith, c.from.ensures, c.alpha.ensures, alpha_small c.args.shape.now)))
