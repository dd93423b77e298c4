use Rattle.std.proofs.Common.{subst}
use Rattle.aea_ledger.specs.Values.{HasSomeRecords}
use Rattle.aea_ledger.proofs.ledger.Ledger.shape.Goals as goal

pub returns-clause-records : goal.returns-clause-records
returns-clause-records c = subst HasSomeRecords c.self.view_is c.self.invariant
