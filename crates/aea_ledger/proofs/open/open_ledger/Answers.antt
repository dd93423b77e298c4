use Rattle.aea_ledger.proofs.Starts.{answered}
use Rattle.aea_ledger.proofs.open.open_ledger.Goals as goal

pub returns-clause-exactly : goal.returns-clause-exactly
returns-clause-exactly g c = λ reveals. answered _ _ c.ledgers_are_not_bad.ensures c.ledgers_are_bad_at_one_place.ensures c.ledgers_are_archives.ensures (c.read_surely.ensures.answers reveals)
