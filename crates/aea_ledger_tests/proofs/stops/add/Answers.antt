use Rattle.aea_ledger_tests.proofs.stops.add.Goals as goal

pub returns-clause-fixed : goal.returns-clause-fixed
returns-clause-fixed g c = λ revealed. λ files is. c.in_ok-append.ensures.committed.durable revealed files is 0
