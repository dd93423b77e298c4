use Rattle.aea_put_tests.proofs.parting.commit.Goals as goal

pub returns-clause-fixed : goal.returns-clause-fixed
returns-clause-fixed g c = λ revealed. λ files is. c.in_ok-commit_parts.ensures.durable revealed files is 0
