use Rattle.aea_mirror.proofs.Losing.{keeps_ledgers}
use Rattle.aea_mirror.proofs.laws.mirrors_keep_ledgers.Goals as goal

pub returns : goal.returns
returns c = keeps_ledgers c.records_are_short.ensures
