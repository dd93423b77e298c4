use Rattle.aea_survival.proofs.Between.{found}
use Rattle.aea_survival.proofs.shown_is_found.Goals as goal

pub returns : goal.returns
returns c = found c.records_are_short.ensures
