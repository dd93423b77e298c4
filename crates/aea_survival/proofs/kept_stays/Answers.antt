use Rattle.aea_survival.proofs.Staying.{kept_stay}
use Rattle.aea_survival.proofs.kept_stays.Goals as goal

pub returns : goal.returns
returns c = kept_stay
