use Rattle.aea_gauss.proofs.OneList.{fates-one}
use Rattle.aea_gauss.proofs.laws.fates_are_one.Goals as goal

pub returns : goal.returns
returns c = fates-one c.lists_are_one.ensures
