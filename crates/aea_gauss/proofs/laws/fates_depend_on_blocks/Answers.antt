use Rattle.aea_gauss.proofs.Depending.{fates-depend}
use Rattle.aea_gauss.proofs.laws.fates_depend_on_blocks.Goals as goal

pub returns : goal.returns
returns c = fates-depend
