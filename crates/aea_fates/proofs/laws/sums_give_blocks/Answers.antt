use Rattle.aea_fates.proofs.Given.{sums-give}
use Rattle.aea_fates.proofs.laws.sums_give_blocks.Goals as goal

pub returns : goal.returns
returns c = sums-give
