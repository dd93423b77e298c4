use Rattle.aea_fates.proofs.Parts.{parts-alone}
use Rattle.aea_fates.proofs.laws.parts_stand_alone.Goals as goal

pub returns : goal.returns
returns c = parts-alone
