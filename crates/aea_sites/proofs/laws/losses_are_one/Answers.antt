use Rattle.aea_sites.proofs.LossLaws.{losses_one}
use Rattle.aea_sites.proofs.laws.losses_are_one.Goals as goal

pub returns : goal.returns
returns c = losses_one c.blocks_are_inside.ensures c.lists_are_one.ensures
