use Rattle.aea_sites.proofs.LossLaws.{lost_on_sites}
use Rattle.aea_sites.proofs.laws.lost_are_on_sites.Goals as goal

pub returns : goal.returns
returns c = lost_on_sites c.blocks_are_inside.ensures c.reached_are_determined.ensures
