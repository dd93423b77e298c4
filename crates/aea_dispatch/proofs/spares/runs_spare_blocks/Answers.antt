use Rattle.aea_dispatch.proofs.Sparing.{spare_blocks}
use Rattle.aea_dispatch.proofs.spares.runs_spare_blocks.Goals as goal

pub returns : goal.returns
returns g c = spare_blocks c.ledgers_have_one_reading.ensures c.survivors_are_revealed.ensures _ g.D.Disk.reveals g.D.Disk.state
