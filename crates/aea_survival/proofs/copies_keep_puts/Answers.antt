use Rattle.aea_survival.proofs.Chain.{copies_keep}
use Rattle.aea_survival.proofs.copies_keep_puts.Goals as goal

pub returns : goal.returns
returns g c = copies_keep c.ledgers_have_one_reading.ensures c.digests_are_counted.ensures c.cells_have_lengths.ensures c.cells_have_parts.ensures c.records_are_short.ensures _ g.D.Disk.reveals g.D.Disk.state
