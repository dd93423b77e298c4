use Rattle.aea_disk.proofs.Frames.{reads_one}
use Rattle.aea_ledger.proofs.cursor.read_behind.Goals as goal

pub returns-clause-reads : goal.returns-clause-reads
returns-clause-reads g c =
    reads_one g.D.Disk.reveals (g.D.Disk.state c.args.disk.now) (g.D.Disk.state c.read.new.self) c.read.result c.read.ensures.contents c.read.ensures.crash c.read.ensures.settled c.read.ensures.time c.read.ensures.cause c.read.ensures.sure
