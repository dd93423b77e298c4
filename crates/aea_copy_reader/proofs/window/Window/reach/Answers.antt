use Rattle.aea_disk.proofs.Frames.{reads_none}
use Rattle.aea_copy_reader.proofs.window.Window.reach.Goals as goal

pub returns-then-has-clause-reads : goal.returns-then-has-clause-reads
returns-then-has-clause-reads g c = reads_none g.D.Disk.reveals _ (g.D.Disk.state c.args.disk.now) (λ is. cc)
