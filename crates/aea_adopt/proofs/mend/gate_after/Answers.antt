use Rattle.aea_disk.proofs.Frames.{reads_none}
use Rattle.aea_adopt.proofs.mend.gate_after.Goals as goal

pub returns-then-not-kept-clause-reads : goal.returns-then-not-kept-clause-reads
returns-then-not-kept-clause-reads g c = reads_none g.D.Disk.reveals _ (g.D.Disk.state c.args.disk.now) (λ is. cc)
