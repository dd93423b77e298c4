use Rattle.aea_disk.proofs.Frames.{reads_none}
use Rattle.aea_scrub.proofs.marking.scan.Goals as goal

pub returns-in_default-clause-reads : goal.returns-in_default-clause-reads
returns-in_default-clause-reads g c = reads_none g.D.Disk.reveals _ (g.D.Disk.state c.args.disk.now) (λ is. absurd (let e = is in cc))

pub returns-in_default-cell_buffer-clause-reads : goal.returns-in_default-cell_buffer-clause-reads
returns-in_default-cell_buffer-clause-reads g c = reads_none g.D.Disk.reveals _ (g.D.Disk.state c.args.disk.now) (λ is. absurd (let e = is in cc))
