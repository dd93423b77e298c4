use Rattle.std.proofs.Common.{refl}
use Rattle.aea_disk.proofs.Frames.{reads_failed, reads_made}
use Rattle.aea_adopt.proofs.mend.gate_at.Goals as goal

pub returns-in_err-count-clause-reads : goal.returns-in_err-count-clause-reads
returns-in_err-count-clause-reads g c =
    let e = c.in_err-count.ensures in
    reads_failed g.D.Disk.reveals _ (g.D.Disk.state c.args.disk.now) (g.D.Disk.state c.read.new.self) _ refl (cc) e.contents e.crash e.settled e.time e.cause e.sure

pub returns-then-count-eq0-clause-reads : goal.returns-then-count-eq0-clause-reads
returns-then-count-eq0-clause-reads g c =
    let e = c.in_ok-count.ensures in
    reads_made g.D.Disk.reveals _ (g.D.Disk.state c.args.disk.now) (g.D.Disk.state c.read.new.self) _ refl (λ is. cc) e.contents e.crash e.settled e.time e.cause e.sure

pub returns-then-byte-eq1-clause-reads : goal.returns-then-byte-eq1-clause-reads
returns-then-byte-eq1-clause-reads g c =
    let e = c.in_ok-count.ensures in
    reads_made g.D.Disk.reveals _ (g.D.Disk.state c.args.disk.now) (g.D.Disk.state c.read.new.self) _ refl (λ is. cc) e.contents e.crash e.settled e.time e.cause e.sure

pub returns-else-byte-eq1-clause-reads : goal.returns-else-byte-eq1-clause-reads
returns-else-byte-eq1-clause-reads g c =
    let e = c.in_ok-count.ensures in
    reads_made g.D.Disk.reveals _ (g.D.Disk.state c.args.disk.now) (g.D.Disk.state c.read.new.self) _ refl (λ is. cc) e.contents e.crash e.settled e.time e.cause e.sure
