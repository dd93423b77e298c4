use Rattle.aea_disk.proofs.Frames.{reads_none}
use Rattle.aea_copy_reader.proofs.Parting.{ok_from}
use Rattle.aea_copy_reader.proofs.judge.compare.Goals as goal

pub returns-then-walked-clause-reads : goal.returns-then-walked-clause-reads
returns-then-walked-clause-reads g c = reads_none g.D.Disk.reveals _ (g.D.Disk.state c.args.disk.now) (λ is. cc)

pub returns-then-walked-clause-differ : goal.returns-then-walked-clause-differ
returns-then-walked-clause-differ g c = rw (c.in-Good-Good.is-0, c.in-Good-Good.is-1) (λ reveals. (c.requires.common reveals).whole c.if-walked.true)

pub returns-else-walked-clause-differ : goal.returns-else-walked-clause-differ
returns-else-walked-clause-differ g c = rw (c.in-Good-Good.is-0, c.in-Good-Good.is-1)
    (ok_from c.difference_after.result (λ differ shown reveals. let common = c.requires.common reveals in shown reveals common.pieces (common.parted c.if-walked.false)) c.difference_after.ensures.differ)

pub returns-in_default-clause-reads : goal.returns-in_default-clause-reads
returns-in_default-clause-reads g c = reads_none g.D.Disk.reveals _ (g.D.Disk.state c.args.disk.now) (λ is. cc)

pub returns-in_default-2-clause-reads : goal.returns-in_default-2-clause-reads
returns-in_default-2-clause-reads g c = reads_none g.D.Disk.reveals _ (g.D.Disk.state c.args.disk.now) (λ is. cc)
