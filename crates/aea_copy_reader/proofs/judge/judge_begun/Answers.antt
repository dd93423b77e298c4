use Rattle.std.proofs.Common.{refl}
use Rattle.aea_disk.proofs.Frames.{reads_none}
use Rattle.aea_copy_reader.proofs.Seeing.{swapped_over}
use Rattle.aea_copy_reader.proofs.judge.judge_begun.Goals as goal

pub judge_both-requires-clause-begun : goal.judge_both-requires-clause-begun
judge_both-requires-clause-begun g c = λ reveals. ((rw c.in-None-None.is-0 at c.requires.good.0) reveals, (rw c.in-None-None.is-1 at c.requires.good.1) reveals)

pub judge_one-requires-clause-begun : goal.judge_one-requires-clause-begun
judge_one-requires-clause-begun g c = rw c.in-None-Some.is-0 at c.requires.good.0

pub judge_one-requires-in-Some-None-clause-begun : goal.judge_one-requires-in-Some-None-clause-begun
judge_one-requires-in-Some-None-clause-begun g c = rw c.in-Some-None.is-1 at c.requires.good.1

pub judge_one-requires-in-Some-None-clause-seen : goal.judge_one-requires-in-Some-None-clause-seen
judge_one-requires-in-Some-None-clause-seen g c = λ reveals.
    swapped_over (g.D.Disk.state c.args.disk.now).files (g.D.Disk.state c.args.disk.now).files 65 66 _ _ _ refl (c.requires.seen reveals)

pub returns-in-Some-Some-clause-reads : goal.returns-in-Some-Some-clause-reads
returns-in-Some-Some-clause-reads g c = reads_none g.D.Disk.reveals _ (g.D.Disk.state c.args.disk.now) (λ is. cc)
