use Rattle.aea_disk.proofs.Frames.{reads_none}
use Rattle.aea_explain.proofs.Explanations.{gone_around}
use Rattle.aea_explain.proofs.explaining.search_around.Goals as goal

pub returns-in_default-clause-reads : goal.returns-in_default-clause-reads
returns-in_default-clause-reads g c = reads_none g.D.Disk.reveals _ (g.D.Disk.state c.args.disk.now) (λ is. absurd (let e = is in cc))

pub returns-in_default-begin-clause-reads : goal.returns-in_default-begin-clause-reads
returns-in_default-begin-clause-reads g c = reads_none g.D.Disk.reveals _ (g.D.Disk.state c.args.disk.now) (λ is. absurd (let e = is in cc))

pub returns-in-Ok-finish-clause-around : goal.returns-in-Ok-finish-clause-around
returns-in-Ok-finish-clause-around g c =
    gone_around g.D.Disk.reveals c.args.ledger.now (g.D.Disk.state c.args.disk.now).files c.args.block c.in-Ok.search c.begin.new.self c.finish.new.self
    c.requires.block c.in-Ok.ensures c.in-Ok-begin.ensures.begins c.finish.ensures.goes c.in-Ok-finish.ensures.done
