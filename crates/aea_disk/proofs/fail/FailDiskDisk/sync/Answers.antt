use Rattle.std.proofs.Common.{ap, ◌∙◌, arith}
use Rattle.aea_disk.specs.Fail.{Failing}
use Rattle.aea_disk.proofs.Lending.{stops_after, failed_time, passed_time}
use Rattle.aea_disk.proofs.fail.FailDiskDisk.sync.Goals as goal

pub returns-then-fails_now-clause-time : goal.returns-then-fails_now-clause-time
returns-then-fails_now-clause-time g c =
    failed_time g.D.Disk.state c.args.self.now.inner c.counted.new.self.inner c.args.self.now.faults c.fails_now.new.self.faults c.counted.new.self.faults (c.counted.ensures.inner ∙ c.fails_now.ensures.inner) c.fails_now.ensures.faults
    c.counted.ensures.cause.kept (let is = c.counted.ensures.faults in omega (arith, is))

pub returns-clause-time : goal.returns-clause-time
returns-clause-time g c =
    passed_time g.D.Disk.state c.args.self.now.inner c.self.inside.inner c.sync-answer.new.self c.counted-2.new.self.inner c.args.self.now.faults c.self.inside.faults c.counted-2.new.self.faults
    (ap (λ (d : Failing _). d.inner) c.self.view_is ∙ c.fails_now.ensures.inner) c.counted-2.ensures.inner (ap (λ (d : Failing _). d.faults) c.self.view_is ∙ c.fails_now.ensures.faults)
    c.counted-2.ensures.cause.kept (stops_after _ _ c.sync-answer.result c.counted-2.ensures.faults) c.sync-answer.ensures.time
