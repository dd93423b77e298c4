use Rattle.std.proofs.lemmas.Result.{on_ok_weaker}
use Rattle.aea_disk.proofs.Moments.{synced_fixed}
use Rattle.aea_system_tests.proofs.commits.gate.begin.Goals as goal

pub returns-clause-fixed : goal.returns-clause-fixed
returns-clause-fixed g c =
    let last = g.D.Disk.state c.sync.new.self in
    on_ok_weaker c.sync.result (λ durable revealed. synced_fixed last 0 (durable revealed)) c.sync.ensures.durable
