use Rattle.aea_session.proofs.Traces.{served_after}
use Rattle.aea_session.proofs.laws.served_are_after.Goals as goal

pub returns : goal.returns
returns g c = served_after g.D.Disk.reveals g.D.Disk.state
