use Rattle.aea_session.proofs.Traces.{served_joined}
use Rattle.aea_session.proofs.laws.served_as_one.Goals as goal

pub returns : goal.returns
returns g c = served_joined g.D.Disk.reveals g.D.Disk.state
