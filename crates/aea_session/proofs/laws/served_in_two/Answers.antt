use Rattle.aea_session.proofs.Traces.{served_parts}
use Rattle.aea_session.proofs.laws.served_in_two.Goals as goal

pub returns : goal.returns
returns g c = served_parts g.D.Disk.reveals g.D.Disk.state
