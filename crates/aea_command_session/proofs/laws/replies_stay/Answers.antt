use Rattle.aea_command_session.proofs.Chaining.{replies_stay}
use Rattle.aea_command_session.proofs.laws.replies_stay.Goals as goal

pub returns : goal.returns
returns g c = replies_stay g.D.Disk.reveals
