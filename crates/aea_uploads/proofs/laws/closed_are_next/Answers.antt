use Rattle.aea_uploads.proofs.Closed.{closed-next}
use Rattle.aea_uploads.proofs.laws.closed_are_next.Goals as goal

pub returns : goal.returns
returns c = closed-next
