use Rattle.aea_uploads.proofs.Closed.{closed-parts}
use Rattle.aea_uploads.proofs.laws.closed_are_parts.Goals as goal

pub returns : goal.returns
returns c = closed-parts
