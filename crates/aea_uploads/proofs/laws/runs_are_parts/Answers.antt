use Rattle.aea_uploads.proofs.Closed.{runs-are-parts}
use Rattle.aea_uploads.proofs.laws.runs_are_parts.Goals as goal

pub returns : goal.returns
returns c = runs-are-parts
