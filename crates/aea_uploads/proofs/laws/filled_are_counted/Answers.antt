use Rattle.aea_uploads.proofs.Counted.{filled-counted}
use Rattle.aea_uploads.proofs.laws.filled_are_counted.Goals as goal

pub returns : goal.returns
returns c = filled-counted
