use Rattle.aea_uploads.proofs.Filled.{kept-held}
use Rattle.aea_uploads.proofs.laws.kept_are_held.Goals as goal

pub returns : goal.returns
returns c = kept-held
