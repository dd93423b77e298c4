use Rattle.aea_uploads.proofs.Filled.{keeps-more}
use Rattle.aea_uploads.proofs.laws.kept_with_more.Goals as goal

pub returns : goal.returns
returns c = keeps-more
