use Rattle.aea_mirror.proofs.Keeping.{keeps_texts}
use Rattle.aea_mirror.proofs.laws.mirrors_keep_texts.Goals as goal

pub returns : goal.returns
returns c = keeps_texts
