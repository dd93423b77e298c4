use Rattle.aea_sites.proofs.LossLaws.{words_show}
use Rattle.aea_sites.proofs.laws.first_words_show.Goals as goal

pub returns : goal.returns
returns c = words_show
