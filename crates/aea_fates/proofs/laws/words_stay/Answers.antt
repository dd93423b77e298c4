use Rattle.aea_fates.proofs.Stay.{words-stay}
use Rattle.aea_fates.proofs.laws.words_stay.Goals as goal

pub returns : goal.returns
returns c l known more adds = words-stay l known more adds.within adds.determined
