use Rattle.aea_mirror.proofs.Wholes as showing
use Rattle.aea_mirror.proofs.laws.whole_copies_are_good.Goals as goal

pub returns : goal.returns
returns c = showing.whole_copies_are_good
