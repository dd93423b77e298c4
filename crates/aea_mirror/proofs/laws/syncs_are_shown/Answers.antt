use Rattle.aea_mirror.proofs.Showing as showing
use Rattle.aea_mirror.proofs.laws.syncs_are_shown.Goals as goal

pub returns : goal.returns
returns c = showing.syncs_are_shown
