use Rattle.aea_messages.proofs.Decode.{bad-not-cut}
use Rattle.aea_messages.proofs.laws.bad_are_not_cut.Goals as goal

pub returns : goal.returns
returns c = bad-not-cut
