use Rattle.aea_messages.proofs.Decode.{not-cut}
use Rattle.aea_messages.proofs.laws.messages_are_not_cut.Goals as goal

pub returns : goal.returns
returns c = not-cut
