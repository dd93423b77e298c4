use Rattle.aea_messages.proofs.Decode.{not-bad}
use Rattle.aea_messages.proofs.laws.messages_are_not_bad.Goals as goal

pub returns : goal.returns
returns c = not-bad
