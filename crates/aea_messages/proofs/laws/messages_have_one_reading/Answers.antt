use Rattle.aea_messages.proofs.Decode.{one-reading}
use Rattle.aea_messages.proofs.laws.messages_have_one_reading.Goals as goal

pub returns : goal.returns
returns c = one-reading
