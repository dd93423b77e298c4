use Rattle.aea_messages.proofs.Decode.{one-stream}
use Rattle.aea_messages.proofs.laws.streams_have_one_reading.Goals as goal

pub returns : goal.returns
returns c = one-stream
