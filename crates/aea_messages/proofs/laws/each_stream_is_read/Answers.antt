use Rattle.aea_messages.proofs.Starts.{each-read}
use Rattle.aea_messages.proofs.laws.each_stream_is_read.Goals as goal

pub returns : goal.returns
returns c = each-read
