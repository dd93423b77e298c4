use Rattle.aea_messages.proofs.Starts.{each-begins}
use Rattle.aea_messages.proofs.laws.each_stream_begins.Goals as goal

pub returns : goal.returns
returns c = each-begins
