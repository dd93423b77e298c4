use Rattle.aea_messages.proofs.Decode.{one-place}
use Rattle.aea_messages.proofs.laws.bad_at_one_place.Goals as goal

pub returns : goal.returns
returns c = one-place
