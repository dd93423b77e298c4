use Rattle.aea_records.proofs.Objects.{next_is_spelled}
use Rattle.aea_records.proofs.laws.next_is_spelled.Goals as goal

pub returns : goal.returns
returns c = next_is_spelled
