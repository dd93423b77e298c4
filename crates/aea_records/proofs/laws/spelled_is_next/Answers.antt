use Rattle.aea_records.proofs.Read.{spelled_is_next}
use Rattle.aea_records.proofs.laws.spelled_is_next.Goals as goal

pub returns : goal.returns
returns c = spelled_is_next
