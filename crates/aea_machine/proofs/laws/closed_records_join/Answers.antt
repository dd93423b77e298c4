use Rattle.aea_machine.proofs.Closings.{records-join}
use Rattle.aea_machine.proofs.laws.closed_records_join.Goals as goal

pub returns : goal.returns
returns c = records-join
