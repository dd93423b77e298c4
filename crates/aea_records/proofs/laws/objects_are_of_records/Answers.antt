use Rattle.aea_records.proofs.Placing.{objects_are_of_records}
use Rattle.aea_records.proofs.laws.objects_are_of_records.Goals as goal

pub returns : goal.returns
returns c = objects_are_of_records
