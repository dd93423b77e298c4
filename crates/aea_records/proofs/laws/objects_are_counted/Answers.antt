use Rattle.aea_records.proofs.Placing.{objects_are_counted}
use Rattle.aea_records.proofs.laws.objects_are_counted.Goals as goal

pub returns : goal.returns
returns c = objects_are_counted
