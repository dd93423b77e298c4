use Rattle.aea_records.proofs.Placing.{new_names_are_free}
use Rattle.aea_records.proofs.laws.new_names_are_free.Goals as goal

pub returns : goal.returns
returns c = new_names_are_free
