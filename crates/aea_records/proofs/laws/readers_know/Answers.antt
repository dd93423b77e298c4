use Rattle.aea_records.proofs.Placing.{readers_know}
use Rattle.aea_records.proofs.laws.readers_know.Goals as goal

pub returns : goal.returns
returns c = readers_know
