use Rattle.aea_readings.proofs.Small.{unknown-listed}
use Rattle.aea_readings.proofs.laws.unknown_are_listed.Goals as goal

pub returns : goal.returns
returns c = unknown-listed
