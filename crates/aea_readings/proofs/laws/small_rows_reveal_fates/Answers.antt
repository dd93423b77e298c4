use Rattle.aea_readings.proofs.Small.{small-rows}
use Rattle.aea_readings.proofs.laws.small_rows_reveal_fates.Goals as goal

pub returns : goal.returns
returns c = small-rows
