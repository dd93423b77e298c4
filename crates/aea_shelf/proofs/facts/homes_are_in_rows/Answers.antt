use Rattle.aea_shelf.proofs.Homes.{home_in_rows}
use Rattle.aea_shelf.proofs.facts.homes_are_in_rows.Goals as goal

pub returns : goal.returns
returns c = home_in_rows
