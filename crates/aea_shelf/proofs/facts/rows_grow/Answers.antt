use Rattle.aea_shelf.proofs.Homes.{rows_more}
use Rattle.aea_shelf.proofs.facts.rows_grow.Goals as goal

pub returns : goal.returns
returns c = rows_more
