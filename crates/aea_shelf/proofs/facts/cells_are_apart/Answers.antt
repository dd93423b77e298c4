use Rattle.aea_shelf.proofs.Homes.{some_sites, homes_apart}
use Rattle.aea_shelf.proofs.facts.cells_are_apart.Goals as goal

pub returns : goal.returns
returns c = λ shape a b has_a has_b other same. homes_apart c.rows_go_over_sites.ensures shape a b (some_sites shape) has_a has_b other same
