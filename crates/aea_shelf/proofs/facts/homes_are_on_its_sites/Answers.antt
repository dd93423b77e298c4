use Rattle.aea_lattice.specs.Shapes.{number_in}
use Rattle.aea_shelf.proofs.Homes.{some_sites}
use Rattle.aea_shelf.proofs.facts.homes_are_on_its_sites.Goals as goal

pub returns : goal.returns
returns c = λ shape. (some_sites shape, λ b. c.homes_are_on_sites.ensures shape.sites (number_in shape b) (some_sites shape))
