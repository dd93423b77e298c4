use Rattle.std.proofs.Common.{◌/◌}
use Rattle.std.proofs.Math.Nat.{div-le_self}
use Rattle.aea_shelf.proofs.Homes.{few_bytes, place_below}
use Rattle.aea_shelf.proofs.places.home_place.Goals as goal

pub returns-clause-small : goal.returns-clause-small
returns-clause-small c =
    let shape = c.args.shape.now in
    rw (c.home-spot.ensures.cell, c.sites.ensures, c.from.ensures, c.block.ensures)
    (place_below (c.number.result / shape.sites) shape.block c.number.result (div-le_self c.number.result shape.sites) c.number.ensures.small (few_bytes shape))
