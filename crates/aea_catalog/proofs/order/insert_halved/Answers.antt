use Rattle.std.proofs.Common.{arith}
use Rattle.aea_catalog.proofs.Pieces.{length_lower, length_upper, insert_lower, insert_upper, filled_lower, filled_upper, filled_half_lower, filled_half_upper}
use Rattle.aea_catalog.proofs.order.insert_halved.Goals as goal

pub insert-requires-clause-at : goal.insert-requires-clause-at
insert-requires-clause-at c = rw c.cut.ensures.lower (omega (arith, length_lower c.args.lower.now c.args.at c.args.index c.requires.at c.requires.full))

pub insert-requires-clause-room : goal.insert-requires-clause-room
insert-requires-clause-room c = rw c.cut.ensures.lower (omega (arith, length_lower c.args.lower.now c.args.at c.args.index c.requires.at c.requires.full))

pub insert-requires-else-at-le-HALF_SIZE-clause-at : goal.insert-requires-else-at-le-HALF_SIZE-clause-at
insert-requires-else-at-le-HALF_SIZE-clause-at c = rw c.cut.ensures.upper (omega (arith, length_upper c.args.lower.now c.args.at c.args.index c.requires.at c.requires.full))

pub insert-requires-else-at-le-HALF_SIZE-clause-room : goal.insert-requires-else-at-le-HALF_SIZE-clause-room
insert-requires-else-at-le-HALF_SIZE-clause-room c = rw c.cut.ensures.upper (omega (arith, length_upper c.args.lower.now c.args.at c.args.index c.requires.at c.requires.full))

pub returns-then-at-le-HALF_SIZE-clause-both : goal.returns-then-at-le-HALF_SIZE-clause-both
returns-then-at-le-HALF_SIZE-clause-both c =
    rw (c.insert.ensures, c.cut.ensures.lower, c.cut.ensures.upper) (insert_lower c.args.lower.now c.args.at c.args.index c.requires.at c.requires.full (omega arith))

pub returns-then-at-le-HALF_SIZE-clause-lower : goal.returns-then-at-le-HALF_SIZE-clause-lower
returns-then-at-le-HALF_SIZE-clause-lower c =
    rw (c.insert.ensures, c.cut.ensures.lower) (filled_lower c.args.lower.now c.args.at c.args.index c.requires.at c.requires.full (omega arith))

pub returns-then-at-le-HALF_SIZE-clause-upper : goal.returns-then-at-le-HALF_SIZE-clause-upper
returns-then-at-le-HALF_SIZE-clause-upper c = rw c.cut.ensures.upper (filled_half_upper c.args.lower.now c.args.at c.args.index c.requires.at c.requires.full)

pub returns-else-at-le-HALF_SIZE-clause-both : goal.returns-else-at-le-HALF_SIZE-clause-both
returns-else-at-le-HALF_SIZE-clause-both c =
    rw (c.insert-else-at-le-HALF_SIZE.ensures, c.cut.ensures.lower, c.cut.ensures.upper) (insert_upper c.args.lower.now c.args.at c.args.index c.requires.at c.requires.full (omega arith))

pub returns-else-at-le-HALF_SIZE-clause-lower : goal.returns-else-at-le-HALF_SIZE-clause-lower
returns-else-at-le-HALF_SIZE-clause-lower c = rw c.cut.ensures.lower (filled_half_lower c.args.lower.now c.args.at c.args.index c.requires.at c.requires.full)

pub returns-else-at-le-HALF_SIZE-clause-upper : goal.returns-else-at-le-HALF_SIZE-clause-upper
returns-else-at-le-HALF_SIZE-clause-upper c =
    rw (c.insert-else-at-le-HALF_SIZE.ensures, c.cut.ensures.upper) (filled_upper c.args.lower.now c.args.at c.args.index c.requires.at c.requires.full (omega arith))
