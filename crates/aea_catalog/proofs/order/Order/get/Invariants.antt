use Rattle.std.proofs.Common.{◌≡◌, drop, slice_get}
use Rattle.aea_catalog.specs.Pieces.{joined}
use Rattle.aea_catalog.proofs.order.Order.get.Given as goal

-- the place that is left of is the same among the pieces that are left
abbrev pub invariant-loop-piece : goal.invariant-loop-piece
invariant-loop-piece l = slice_get (joined (drop l.piece-index l.piece-items)) l.left ≡ slice_get (joined l.piece-items) l.k
