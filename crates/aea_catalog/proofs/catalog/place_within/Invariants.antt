use Rattle.std.proofs.Common.{◌≡◌, ℕ, ◌+◌, ◌-◌, ◌<◌, ◌≤◌, length}
use Rattle.std.specs.declared.cmp.Ordering.TheVariants.{Less}
use Rattle.aea_catalog.specs.Pieces.{joined, before_piece}
use Rattle.aea_catalog.specs.Kept.{name_cmp, name_at, listed}
use Rattle.aea_catalog.proofs.catalog.place_within.Given as goal

-- the names before the place `low` of the piece are lesser, and those from its place `high` on greater
abbrev pub invariant-loop-low : goal.invariant-loop-low
invariant-loop-low l = record {
  ordered : l.low ≤ l.high;
  within : l.high ≤ length l.indices;
  before : (k : ℕ) → k < before_piece l.pieces l.piece + l.low → name_cmp (name_at (listed l.entries (joined l.pieces)) k) l.name ≡ Less;
  after : (k : ℕ) → before_piece l.pieces l.piece + l.high ≤ k → k < length (joined l.pieces) → name_cmp l.name (name_at (listed l.entries (joined l.pieces)) k) ≡ Less;
}

abbrev pub decreases-loop-low : goal.decreases-loop-low
decreases-loop-low l = l.high - l.low
