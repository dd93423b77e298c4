use Rattle.std.proofs.Common.{◌≡◌, ℕ, ◌-◌, ◌<◌, ◌≤◌, length}
use Rattle.std.specs.declared.cmp.Ordering.TheVariants.{Less}
use Rattle.aea_catalog.specs.Pieces.{joined, before_piece}
use Rattle.aea_catalog.specs.Kept.{name_cmp, name_at, listed}
use Rattle.aea_catalog.proofs.catalog.piece_of.Given as goal

-- the names before the piece `low` are lesser, and those from the piece `high` on greater
abbrev pub invariant-loop-low : goal.invariant-loop-low
invariant-loop-low l = record {
  ordered : l.low ≤ l.high - 1;
  within : l.high ≤ length l.pieces;
  before : (k : ℕ) → k < before_piece l.pieces l.low → name_cmp (name_at (listed l.entries (joined l.pieces)) k) l.name ≡ Less;
  after : (k : ℕ) → before_piece l.pieces l.high ≤ k → k < length (joined l.pieces) → name_cmp l.name (name_at (listed l.entries (joined l.pieces)) k) ≡ Less;
}

abbrev pub decreases-loop-low : goal.decreases-loop-low
decreases-loop-low l = l.high - l.low
