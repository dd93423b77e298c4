use Rattle.std.proofs.Common.{◌≡◌, ◌≤◌, ◌-◌, length, take}
use Rattle.aea_copy_reader.proofs.parts.parting.Given as goal

abbrev pub invariant-places : goal.invariant-places
invariant-places l = (l.at ≤ length l.fn.first) × (l.at ≤ length l.fn.second) × (take l.at l.fn.first ≡ take l.at l.fn.second)

abbrev pub decreases-places : goal.decreases-places
decreases-places l = length l.fn.first - l.at
