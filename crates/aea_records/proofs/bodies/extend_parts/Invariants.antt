use Rattle.std.proofs.Common.{◌≡◌, ◌++◌, take}
use Rattle.std.specs.List.{flat_map}
use Rattle.aea_records.specs.Format.{part}
use Rattle.aea_records.proofs.bodies.extend_parts.Given as goal

abbrev pub invariant-loop-extent : goal.invariant-loop-extent
invariant-loop-extent l = l.bytes.items ≡ l.fn.bytes.items ++ flat_map part (take l.extent-index l.parts)
