use Rattle.std.proofs.Common.{◌≡◌, drop}
use Rattle.aea_records.specs.Fields.{are_apart}
use Rattle.aea_records.proofs.parts.are_apart.Given as goal

abbrev pub invariant-loop-part : goal.invariant-loop-part
invariant-loop-part l = are_apart 0 l.nodes l.parts ≡ are_apart l.after l.nodes (drop l.part-index l.parts)
