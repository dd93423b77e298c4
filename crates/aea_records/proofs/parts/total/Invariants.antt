use Rattle.std.proofs.Common.{◌≡◌, ◌*◌, ◌+◌, ◌≤◌, ◌^◌, drop}
use Rattle.std.specs.List.{sum_by}
use Rattle.aea_records.proofs.parts.total.Given as goal

abbrev pub invariant-loop-part : goal.invariant-loop-part
invariant-loop-part l = (l.sum + sum_by (λ e. e.count) (drop l.part-index l.parts) ≡ sum_by (λ e. e.count) l.parts) × (l.sum ≤ 2 ^ 32 * l.part-index)
