use Rattle.std.proofs.Common.{◌≡◌, ◌+◌, drop}
use Rattle.std.specs.List.{sum_by}
use Rattle.aea_ledger.proofs.reader.total.Given as goal

abbrev pub invariant-loop-part : goal.invariant-loop-part
invariant-loop-part l = l.sum + sum_by (λ e. e.count) (drop l.part-index l.parts) ≡ sum_by (λ e. e.count) l.parts
