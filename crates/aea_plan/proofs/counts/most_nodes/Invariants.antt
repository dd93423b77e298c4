use Rattle.std.proofs.Common.{◌<◌, ◌≤◌, ℕ, get_or, None}
use Rattle.aea_plan.specs.Plans.{nodes_count}
use Rattle.aea_plan.proofs.counts.most_nodes.Given as goal

abbrev pub invariant-loop-k : goal.invariant-loop-k
invariant-loop-k l = (j : ℕ) → j < l.k → nodes_count (get_or l.list j None) ≤ l.most
