use Rattle.std.proofs.Common.{◌≡◌, ℕ, ◌<◌, ◌≤◌, List, length, get_or}
use Rattle.aea_gauss.proofs.labels.settle.Given as goal

-- the first places have the ends of their chains, and the others their parents
pub record Settled (place : ℕ) (old new : List ℕ) : Type 0 where
  pub long : length new ≡ length old
  pub below : (k : ℕ) → k < length old → get_or new k 0 ≤ k
  pub done : (k : ℕ) → k < place → get_or new k 0 ≡ get_or new (get_or old k 0) 0
  pub rest : (k : ℕ) → place ≤ k → get_or new k 0 ≡ get_or old k 0

abbrev pub invariant-loop-place : goal.invariant-loop-place
invariant-loop-place l = Settled l.place l.fn.parents l.parents
