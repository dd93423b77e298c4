use Rattle.std.proofs.Common.{◌≡◌, ℕ, ◌+◌, List, length, get_or}
use Rattle.aea_gauss.proofs.rows.push_zeros.Given as goal

-- zeros were put last
pub record More (n : ℕ) (old new : List ℕ) : Type 0 where
  pub long : length new ≡ length old + n
  pub zeros : ((k : ℕ) → get_or old k 0 ≡ 0) → (k : ℕ) → get_or new k 0 ≡ 0

abbrev pub invariant-loop-at : goal.invariant-loop-at
invariant-loop-at l = More l.at l.fn.words.items l.words.items
