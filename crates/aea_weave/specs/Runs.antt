-- The XOR of runs of bytes or words.
use Rattle.std.specs.Prelude.{◌≡◌, ◌⊎◌, ℕ, ◌<◌, ◌≤◌, List, length, get_or, bit_xor}

-- The numbers from `from` to before `to` have become their XOR with those of the source, and the others are as they were
pub record Xors (from to : ℕ) (old source new : List ℕ) : Type 0 where
  pub long : length new ≡ length old
  pub inside : (k : ℕ) → from ≤ k → k < to → get_or new k 0 ≡ bit_xor (get_or old k 0) (get_or source k 0)
  pub outside : (k : ℕ) → (k < from) ⊎ (to ≤ k) → get_or new k 0 ≡ get_or old k 0
