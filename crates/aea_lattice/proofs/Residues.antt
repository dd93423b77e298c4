-- Numbers in columns of s rows, and residues: plain arithmetic under the tables of neighbours.
use Rattle.std.proofs.Common.{◌≡◌, ℕ, ◌+◌, ◌*◌, ◌/◌, ◌%◌, ◌<◌, ◌⊎◌, inl, inr, ap, arith}
use Rattle.std.proofs.Math.Nat.{mul-le-mul_right}
use Rattle.std.proofs.lemmas.Nat.{div-add-mod'}
use Rattle.std.proofs.lemmas.Bool.{cases_lt}

-- two numbers less than p apart with one residue are equal
pub apart : (p a b : ℕ) → a < b → b < a + p → a % p ≡ b % p → ⊥
apart p a b lt near same =
    let ea : a / p * p + a % p ≡ a = div-add-mod' a p in
    let eb : b / p * p + b % p ≡ b = div-add-mod' b p in
    elim (cases_lt (a / p) (b / p)) [
      | inl h ↦ omega (arith, mul-le-mul_right {m = a / p + 1} {n = b / p} p (omega arith))
      | inr h ↦ omega (arith, mul-le-mul_right {m = b / p} {n = a / p} p h)
    ]

-- places in columns of s rows go by column and then by row
pub lexicographic : (s a r b t : ℕ) → r < s → t < s → a * s + r < b * s + t → (a < b) ⊎ ((a ≡ b) × (r < t))
lexicographic s a r b t hr ht lt =
    elim (cases_lt a b) [
      | inl h ↦ inl h
      | inr h ↦ elim (cases_lt b a) [
        | inl g ↦ absurd (omega (arith, mul-le-mul_right {m = b + 1} {n = a} s (omega arith)))
        | inr g ↦ let e : a ≡ b = omega arith in inr (e, omega (arith, ap (λ x. x * s) e))
      ]
    ]
