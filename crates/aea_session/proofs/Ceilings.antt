-- Quotients that are rounded up.
use Rattle.std.proofs.Common.{◌≡◌, ℕ, ◌+◌, ◌-◌, ◌*◌, ◌/◌, ◌%◌, ◌<◌, min, sym, ap, ◌∙◌, inl, inr, arith}
use Rattle.std.proofs.lemmas.Bool.{cases_lt}
use Rattle.std.proofs.lemmas.Nat.{div-mul-add, div-add-mod'}
use Rattle.std.specs.Int.{div_ceil}

-- the two ways to round up are one
pub ceil-div : (a b : ℕ) → 0 < b → div_ceil a b ≡ (a + b - 1) / b
ceil-div a b positive =
    let whole : a / b * b + a % b ≡ a = div-add-mod' a b in
    elim (cases_lt 0 (a % b)) [
      | inl some ↦
          let sum : a + b - 1 ≡ (a / b + 1) * b + (a % b - 1) = omega (arith, some, whole, positive) in
          let less : a % b - 1 < b = omega (arith, some, positive) in
          let one : a / b + min 1 (a % b) ≡ a / b + 1 = omega (arith, some) in
          one ∙ sym (ap (λ (n : ℕ). n / b) sum ∙ div-mul-add (a / b + 1) b (a % b - 1) less)
      | inr none ↦
          let sum : a + b - 1 ≡ a / b * b + (b - 1) = omega (arith, none, whole, positive) in
          let less : b - 1 < b = omega (arith, positive) in
          let one : a / b + min 1 (a % b) ≡ a / b = omega (arith, none) in
          one ∙ sym (ap (λ (n : ℕ). n / b) sum ∙ div-mul-add (a / b) b (b - 1) less)
    ]
