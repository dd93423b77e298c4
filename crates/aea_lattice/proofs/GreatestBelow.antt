-- The greatest number below a bound that passes a test.
use Rattle.std.proofs.Common.{◌≡◌, ℕ, zero, suc, ◌<◌, ◌≤◌, inl, inr, Bool, true, false, sym, ◌∙◌, ap, arith}
use Rattle.std.proofs.lemmas.Bool.{cases_Bool, cases_lt, true≢false}

-- the greatest number below m that passes, or that there is none
pub data Greatest (f : ℕ → Bool) (m : ℕ) : Type 0 where
  greatest : (c : ℕ) → c < m → f c ≡ true → ((k : ℕ) → k < m → f k ≡ true → k ≤ c) → Greatest f m
  nothing : ((k : ℕ) → k < m → f k ≡ false) → Greatest f m

-- some number below m passes and is the greatest of those that do, or none below m passes
pub find_greatest : (f : ℕ → Bool) (m : ℕ) → Greatest f m
find_greatest f zero = nothing (λ k less. absurd (omega arith))
find_greatest f (suc m) =
    elim (cases_Bool (f m)) [
      | inl here ↦ greatest m (omega arith) here (λ k less passes. omega arith)
      | inr not_here ↦ elim (find_greatest f m) [
        | greatest c less here most ↦
            greatest c (omega arith) here
            (λ k k_less passes. elim (cases_lt k m) [
              | inl below ↦ most k below passes
              | inr top ↦ (let same : k ≡ m = omega arith in absurd (true≢false (sym passes ∙ ap f same ∙ not_here)))
            ])
        | nothing all ↦
            nothing
            (λ k k_less. elim (cases_lt k m) [
              | inl below ↦ all k below
              | inr top ↦ (let same : k ≡ m = omega arith in ap f same ∙ not_here)
            ])
      ]
    ]
