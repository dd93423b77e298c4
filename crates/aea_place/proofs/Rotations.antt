-- Rows that are rotated: plain arithmetic under the homes.
use Rattle.std.proofs.Common.{◌≡◌, ℕ, ◌+◌, ◌-◌, ◌*◌, ◌/◌, ◌%◌, ◌<◌, sym, ap, ◌∙◌, arith, inl, inr}
use Rattle.std.proofs.Math.Nat.{mul-le-mul_right, mod-lt, mod-add-mod, mod-eq_of_lt, add-mul-mod_self_right}
use Rattle.std.proofs.lemmas.Nat.{div-add-mod'}
use Rattle.std.proofs.lemmas.Bool.{cases_lt}

-- two numbers less than m apart with one residue are equal
apart : (m a b : ℕ) → a < b → b < a + m → a % m ≡ b % m → ⊥
apart m a b lt near same =
    let ea : a / m * m + a % m ≡ a = div-add-mod' a m in
    let eb : b / m * m + b % m ≡ b = div-add-mod' b m in
    elim (cases_lt (a / m) (b / m)) [
      | inl h ↦ omega (arith, mul-le-mul_right {m = a / m + 1} {n = b / m} m (omega arith))
      | inr h ↦ omega (arith, mul-le-mul_right {m = b / m} {n = a / m} m h)
    ]

-- a row that is rotated by r keeps its columns apart
pub same_column : (m r a b : ℕ) → a < m → b < m → (a + r) % m ≡ (b + r) % m → a ≡ b
same_column m r a b ha hb same =
    elim (cases_lt a b) [
      | inl h ↦ absurd (apart m (a + r) (b + r) (omega arith) (omega arith) same)
      | inr h ↦ elim (cases_lt b a) [
        | inl g ↦ absurd (apart m (b + r) (a + r) (omega arith) (omega arith) (sym same))
        | inr g ↦ omega arith
      ]
    ]

-- the number of a row and a column is that of its row and column
pub same_number : (m j k : ℕ) → j / m ≡ k / m → j % m ≡ k % m → j ≡ k
same_number m j k row column =
    sym (div-add-mod' j m) ∙ ap (λ r. r * m + j % m) row ∙ ap (λ q. k / m * m + q) column ∙ div-add-mod' k m

-- rotating back by r and then by r changes nothing
pub rotated_back : (m r s : ℕ) → s < m → ((s + m - r % m) % m + r) % m ≡ s
rotated_back m r s hs =
    let small : r % m < m = mod-lt r (omega arith) in
    let whole : r / m * m + r % m ≡ r = div-add-mod' r m in
    let one_more : (r / m + 1) * m ≡ r / m * m + m = grind arith in
    let sum : (s + m - r % m) + r ≡ s + (r / m + 1) * m = omega arith in
    mod-add-mod (s + m - r % m) m r ∙ ap (λ x. x % m) sum ∙ add-mul-mod_self_right s (r / m + 1) m ∙ mod-eq_of_lt hs
