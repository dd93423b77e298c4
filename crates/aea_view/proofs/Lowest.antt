-- Bits of a word from a place on: the lowest of them that is set, and the bits flipped.
use Rattle.std.proofs.Common.{◌≡◌, ℕ, zero, suc, ◌+◌, ◌-◌, ◌/◌, ◌%◌, ◌^◌, ◌<◌, ◌≤◌, true, false, ◌==◌, not, refl, sym, ◌∙◌, ap, arith, inl, inr}
use Rattle.std.specs.Int.{bit_at, bit_not, trailing_zeros, w64}
use Rattle.std.proofs.lemmas.Bool.{cases_lt}
use Rattle.std.proofs.lemmas.Nat.Bits.{bit_at-zero, bit_at-lt, bit_at-trailing_zeros, bit_at_above, bit_at_not}
use Rattle.std.proofs.Math.Pow.{shr-shr}
use Rattle.aea_view.specs.Bits.{has_bit}

-- the bit of a word that was moved down
bit_from : (word place i : ℕ) → bit_at (word / 2 ^ place) i ≡ bit_at word (place + i)
bit_from word place i = ap (λ x. x % 2) (shr-shr word place i)

bit_later : (word place j : ℕ) → place ≤ j → bit_at word j ≡ bit_at (word / 2 ^ place) (j - place)
bit_later word place j after =
    let e : j ≡ place + (j - place) = omega arith in
    ap (bit_at word) e ∙ sym (bit_from word place (j - place))

-- where nothing is left of a word that was moved down, no bit is set from the place on
pub none-from : (word place : ℕ) → word / 2 ^ place ≡ 0 → (j : ℕ) → place ≤ j → has_bit word j ≡ false
none-from word place none j after =
    ap (λ (x : ℕ). x == 1) (bit_later word place j after ∙ ap (λ x. bit_at x (j - place)) none ∙ bit_at-zero (j - place))

-- the lowest bit that is set from the place on
pub record IsLowest (word place k : ℕ) : Type 0 where
  pub later : place ≤ k
  pub inside : k < 64
  pub set : has_bit word k ≡ true
  pub before : (j : ℕ) → place ≤ j → j < k → has_bit word j ≡ false

-- where a bit is set from a place on in a word of 64 bits, the lowest such is as far after the place as the
-- word moved down by the place has trailing zeros
pub lowest-from : (word place : ℕ) → word < 2 ^ 64 → 0 < word / 2 ^ place → IsLowest word place (place + trailing_zeros w64 (word / 2 ^ place))
lowest-from word place fits some =
    let rest = word / 2 ^ place in
    let t = trailing_zeros w64 rest in
    let small : rest < 2 ^ 64 = omega (arith, div-small word (2 ^ place)) in
    let lowest = bit_at-trailing_zeros w64 rest some small in
    let here : bit_at word (place + t) ≡ 1 = sym (bit_from word place t) ∙ lowest.1 in
    record {
      later = omega arith;
      inside = elim (cases_lt (place + t) 64) [
        | inl less ↦ less
        | inr past ↦ let none = bit_at_above word 64 (place + t) fits past in absurd (omega arith)
      ];
      set = ap (λ (x : ℕ). x == 1) here;
      before = λ j after below.
          ap (λ (x : ℕ). x == 1) (bit_later word place j after ∙ lowest.2 (j - place) (omega arith));
    }
  where
    div-small : (n m : ℕ) → n / m ≤ n
    div-small n m = omega arith

-- a bit that is flipped
flipped_bit : (b : ℕ) → b < 2 → (1 - b == 1) ≡ not (b == 1)
flipped_bit zero less = refl
flipped_bit (suc zero) less = refl
flipped_bit (suc (suc b)) less = absurd (omega arith)

-- each bit of a word of 64 bits that is flipped is set where it was not
pub flipped-bits : (word k : ℕ) → word < 2 ^ 64 → k < 64 → has_bit (bit_not w64 word) k ≡ not (has_bit word k)
flipped-bits word k fits within =
    ap (λ (x : ℕ). x == 1) (bit_at_not w64 word k fits within) ∙ flipped_bit (bit_at word k) (bit_at-lt word k)
