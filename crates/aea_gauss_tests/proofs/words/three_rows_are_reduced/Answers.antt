use Rattle.std.proofs.Common.{◌≡◌, ℕ, zero, suc, ◌+◌, ◌*◌, ◌/◌, ◌%◌, ◌<◌, ◌≤◌, ◌==◌, false, [], ◌∷◌, get_or, ◌∙◌, ap, arith, lit<}
use Rattle.std.specs.Int.{bit_at}
use Rattle.std.proofs.lemmas.Nat.Bits.{bit_at_above}
use Rattle.aea_gauss_tests.proofs.words.three_rows_are_reduced.Goals as goal

-- a number below 8 has no bit from 3 on
high_none : (n k : ℕ) → n < 8 → 3 ≤ k → (bit_at n k == 1) ≡ false
high_none n k small high = ap (λ b. b == 1) (bit_at_above n 3 k small high)

at_row : (i k : ℕ) → i < 3 → 3 ≤ k → (bit_at (get_or (3 ∷ 6 ∷ 5 ∷ []) i 0) k == 1) ≡ false
at_row zero k less high = high_none 3 k (lit< tt) high
at_row (suc zero) k less high = high_none 6 k (lit< tt) high
at_row (suc (suc zero)) k less high = high_none 5 k (lit< tt) high
at_row (suc (suc (suc i))) k less high = absurd (omega arith)

pub eliminate-requires-clause-padded : goal.eliminate-requires-clause-padded
eliminate-requires-clause-padded g c i k less high below =
    let place : i * 1 + k / 64 ≡ i = omega arith in
    let bit : k % 64 ≡ k = omega arith in
    ap (λ j. bit_at (get_or (3 ∷ 6 ∷ 5 ∷ []) j 0) (k % 64) == 1) place
    ∙ ap (λ b. bit_at (get_or (3 ∷ 6 ∷ 5 ∷ []) i 0) b == 1) bit
    ∙ at_row i k less high
