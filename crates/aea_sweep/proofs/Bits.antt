-- Bits of a word of 64 bits, and of heads.
use Rattle.std.proofs.Common.{◌≡◌, ◌≢◌, ℕ, ◌-◌, ◌*◌, ◌%◌, ◌^◌, ◌<◌, ◌≤◌, inl, inr, Bool, true, false, not, ◌&&◌, ◌==◌, bit_xor, bit_and, refl, sym, ◌∙◌, ap, arith}
use Rattle.std.specs.Prelude.{nat_lt}
use Rattle.std.specs.Int.{bit_at, bit_not, trailing_zeros, w64}
use Rattle.std.proofs.lemmas.Nat.{one_shl}
use Rattle.std.proofs.lemmas.Nat.Bits.{bit_at_xor, bit_at-lt, bit_at-zero, bit_at-pow_same, bit_at-pow_other, bit_at-trailing_zeros, bit_at_above, bit_at_clear_same, bit_at_clear_other}
use Rattle.std.proofs.lemmas.Bool.{cases_lt, cases_eq, eq-eqb, ne_eqb}
use Rattle.std.proofs.lemmas.Bool.Decides.{nat_tests}
use Rattle.aea_lattice.specs.Parity.{differ}
use Rattle.aea_lattice.proofs.Bits.{bit_test}
use Rattle.aea_lattice.proofs.Odd.{differ-false_r}
use Rattle.aea_view.specs.Bits.{has_bit}
use Rattle.aea_sweep.specs.declared.heads.Heads.{Heads}
use Rattle.aea_sweep.specs.Heads.{has_head}

pub xor-bits : (x y i : ℕ) → has_bit (bit_xor x y) i ≡ differ (has_bit x i) (has_bit y i)
xor-bits x y i = ap (λ b. b == 1) (bit_at_xor x y i) ∙ bit_test (bit_at x i) (bit_at y i) (bit_at-lt x i) (bit_at-lt y i)

bit_of_pow : (m i : ℕ) → (bit_at (2 ^ m) i == 1) ≡ (i == m)
bit_of_pow m i =
    elim (cases_eq i m) [
      | inl e ↦ ap (λ j. bit_at (2 ^ m) j == 1) e ∙ ap (λ b. b == 1) (bit_at-pow_same m) ∙ sym (eq-eqb i m e)
      | inr n ↦ ap (λ b. b == 1) (bit_at-pow_other m i n) ∙ sym (ne_eqb i m n)
    ]

-- the XOR of a word with a single bit flips the bit at its place alone
pub flipped : (x m i : ℕ) → m < 64 → has_bit (bit_xor x ((1 * 2 ^ m) % 2 ^ 64)) i ≡ differ (has_bit x i) (i == m)
flipped x m i less =
    ap (λ p. has_bit (bit_xor x p) i) (one_shl m 64 less) ∙ xor-bits x (2 ^ m) i ∙ ap (differ (has_bit x i)) (bit_of_pow m i)

-- the least bit that is set
pub lowest : (word : ℕ) → word < 2 ^ 64 → 0 < word → (trailing_zeros w64 word < 64) × (has_bit word (trailing_zeros w64 word) ≡ true)
lowest word fits some =
    let t = trailing_zeros w64 word in
    let here : bit_at word t ≡ 1 = (bit_at-trailing_zeros w64 word some fits).1 in (
      elim (cases_lt t 64) [
        | inl less ↦ less
        | inr past ↦ let none = bit_at_above word 64 t fits past in absurd (omega arith)
      ],
      ap (λ (x : ℕ). x == 1) here,
    )

pub and-true : (b : Bool) → (b && true) ≡ b
and-true true = refl
and-true false = refl

pub and-none : (b : Bool) → (b && false) ≡ false
and-none true = refl
and-none false = refl

pub head-low : (h : Heads) (t : ℕ) → t < 64 → has_head h t ≡ has_bit h.low t
head-low h t less = let e : nat_lt t 64 ≡ true = grind (arith, nat_tests) in rw e refl

pub head-middle : (h : Heads) (t : ℕ) → 64 ≤ t → t < 128 → has_head h t ≡ has_bit h.middle (t - 64)
head-middle h t more less =
    let d : nat_lt t 64 ≡ false = grind (arith, nat_tests) in
    let e : nat_lt t 128 ≡ true = grind (arith, nat_tests) in
    rw (d, e) refl

pub head-high : (h : Heads) (t : ℕ) → 128 ≤ t → has_head h t ≡ has_bit h.high (t - 128)
head-high h t more =
    let d : nat_lt t 64 ≡ false = grind (arith, nat_tests) in
    let e : nat_lt t 128 ≡ false = grind (arith, nat_tests) in
    rw (d, e) refl

-- what is so for each of the three words is so for all heads
pub by_word : (h g : Heads) (f : ℕ → Bool → Bool)
    → ((k : ℕ) → k < 64 → has_bit g.low k ≡ f k (has_bit h.low k))
    → ((k : ℕ) → 64 ≤ k → k < 128 → has_bit g.middle (k - 64) ≡ f k (has_bit h.middle (k - 64)))
    → ((k : ℕ) → 128 ≤ k → k < 192 → has_bit g.high (k - 128) ≡ f k (has_bit h.high (k - 128)))
    → (k : ℕ) → k < 192 → has_head g k ≡ f k (has_head h k)
by_word h g f low middle high k less =
    elim (cases_lt k 64) [
      | inl first ↦ head-low g k first ∙ low k first ∙ ap (f k) (sym (head-low h k first))
      | inr past ↦ elim (cases_lt k 128) [
        | inl second ↦ head-middle g k past second ∙ middle k past second ∙ ap (f k) (sym (head-middle h k past second))
        | inr third ↦ head-high g k third ∙ high k third less ∙ ap (f k) (sym (head-high h k third))
      ]
    ]

-- a bit that is not at the place is not flipped
pub not_flipped : (b : Bool) (k place : ℕ) → k ≢ place → b ≡ differ b (k == place)
not_flipped b k place other = sym (ap (differ b) (ne_eqb k place other) ∙ differ-false_r b)

-- nor is it taken away
pub not_taken : (b : Bool) (k place : ℕ) → k ≢ place → b ≡ (b && not (k == place))
not_taken b k place other = sym (ap (λ x. b && not x) (ne_eqb k place other) ∙ and-true b)

-- the bits of a place that is not the one taken away, at a distance
pub minus_eq : (k place low : ℕ) → low ≤ k → low ≤ place → (k - low == place - low) ≡ (k == place)
minus_eq k place low a b =
    elim (cases_eq k place) [
      | inl e ↦ eq-eqb (k - low) (place - low) (ap (λ (x : ℕ). x - low) e) ∙ sym (eq-eqb k place e)
      | inr n ↦ ne_eqb (k - low) (place - low) (λ e. n (omega arith)) ∙ sym (ne_eqb k place n)
    ]

-- a bit that is taken away
pub cleared : (x m k : ℕ) → m < 64 → k < 64 → has_bit (bit_and x (bit_not w64 (1 * 2 ^ m % 2 ^ 64))) k ≡ (has_bit x k && not (k == m))
cleared x m k less within =
    elim (cases_eq k m) [
      | inl e ↦
          ap (λ i. has_bit (bit_and x (bit_not w64 (1 * 2 ^ m % 2 ^ 64))) i) e
          ∙ ap (λ b. b == 1) (bit_at_clear_same w64 x m less)
          ∙ sym (ap (λ b. has_bit x k && not b) (eq-eqb k m e) ∙ and-none (has_bit x k))
      | inr n ↦ ap (λ b. b == 1) (bit_at_clear_other w64 x m less k within n) ∙ not_taken (has_bit x k) k m n
    ]

-- no bit of zero is set
pub none_set : (k : ℕ) → has_bit 0 k ≡ false
none_set k = ap (λ (b : ℕ). b == 1) (bit_at-zero k)
