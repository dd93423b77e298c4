-- The bits of rows of words.
use Rattle.std.proofs.Common.{◌≡◌, ◌≢◌, ℕ, ◌+◌, ◌-◌, ◌*◌, ◌/◌, ◌%◌, ◌^◌, ◌<◌, ◌≤◌, inl, inr, Bool, true, false, not, ◌&&◌, ◌==◌, List, get_or, refl, sym, ◌∙◌, ap, arith}
use Rattle.std.specs.Int.{bit_at, w64}
use Rattle.std.proofs.lemmas.Nat.Bits.{bit_at_xor, bit_at-lt, bit_at-zero, bit_at-trailing_zeros}
use lib.Count.{count_trailing_zeros}
use Rattle.std.proofs.lemmas.Bool.{cases_lt, cases_eq, eq-eqb, ne_eqb}
use Rattle.std.proofs.Math.Nat.{mul-le-mul_right}
use Rattle.aea_lattice.specs.Parity.{differ}
use Rattle.aea_lattice.proofs.Odd.{differ-false_r}
use Rattle.aea_lattice.proofs.Bits.{bit_test}
use Rattle.aea_gauss_words.specs.Matrices.{IsClearedOne, IsLead}
use Rattle.aea_gauss_words.specs.Words.{is_bit, bit_matrix, Apart, Adds}

-- rows of w words have no word in common
pub rows_apart : (w i j : ℕ) → i ≢ j → Apart (i * w) (j * w) w
rows_apart w i j other =
    elim (cases_lt i j) [
      | inl lt ↦ (let m : (i + 1) * w ≤ j * w = (let s : i + 1 ≤ j = omega arith in mul-le-mul_right w s) in inl (omega arith))
      | inr ge ↦ (let m : (j + 1) * w ≤ i * w = (let s : j + 1 ≤ i = omega arith in mul-le-mul_right w s) in inr (omega arith))
    ]

-- a row ends within the words
pub row_within : (rows w i : ℕ) → i < rows → i * w + w ≤ rows * w
row_within rows w i less = let m : (i + 1) * w ≤ rows * w = (let s : i + 1 ≤ rows = omega arith in mul-le-mul_right w s) in omega arith

word_below : (w k : ℕ) → k < 64 * w → k / 64 < w
word_below w k less = omega arith

-- the bit of an XOR
xor_bit : (old new : List ℕ) (from into w k : ℕ) → Adds from into w old new → k < 64 * w → is_bit new into k ≡ differ (is_bit old into k) (is_bit old from k)
xor_bit old new from into w k adds less =
    ap (λ x. bit_at x (k % 64) == 1) (adds.inside (k / 64) (word_below w k less))
    ∙ ap (λ x. x == 1) (bit_at_xor (get_or old (into + k / 64) 0) (get_or old (from + k / 64) 0) (k % 64))
    ∙ bit_test (bit_at (get_or old (into + k / 64) 0) (k % 64)) (bit_at (get_or old (from + k / 64) 0) (k % 64))
    (bit_at-lt (get_or old (into + k / 64) 0) (k % 64)) (bit_at-lt (get_or old (from + k / 64) 0) (k % 64))

other_bit : (old new : List ℕ) (from into w r j k : ℕ) → Adds from (j * w) w old new → r ≢ j → k < 64 * w → is_bit new (r * w) k ≡ is_bit old (r * w) k
other_bit old new from into w r j k adds other less =
    ap (λ x. bit_at x (k % 64) == 1)
    (adds.outside (r * w + k / 64)
    (let below = word_below w k less in
    elim (rows_apart w r j other) [ inl before ↦ inl (omega arith) | inr after ↦ inr (omega arith) ]))

-- where row j has column c, the XOR of its words with those of another row i adds row i to row j alone
pub added_one : (rows w i j c : ℕ) (old new : List ℕ) → i ≢ j → bit_matrix w old j c ≡ true → Adds (i * w) (j * w) w old new
    → IsClearedOne rows (64 * w) (bit_matrix w old) (bit_matrix w new) i c j
added_one rows w i j c old new other has adds r k r_less less =
    elim (cases_eq r j) [
      | inl same ↦
          ap (λ x. bit_matrix w new x k) same
          ∙ xor_bit old new (i * w) (j * w) w k adds less
          ∙ sym
          (ap (λ x. differ (bit_matrix w old x k) ((r == j && (not (x == i) && bit_matrix w old x c)) && bit_matrix w old i k)) same
          ∙ ap (λ b. differ (bit_matrix w old j k) ((b && (not (j == i) && bit_matrix w old j c)) && bit_matrix w old i k)) (eq-eqb r j same)
          ∙ ap (λ b. differ (bit_matrix w old j k) ((not b && bit_matrix w old j c) && bit_matrix w old i k)) (ne_eqb j i (λ e. other (sym e)))
          ∙ ap (λ b. differ (bit_matrix w old j k) (b && bit_matrix w old i k)) has)
      | inr apart ↦
          other_bit old new (i * w) (j * w) w r j k adds apart less
          ∙ sym
          (ap (λ b. differ (bit_matrix w old r k) ((b && (not (r == i) && bit_matrix w old r c)) && bit_matrix w old i k)) (ne_eqb r j apart)
          ∙ differ-false_r (bit_matrix w old r k))
    ]

-- nothing is added to the row itself, and to a row without the column
pub added_none : (rows w i j c : ℕ) (old : List ℕ) → (not (j == i) && bit_matrix w old j c) ≡ false
    → IsClearedOne rows (64 * w) (bit_matrix w old) (bit_matrix w old) i c j
added_none rows w i j c old none r k r_less less =
    sym
    (elim (cases_eq r j) [
      | inl same ↦
          ap (λ x. differ (bit_matrix w old r k) ((r == j && (not (x == i) && bit_matrix w old x c)) && bit_matrix w old i k)) same
          ∙ ap (λ b. differ (bit_matrix w old r k) ((r == j && b) && bit_matrix w old i k)) none
          ∙ ap (λ b. differ (bit_matrix w old r k) (b && bit_matrix w old i k)) (and-no (r == j))
          ∙ differ-false_r (bit_matrix w old r k)
      | inr apart ↦
          ap (λ b. differ (bit_matrix w old r k) ((b && (not (r == i) && bit_matrix w old r c)) && bit_matrix w old i k)) (ne_eqb r j apart)
          ∙ differ-false_r (bit_matrix w old r k)
    ])
  where
    and-no : (a : Bool) → (a && false) ≡ false
    and-no true = refl
    and-no false = refl

-- two runs of `wide` words each that have no word in common have none in their first n, where n is no greater
pub apart_less : (from into n wide : ℕ) → n ≤ wide → Apart from into wide → Apart from into n
apart_less from into n wide le (inl h) = inl (omega arith)
apart_less from into n wide le (inr h) = inr (omega arith)

-- the lowest 1 of the first word that is not 0 is the least column of the row
pub word_lead : (words : List ℕ) (start wide at : ℕ) → at < wide → ((k : ℕ) → k < 64 * at → is_bit words start k ≡ false)
    → get_or words (start + at) 0 ≢ 0 → get_or words (start + at) 0 < 2 ^ 64
    → IsLead (64 * wide) (is_bit words start) (64 * at + count_trailing_zeros 64 (get_or words (start + at) 0))
word_lead words start wide at less before some fits =
    let word : ℕ = get_or words (start + at) 0 in
    let positive : 0 < word = omega arith in
    let facts = bit_at-trailing_zeros w64 word positive fits in
    let z : ℕ = count_trailing_zeros 64 word in
    let z_less : z < 64 = facts.0 in
    record {
      below = omega arith;
      here = is_bit_at words start at z z_less ∙ ap (λ b. b == 1) facts.1;
      least = λ k k_less. elim (cases_lt k (64 * at)) [
        | inl lt ↦ before k lt
        | inr ge ↦
            (let j : ℕ = k - 64 * at in
            let place : 64 * at + j ≡ k = omega arith in
            ap (is_bit words start) (sym place) ∙ is_bit_at words start at j (omega arith) ∙ ap (λ b. b == 1) (facts.2 j (omega arith)))
      ];
    }
  where
    is_bit_at : (words : List ℕ) (start at j : ℕ) → j < 64 → is_bit words start (64 * at + j) ≡ (bit_at (get_or words (start + at) 0) j == 1)
    is_bit_at words start at j less =
        let high : (64 * at + j) / 64 ≡ at = omega arith in
        let low : (64 * at + j) % 64 ≡ j = omega arith in
        ap (λ h. bit_at (get_or words (start + h) 0) ((64 * at + j) % 64) == 1) high ∙ ap (λ h. bit_at (get_or words (start + at) 0) h == 1) low

-- where a row has no column in its first `at` words and the next word is 0, it has none in at + 1 words
pub none_more : (words : List ℕ) (start at : ℕ) → ((k : ℕ) → k < 64 * at → is_bit words start k ≡ false) → get_or words (start + at) 0 ≡ 0
    → (k : ℕ) → k < 64 * (at + 1) → is_bit words start k ≡ false
none_more words start at before zero_word k less =
    elim (cases_lt k (64 * at)) [
      | inl lt ↦ before k lt
      | inr ge ↦
          (let high : k / 64 ≡ at = omega arith in
          ap (λ h. bit_at (get_or words (start + h) 0) (k % 64) == 1) high
          ∙ ap (λ x. bit_at x (k % 64) == 1) zero_word
          ∙ ap (λ b. b == 1) (bit_at-zero (k % 64)))
    ]
