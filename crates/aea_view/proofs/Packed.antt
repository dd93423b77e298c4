-- Truth values that are packed into words, one by one.
use Rattle.std.proofs.Common.{◌≡◌, ◌≢◌, ℕ, ◌+◌, ◌/◌, ◌%◌, ◌*◌, ◌<◌, ◌≤◌, Bool, true, false, ◌==◌, not, cond, List, map, count_by, length, get_or, set, replicate, refl, sym, ◌∙◌, ap, arith, inl, inr, get_or-set_other, get_or-set_same}
use Rattle.std.proofs.lemmas.List.{same_lists, get_or_default, get_or-replicate, get_or_past, get_or-map, length-set, length-map, length-replicate}
use Rattle.std.proofs.lemmas.List.FromFn.{length-map-range_with_len, get_or-map-range_with_len, sum_by-map-range_with_len_more}
use Rattle.std.proofs.lemmas.Bool.{cases_eq, cases_lt}
use Rattle.std.proofs.lemmas.Nat.Bits.{bit_at-zero}
use Rattle.aea_view.specs.Bits.{has_bit, is_bit, bits_of}

-- there are n of them
pub bits-length : (n : ℕ) (words : List ℕ) → length (bits_of n words) ≡ n
bits-length n words = length-map-range_with_len (is_bit words) 0 n

-- the one at a place
pub bits-get : (n : ℕ) (words : List ℕ) (k : ℕ) (d : Bool) → k < n → get_or (bits_of n words) k d ≡ is_bit words k
bits-get n words k d less = get_or-map-range_with_len (is_bit words) 0 n k k d less (omega arith)

-- two lists of them are equal where they are so place by place
same-bits : (n : ℕ) (words : List ℕ) (marks : List Bool) → length marks ≡ n → ((k : ℕ) → k < n → is_bit words k ≡ get_or marks k false) → bits_of n words ≡ marks
same-bits n words marks long same =
    same_lists (bits_of n words) marks
    (bits-length n words ∙ sym long)
    (λ k d less.
    let e = bits-length n words in
    let lt : k < n = omega arith in
    let within : k < length marks = omega arith in
    bits-get n words k d lt ∙ same k lt ∙ get_or_default marks k false d within)

-- The word of truth value k has got this bit at its place and is as it was at its other places: that value alone is new.
bit-set : (words : List ℕ) (k word : ℕ) (value : Bool) → k / 64 < length words
    → has_bit word (k % 64) ≡ value
    → ((j : ℕ) → j < 64 → j ≢ k % 64 → has_bit word j ≡ has_bit (get_or words (k / 64) 0) j)
    → (i : ℕ) → (i ≡ k → is_bit (set words (k / 64) word) i ≡ value) × (i ≢ k → is_bit (set words (k / 64) word) i ≡ is_bit words i)
bit-set words k word value within here others i =
    let at = k / 64 in (
      λ e. ap (λ x. has_bit (get_or (set words at word) (x / 64) 0) (x % 64)) e
          ∙ ap (λ x. has_bit x (k % 64)) (get_or-set_same words at word 0 within)
          ∙ here,
      λ other. elim (cases_eq (i / 64) at) [
        | inl same ↦
            (let place : i % 64 ≢ k % 64 = λ e. other (omega arith) in
            ap (λ x. has_bit (get_or (set words at word) x 0) (i % 64)) same
            ∙ ap (λ x. has_bit x (i % 64)) (get_or-set_same words at word 0 within)
            ∙ others (i % 64) (omega arith) place
            ∙ ap (λ x. has_bit (get_or words x 0) (i % 64)) (sym same))
        | inr apart ↦ ap (λ x. has_bit x (i % 64)) (get_or-set_other words at (i / 64) word 0 apart)
      ],
    )

-- where the word of truth value k is replaced by one with a new value as its bit and the same other bits, the
-- first n truth values, k among them, have the new value at k and are else as they were
pub bits-set : (n : ℕ) (words : List ℕ) (k word : ℕ) (value : Bool) → k < n → k / 64 < length words
    → has_bit word (k % 64) ≡ value
    → ((j : ℕ) → j < 64 → j ≢ k % 64 → has_bit word j ≡ has_bit (get_or words (k / 64) 0) j)
    → bits_of n (set words (k / 64) word) ≡ set (bits_of n words) k value
bits-set n words k word value less within here others =
    same-bits n (set words (k / 64) word) (set (bits_of n words) k value)
    (length-set (bits_of n words) k value ∙ bits-length n words)
    (λ i below.
    let facts = bit-set words k word value within here others i in
    elim (cases_eq i k) [
      | inl same ↦
          (let long : k < length (bits_of n words) = (let e = bits-length n words in omega arith) in
          facts.0 same ∙ sym (ap (λ x. get_or (set (bits_of n words) k value) x false) same ∙ get_or-set_same (bits_of n words) k value false long))
      | inr other ↦ facts.1 other ∙ sym (get_or-set_other (bits_of n words) k i value false other ∙ bits-get n words i false below)
    ])

-- zeros have none set
pub bits-zero : (n m : ℕ) → bits_of n (replicate m 0) ≡ replicate n false
bits-zero n m =
    same-bits n (replicate m 0) (replicate n false)
    (length-replicate n false)
    (λ k less. ap (λ x. has_bit x (k % 64)) (zero-or-past m (k / 64)) ∙ ap (λ (x : ℕ). x == 1) (bit_at-zero (k % 64)) ∙ sym (get_or-replicate n k false false less))
  where
    zero-or-past : (m i : ℕ) → ◌≡◌ {A = ℕ} (get_or (replicate m 0) i 0) 0
    zero-or-past m i =
        elim (cases_lt i m) [
          | inl less ↦ get_or-replicate m i 0 0 less
          | inr past ↦ get_or_past (replicate m 0) i 0 (let e : length (replicate {A = ℕ} m 0) ≡ m = length-replicate m 0 in omega arith)
        ]

-- one truth value more
pub bits-more : (n : ℕ) (words : List ℕ) → count_by not (bits_of (n + 1) words) ≡ count_by not (bits_of n words) + cond (is_bit words n) 0 1
bits-more n words =
    sum_by-map-range_with_len_more (λ b. cond (not b) 1 0) (is_bit words) 0 n n (omega arith)
    ∙ ap (λ k. count_by not (bits_of n words) + k) (one (is_bit words n))
  where
    one : (b : Bool) → ◌≡◌ {A = ℕ} (cond (not b) 1 0) (cond b 0 1)
    one true = refl
    one false = refl

-- flipped words have the truth values flipped
pub bits-flipped : (n : ℕ) (words flipped : List ℕ) → n ≤ 64 * length words
    → ((k : ℕ) → k < 64 * length words → is_bit flipped k ≡ not (is_bit words k)) → bits_of n flipped ≡ map not (bits_of n words)
bits-flipped n words flipped room are =
    same-bits n flipped (map not (bits_of n words))
    (length-map (bits_of n words) not ∙ bits-length n words)
    (λ k less.
    are k (omega arith)
    ∙ ap not (sym (bits-get n words k false less))
    ∙ sym (get_or-map not (bits_of n words) k false false (let long = bits-length n words in omega arith)))
