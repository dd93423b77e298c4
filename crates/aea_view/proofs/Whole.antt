-- A whole word more: how many truth values of it are false.
use Rattle.std.proofs.Common.{◌≡◌, ℕ, zero, suc, ◌+◌, ◌*◌, ◌%◌, ◌^◌, ◌<◌, ◌≤◌, Bool, true, false, ◌==◌, not, cond, List, count_by, get_or, refl, sym, ◌∙◌, ap, arith}
use Rattle.std.specs.Int.{bit_at, bit_not, count_zeros, w64}
use Rattle.std.specs.Int.Count.{ones}
use Rattle.std.proofs.lemmas.Bool.{false≢true}
use Rattle.std.proofs.lemmas.Nat.{ones_cat, mod-pow-add, mod_below, pow_pos}
use Rattle.std.proofs.lemmas.Nat.Bits.{bit_at-lt}
use Rattle.aea_view.specs.Bits.{has_bit, is_bit, bits_of}
use Rattle.aea_view.proofs.Packed.{bits-more}
use Rattle.aea_view.proofs.Lowest.{flipped-bits}

-- a number below 2 has as many bits set as it says
small_ones : (b : ℕ) → b < 2 → ones b ≡ b
unfolding ones
small_ones zero less = refl
small_ones (suc zero) less = refl
small_ones (suc (suc b)) less = absurd (omega arith)

-- one bit more of a word
low_more : (word k : ℕ) → ones (word % 2 ^ (1 + k)) ≡ bit_at word k + ones (word % 2 ^ k)
low_more word k =
    ap ones (mod-pow-add word 1 k)
    ∙ ones_cat k (bit_at word k) (word % 2 ^ k) (mod_below word (2 ^ k) (pow_pos k))
    ∙ ap (λ x. x + ones (word % 2 ^ k)) (small_ones (bit_at word k) (bit_at-lt word k))

-- a bit that is set where the other is not
flipped_one : (b : Bool) (x : ℕ) → x < 2 → (x == 1) ≡ not b → x ≡ cond b 0 1
flipped_one true zero less e = refl
flipped_one false zero less e = absurd (false≢true e)
flipped_one true (suc zero) less e = absurd (false≢true (sym e))
flipped_one false (suc zero) less e = refl
flipped_one b (suc (suc x)) less e = absurd (omega arith)

-- truth value j of a word is its bit j
bit_of_word : (words : List ℕ) (at word : ℕ) → get_or words at 0 ≡ word → (j : ℕ) → j < 64 → is_bit words (64 * at + j) ≡ has_bit word j
bit_of_word words at word here j within =
    ap (λ x. has_bit (get_or words x 0) ((64 * at + j) % 64)) (omega (arith, within))
    ∙ ap (λ x. has_bit (get_or words at 0) x) (omega (arith, within))
    ∙ ap (λ x. has_bit x j) here

-- the lowest bits of a word more
part_more : (words : List ℕ) (at word : ℕ) → word < 2 ^ 64 → get_or words at 0 ≡ word → (j : ℕ) → j ≤ 64
    → count_by not (bits_of (64 * at + j) words) ≡ count_by not (bits_of (64 * at) words) + ones (bit_not w64 word % 2 ^ j)
part_more words at word fits here zero within =
    let same : 64 * at + 0 ≡ 64 * at = omega arith in
    ap (λ n. count_by not (bits_of n words)) same ∙ omega (arith, ones_zero (bit_not w64 word))
  where
    ones_zero : (n : ℕ) → ones (n % 1) ≡ 0
    ones_zero n = ap ones (omega arith) ∙ small_ones 0 (omega arith)
part_more words at word fits here (suc j) within =
    let flipped = bit_not w64 word in
    let below : j < 64 = omega (arith, within) in
    let one : bit_at flipped j ≡ cond (is_bit words (64 * at + j)) 0 1 =
    flipped_one (is_bit words (64 * at + j)) (bit_at flipped j) (bit_at-lt flipped j)
    (flipped-bits word j fits below ∙ ap not (sym (bit_of_word words at word here j below))) in
    let before = part_more words at word fits here j (omega (arith, within)) in
    let low : ones (flipped % 2 ^ suc j) ≡ bit_at flipped j + ones (flipped % 2 ^ j) = ap (λ (n : ℕ). ones (flipped % 2 ^ n)) (omega arith) ∙ low_more flipped j in
    let more = bits-more (64 * at + j) words in
    let same : 64 * at + suc j ≡ 64 * at + j + 1 = omega arith in
    ap (λ n. count_by not (bits_of n words)) same ∙ omega (arith, more, before, one, low)

-- the whole word more
pub word_more : (words : List ℕ) (at word : ℕ) → word < 2 ^ 64 → get_or words at 0 ≡ word
    → count_by not (bits_of (64 * (at + 1)) words) ≡ count_by not (bits_of (64 * at) words) + count_zeros w64 word
word_more words at word fits here =
    let same : 64 * (at + 1) ≡ 64 * at + 64 = omega arith in
    let small : bit_not w64 word % 2 ^ 64 ≡ bit_not w64 word = omega arith in
    ap (λ n. count_by not (bits_of n words)) same
    ∙ part_more words at word fits here 64 (omega arith)
    ∙ ap (λ n. count_by not (bits_of (64 * at) words) + ones n) small
