-- Runs of words that are set one after the other.
use Rattle.std.proofs.Common.{◌≡◌, ℕ, ◌+◌, ◌-◌, ◌*◌, ◌<◌, ◌≤◌, inl, inr, List, length, get_or, bit_xor, refl, sym, ◌∙◌, ap, subst, arith}
use Rattle.std.specs.Simd.Lanes.{chunk, put_chunk, zip2}
use Rattle.std.proofs.Math.ListN.{set}
use Rattle.std.proofs.lemmas.Simd.{length-chunk, length-zip2, length-put_chunk, get_or-chunk, get_or-zip2, get_or-put_chunk_below, get_or-put_chunk_at, get_or-put_chunk_above}
use Rattle.std.proofs.lemmas.Bool.{cases_lt}
use Rattle.std.proofs.lemmas.List.{get_or-set_same, get_or-set_other, length-set}
use Rattle.aea_gauss_words.specs.Tables.{Sets}

-- a chunk that is put
pub sets_chunk : (xs ys : List ℕ) (into n : ℕ) (f : ℕ → ℕ) → length ys ≡ n → into + n ≤ length xs → ((t : ℕ) → t < n → get_or ys t 0 ≡ f t) → Sets into n f xs (put_chunk into xs ys)
sets_chunk xs ys into n f long room each = record {
  long = length-put_chunk into xs ys;
  inside = λ t less. get_or-put_chunk_at into xs ys t 0 (omega arith) (omega arith) ∙ each t less;
  outside = λ k side. elim side [
    | inl below ↦ get_or-put_chunk_below into xs ys k 0 below
    | inr above ↦ get_or-put_chunk_above into xs ys k 0 (omega arith)
  ];
}

pub sets_none : (into : ℕ) (f : ℕ → ℕ) (xs : List ℕ) → Sets into 0 f xs xs
sets_none into f xs = record { long = refl; inside = λ t less. absurd (omega arith); outside = λ k side. refl }

-- a run and the next n words of it
pub sets_more : (into d n : ℕ) (f g : ℕ → ℕ) (old now new : List ℕ) → Sets into d f old now → Sets (into + d) n g now new → ((t : ℕ) → t < n → g t ≡ f (d + t))
    → Sets into (d + n) f old new
sets_more into d n f g old now new before after same = record {
  long = after.long ∙ before.long;
  inside = λ t less. elim (cases_lt t d) [
    | inl below ↦ after.outside (into + t) (inl (omega arith)) ∙ before.inside t below
    | inr above ↦
        (let j : ℕ = t - d in
        let place : into + d + j ≡ into + t = omega arith in
        let back : d + j ≡ t = omega arith in
        ap (λ i. get_or new i 0) (sym place) ∙ after.inside j (omega arith) ∙ same j (omega arith) ∙ ap f back)
  ];
  outside = λ k side. elim side [
    | inl below ↦ after.outside k (inl (omega arith)) ∙ before.outside k (inl below)
    | inr above ↦ after.outside k (inr (omega arith)) ∙ before.outside k (inr (omega arith))
  ];
}

-- one word more
pub sets_one : (into at v : ℕ) (f : ℕ → ℕ) (old now : List ℕ) → into + at < length old → Sets into at f old now → v ≡ f at → Sets into (at + 1) f old (set now (into + at) v)
sets_one into at v f old now room before is = record {
  long = length-set now (into + at) v ∙ before.long;
  inside = λ t less. elim (cases_lt t at) [
    | inl below ↦ get_or-set_other now (into + at) (into + t) v 0 (λ e. omega arith) ∙ before.inside t below
    | inr above ↦
        (let same : at ≡ t = omega arith in
        let inside : into + at < length now = (let l = before.long in omega arith) in
        ap (λ i. get_or (set now (into + at) v) (into + i) 0) (sym same) ∙ get_or-set_same now (into + at) v 0 inside ∙ is ∙ ap f same)
  ];
  outside = λ k side. elim side [
    | inl below ↦ get_or-set_other now (into + at) k v 0 (λ e. omega arith) ∙ before.outside k (inl below)
    | inr above ↦ get_or-set_other now (into + at) k v 0 (λ e. omega arith) ∙ before.outside k (inr (omega arith))
  ];
}

at_two : (xs ys : List ℕ) (j n : ℕ) → length xs ≡ n → length ys ≡ n → j < n → get_or (zip2 bit_xor xs ys) j 0 ≡ bit_xor (get_or xs j 0) (get_or ys j 0)
at_two xs ys j n lx ly less = get_or-zip2 bit_xor xs ys j 0 0 0 (omega arith) (omega arith)

long_two : (xs ys : List ℕ) (n : ℕ) → length xs ≡ n → length ys ≡ n → length (zip2 bit_xor xs ys) ≡ n
long_two xs ys n lx ly = length-zip2 bit_xor xs ys (lx ∙ sym ly) ∙ lx

-- the XOR of two chunks
pub sets_sum : (table words : List ℕ) (from into begin n : ℕ) → from + n ≤ length table → into + n ≤ length table → begin + n ≤ length words
    → Sets into n (λ k. bit_xor (get_or table (from + k) 0) (get_or words (begin + k) 0)) table (put_chunk into table (zip2 bit_xor (chunk from n table) (chunk begin n words)))
sets_sum table words from into begin n room_from room room_begin =
    let la = length-chunk from n table room_from in
    let lb = length-chunk begin n words room_begin in
    sets_chunk table (zip2 bit_xor (chunk from n table) (chunk begin n words)) into n (λ k. bit_xor (get_or table (from + k) 0) (get_or words (begin + k) 0))
    (long_two (chunk from n table) (chunk begin n words) n la lb) room
    (λ t less.
    at_two (chunk from n table) (chunk begin n words) t n la lb less
    ∙ ap (λ x. bit_xor x (get_or (chunk begin n words) t 0)) (get_or-chunk from n table t 0 less)
    ∙ ap (bit_xor (get_or table (from + t) 0)) (get_or-chunk begin n words t 0 less))

-- the XOR of a chunk and four
pub sets_four : (words table : List ℕ) (into a b c d n : ℕ) → into + n ≤ length words → a + n ≤ length table → b + n ≤ length table → c + n ≤ length table → d + n ≤ length table
    → Sets into n (λ k. bit_xor (get_or words (into + k) 0) (bit_xor (bit_xor (get_or table (a + k) 0) (get_or table (b + k) 0)) (bit_xor (get_or table (c + k) 0) (get_or table (d + k) 0)))) words
    (put_chunk into words (zip2 bit_xor (chunk into n words) (zip2 bit_xor (zip2 bit_xor (chunk a n table) (chunk b n table)) (zip2 bit_xor (chunk c n table) (chunk d n table)))))
sets_four words table into a b c d n room ra rb rc rd =
    let la = length-chunk a n table ra in
    let lb = length-chunk b n table rb in
    let lc = length-chunk c n table rc in
    let ld = length-chunk d n table rd in
    let li = length-chunk into n words room in
    let ab = zip2 bit_xor (chunk a n table) (chunk b n table) in
    let cd = zip2 bit_xor (chunk c n table) (chunk d n table) in
    let lab : length ab ≡ n = long_two (chunk a n table) (chunk b n table) n la lb in
    let lcd : length cd ≡ n = long_two (chunk c n table) (chunk d n table) n lc ld in
    sets_chunk words (zip2 bit_xor (chunk into n words) (zip2 bit_xor ab cd)) into n
    (λ k. bit_xor (get_or words (into + k) 0) (bit_xor (bit_xor (get_or table (a + k) 0) (get_or table (b + k) 0)) (bit_xor (get_or table (c + k) 0) (get_or table (d + k) 0))))
    (long_two (chunk into n words) (zip2 bit_xor ab cd) n li (long_two ab cd n lab lcd)) room
    (λ t less.
    at_two (chunk into n words) (zip2 bit_xor ab cd) t n li (long_two ab cd n lab lcd) less
    ∙ ap (λ x. bit_xor x (get_or (zip2 bit_xor ab cd) t 0)) (get_or-chunk into n words t 0 less)
    ∙ ap (bit_xor (get_or words (into + t) 0))
    (at_two ab cd t n lab lcd less
    ∙ ap (λ x. bit_xor x (get_or cd t 0))
    (at_two (chunk a n table) (chunk b n table) t n la lb less
    ∙ ap (λ x. bit_xor x (get_or (chunk b n table) t 0)) (get_or-chunk a n table t 0 less)
    ∙ ap (bit_xor (get_or table (a + t) 0)) (get_or-chunk b n table t 0 less))
    ∙ ap (bit_xor (bit_xor (get_or table (a + t) 0) (get_or table (b + t) 0)))
    (at_two (chunk c n table) (chunk d n table) t n lc ld less
    ∙ ap (λ x. bit_xor x (get_or (chunk d n table) t 0)) (get_or-chunk c n table t 0 less)
    ∙ ap (bit_xor (get_or table (c + t) 0)) (get_or-chunk d n table t 0 less))))

-- eight words more of a sum of two, in front of which nothing changed
pub sums_more : (from into begin e len : ℕ) (words old now new : List ℕ) → from + len ≤ into → (e + 1) * 8 ≤ len
    → Sets into (e * 8) (λ k. bit_xor (get_or old (from + k) 0) (get_or words (begin + k) 0)) old now
    → Sets (into + e * 8) 8 (λ k. bit_xor (get_or now (from + e * 8 + k) 0) (get_or words (begin + e * 8 + k) 0)) now new
    → Sets into ((e + 1) * 8) (λ k. bit_xor (get_or old (from + k) 0) (get_or words (begin + k) 0)) old new
sums_more from into begin e len words old now new apart inside before after =
    let next : e * 8 + 8 ≡ (e + 1) * 8 = omega arith in
    subst (λ n. Sets into n (λ k. bit_xor (get_or old (from + k) 0) (get_or words (begin + k) 0)) old new) next
    (sets_more into (e * 8) 8 (λ k. bit_xor (get_or old (from + k) 0) (get_or words (begin + k) 0))
    (λ k. bit_xor (get_or now (from + e * 8 + k) 0) (get_or words (begin + e * 8 + k) 0)) old now new before after
    (λ t less.
    (let a : from + e * 8 + t ≡ from + (e * 8 + t) = omega arith in
    let b : begin + e * 8 + t ≡ begin + (e * 8 + t) = omega arith in
    ap (λ x. bit_xor x (get_or words (begin + e * 8 + t) 0)) (before.outside (from + e * 8 + t) (inl (omega arith)) ∙ ap (λ i. get_or old i 0) a)
    ∙ ap (λ i. bit_xor (get_or old (from + (e * 8 + t)) 0) (get_or words i 0)) b)))

-- the same of four entries
pub fours_more : (into a b c d e : ℕ) (table old now new : List ℕ)
    → Sets into (e * 8) (λ k. bit_xor (get_or old (into + k) 0) (bit_xor (bit_xor (get_or table (a + k) 0) (get_or table (b + k) 0)) (bit_xor (get_or table (c + k) 0) (get_or table (d + k) 0)))) old now
    → Sets (into + e * 8) 8 (λ k. bit_xor (get_or now (into + e * 8 + k) 0) (bit_xor (bit_xor (get_or table (a + e * 8 + k) 0) (get_or table (b + e * 8 + k) 0)) (bit_xor (get_or table (c + e * 8 + k) 0) (get_or table (d + e * 8 + k) 0)))) now new
    → Sets into ((e + 1) * 8) (λ k. bit_xor (get_or old (into + k) 0) (bit_xor (bit_xor (get_or table (a + k) 0) (get_or table (b + k) 0)) (bit_xor (get_or table (c + k) 0) (get_or table (d + k) 0)))) old new
fours_more into a b c d e table old now new before after =
    let next : e * 8 + 8 ≡ (e + 1) * 8 = omega arith in
    let f : ℕ → ℕ = λ k. bit_xor (get_or old (into + k) 0) (bit_xor (bit_xor (get_or table (a + k) 0) (get_or table (b + k) 0)) (bit_xor (get_or table (c + k) 0) (get_or table (d + k) 0))) in
    subst (λ n. Sets into n f old new) next
    (sets_more into (e * 8) 8 f
    (λ k. bit_xor (get_or now (into + e * 8 + k) 0) (bit_xor (bit_xor (get_or table (a + e * 8 + k) 0) (get_or table (b + e * 8 + k) 0)) (bit_xor (get_or table (c + e * 8 + k) 0) (get_or table (d + e * 8 + k) 0)))) old now new before after
    (λ t less.
    (let i' : into + e * 8 + t ≡ into + (e * 8 + t) = omega arith in
    let a' : a + e * 8 + t ≡ a + (e * 8 + t) = omega arith in
    let b' : b + e * 8 + t ≡ b + (e * 8 + t) = omega arith in
    let c' : c + e * 8 + t ≡ c + (e * 8 + t) = omega arith in
    let d' : d + e * 8 + t ≡ d + (e * 8 + t) = omega arith in
    let kept = before.outside (into + e * 8 + t) (inr (omega arith)) in
    rw (kept, i', a', b', c', d') refl)))
