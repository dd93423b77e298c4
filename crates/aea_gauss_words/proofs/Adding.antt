-- A group of rows added to the others by tables of its sums, part by part.
use Rattle.std.proofs.Common.{◌≡◌, ◌≢◌, ℕ, zero, suc, ◌+◌, ◌-◌, ◌*◌, ◌/◌, ◌%◌, ◌<◌, ◌≤◌, inl, inr, ◌⊎◌, Bool, true, false, not, ◌&&◌, ◌==◌, cond, List, get_or, bit_xor, Option, Some, None, refl, sym, ◌∙◌, ap, subst, arith}
use Rattle.std.specs.Prelude.{nat_lt}
use Rattle.std.specs.Int.{bit_at}
use Rattle.std.specs.Int.Bits.{xor_zero_r}
use Rattle.std.proofs.Math.Nat.{mul-le-mul_right}
use Rattle.std.proofs.lemmas.Bool.{cases_lt, cases_eq, lt-ltb, le-ltb}
use Rattle.aea_gauss_words.specs.Tables.{Sets, word_of, xor_of, AreTables, has_lead, within, is_hit, ArePicks, AreInside, four, added_word, AddsGroup, AddsPart, AddsSums}

-- ---- tests of ranges

-- the test `within` passes at each number from a to before b
pub within_yes : (a b x : ℕ) → a ≤ x → x < b → within a b x ≡ true
within_yes a b x low high = ap (λ t. not t && nat_lt x b) (le-ltb x a low) ∙ lt-ltb x b high

-- the test `within` passes at no number below a
pub within_low : (a b x : ℕ) → x < a → within a b x ≡ false
within_low a b x low = ap (λ t. not t && nat_lt x b) (lt-ltb x a low)

-- the test `within` passes at no number from b on
pub within_high : (a b x : ℕ) → b ≤ x → within a b x ≡ false
within_high a b x high = ap (λ t. not (nat_lt x a) && t) (le-ltb x b high) ∙ and-no (not (nat_lt x a))
  where
    and-no : (t : Bool) → (t && false) ≡ false
    and-no true = refl
    and-no false = refl

-- where a number lies
pub data Side (a b x : ℕ) : Type 0 where
  low : x < a → within a b x ≡ false → Side a b x
  inner : a ≤ x → x < b → within a b x ≡ true → Side a b x
  high : b ≤ x → within a b x ≡ false → Side a b x

pub side : (a b x : ℕ) → Side a b x
side a b x = elim (cases_lt x a) [
  | inl below ↦ low below (within_low a b x below)
  | inr from ↦ elim (cases_lt x b) [
    | inl before ↦ inner from before (within_yes a b x from before)
    | inr past ↦ high past (within_high a b x past)
  ]
]

-- ---- the sums that are added to one row more

-- a word of another row lies apart from a run of a row's words
row_apart : (wide r q w at len : ℕ) → r ≢ q → w < wide → at + len ≤ wide → (r * wide + w < q * wide + at) ⊎ (q * wide + at + len ≤ r * wide + w)
row_apart wide r q w at len other less inside = elim (cases_lt r q) [
  | inl before ↦ (let m : (r + 1) * wide ≤ q * wide = (let s : r + 1 ≤ q = omega arith in mul-le-mul_right wide s) in inl (omega arith))
  | inr after ↦ (let m : (q + 1) * wide ≤ r * wide = (let s : q + 1 ≤ r = omega arith in mul-le-mul_right wide s) in inr (omega arith))
]

pub sums_none : (rows wide from at len : ℕ) (table picks old : List ℕ) → AddsSums rows wide from 0 at len table picks old old
sums_none rows wide from at len table picks old r w r_less less =
    let none : within from (from + 0) r ≡ false = elim (side from (from + 0) r) [ low h is ↦ is | inner h k is ↦ absurd (omega arith) | high h is ↦ is ] in
    sym (ap (λ b. cond (b && within at (at + len) w) (bit_xor (word_of wide old r w) (four (λ t. get_or table (t * 16384 + get_or picks (4 * (r - from) + t) 0 * 64 + (w - at)) 0))) (word_of wide old r w)) none)

-- a run of a row's words, in a row that is one of `count` from `from` on, ends within the words of all rows
pub row_inside : (rows wide from i count at len : ℕ) → from + count ≤ rows → i < count → at + len ≤ wide → (from + i) * wide + at + len ≤ rows * wide
row_inside rows wide from i count at len fits less inside =
    let m : (from + i + 1) * wide ≤ rows * wide = (let s : from + i + 1 ≤ rows = omega arith in mul-le-mul_right wide s) in omega arith

module _ (rows wide from i at len p0 p1 p2 p3 : ℕ) (table picks old now new : List ℕ) (inside : at + len ≤ wide) (fits : from + i < rows)
    (e0 : p0 ≡ get_or picks (4 * i + 0) 0) (e1 : p1 ≡ get_or picks (4 * i + 1) 0) (e2 : p2 ≡ get_or picks (4 * i + 2) 0) (e3 : p3 ≡ get_or picks (4 * i + 3) 0)
    (before : AddsSums rows wide from i at len table picks old now)
    (sets : Sets ((from + i) * wide + at) len (λ k. bit_xor (get_or now ((from + i) * wide + at + k) 0)
    (bit_xor (bit_xor (get_or table (p0 * 64 + k) 0) (get_or table (16384 + p1 * 64 + k) 0)) (bit_xor (get_or table (32768 + p2 * 64 + k) 0) (get_or table (49152 + p3 * 64 + k) 0)))) now new) where
  abbrev sum_at : ℕ → ℕ → ℕ
  sum_at r w = four (λ t. get_or table (t * 16384 + get_or picks (4 * (r - from) + t) 0 * 64 + (w - at)) 0)

  abbrev full : ℕ → ℕ → ℕ
  full r w = bit_xor (word_of wide old r w) (sum_at r w)

  -- a row that is not this one
  other_row : (r w : ℕ) → r < rows → w < wide → r ≢ from + i
      → word_of wide new r w ≡ cond (within from (from + (i + 1)) r && within at (at + len) w) (full r w) (word_of wide old r w)
  other_row r w r_less less other =
      sets.outside (r * wide + w) (row_apart wide r (from + i) w at len other less inside)
      ∙ before r w r_less less
      ∙ ap (λ b. cond (b && within at (at + len) w) (full r w) (word_of wide old r w))
      (elim (side from (from + i) r) [
        | low h is ↦ is ∙ sym (within_low from (from + (i + 1)) r h)
        | inner h k is ↦ is ∙ sym (within_yes from (from + (i + 1)) r h (omega arith))
        | high h is ↦ is ∙ sym (within_high from (from + (i + 1)) r (omega arith))
      ])

  -- this row as it was
  fresh : (w : ℕ) → w < wide → word_of wide now (from + i) w ≡ word_of wide old (from + i) w
  fresh w less =
      before (from + i) w fits less
      ∙ ap (λ b. cond (b && within at (at + len) w) (full (from + i) w) (word_of wide old (from + i) w)) (within_high from (from + i) (from + i) (omega arith))

  this_row : (w : ℕ) → w < wide
      → word_of wide new (from + i) w ≡ cond (within from (from + (i + 1)) (from + i) && within at (at + len) w) (full (from + i) w) (word_of wide old (from + i) w)
  this_row w less =
      let here : within from (from + (i + 1)) (from + i) ≡ true = within_yes from (from + (i + 1)) (from + i) (omega arith) (omega arith) in
      elim (side at (at + len) w) [
        | low h is ↦
            sets.outside ((from + i) * wide + w) (inl (omega arith)) ∙ fresh w less
            ∙ sym (ap (λ b. cond (b && within at (at + len) w) (full (from + i) w) (word_of wide old (from + i) w)) here
            ∙ ap (λ b. cond b (full (from + i) w) (word_of wide old (from + i) w)) is)
        | high h is ↦
            sets.outside ((from + i) * wide + w) (inr (omega arith)) ∙ fresh w less
            ∙ sym (ap (λ b. cond (b && within at (at + len) w) (full (from + i) w) (word_of wide old (from + i) w)) here
            ∙ ap (λ b. cond b (full (from + i) w) (word_of wide old (from + i) w)) is)
        | inner h k is ↦
            (let j : ℕ = w - at in
            let place : (from + i) * wide + at + j ≡ (from + i) * wide + w = omega arith in
            let back : from + i - from ≡ i = omega arith in
            let q0 : 0 * 16384 + get_or picks (4 * (from + i - from) + 0) 0 * 64 + (w - at) ≡ p0 * 64 + j = pick_at 0 i back p0 (sym e0) ∙ (let z : 0 * 16384 + p0 * 64 + (w - at) ≡ p0 * 64 + j = omega arith in z) in
            let q1 : 1 * 16384 + get_or picks (4 * (from + i - from) + 1) 0 * 64 + (w - at) ≡ 16384 + p1 * 64 + j = pick_at 1 i back p1 (sym e1) ∙ (let z : 1 * 16384 + p1 * 64 + (w - at) ≡ 16384 + p1 * 64 + j = omega arith in z) in
            let q2 : 2 * 16384 + get_or picks (4 * (from + i - from) + 2) 0 * 64 + (w - at) ≡ 32768 + p2 * 64 + j = pick_at 2 i back p2 (sym e2) ∙ (let z : 2 * 16384 + p2 * 64 + (w - at) ≡ 32768 + p2 * 64 + j = omega arith in z) in
            let q3 : 3 * 16384 + get_or picks (4 * (from + i - from) + 3) 0 * 64 + (w - at) ≡ 49152 + p3 * 64 + j = pick_at 3 i back p3 (sym e3) ∙ (let z : 3 * 16384 + p3 * 64 + (w - at) ≡ 49152 + p3 * 64 + j = omega arith in z) in
            ap (λ n. get_or new n 0) (sym place)
            ∙ sets.inside j (omega arith)
            ∙ ap (λ n. bit_xor (get_or now n 0) (sum_of p0 p1 p2 p3 j)) place
            ∙ ap (λ x. bit_xor x (sum_of p0 p1 p2 p3 j)) (fresh w less)
            ∙ ap (bit_xor (word_of wide old (from + i) w))
            (ap (λ n. bit_xor (bit_xor (get_or table n 0) (get_or table (16384 + p1 * 64 + j) 0)) (bit_xor (get_or table (32768 + p2 * 64 + j) 0) (get_or table (49152 + p3 * 64 + j) 0))) (sym q0)
            ∙ ap (λ n. bit_xor (bit_xor (get_or table (0 * 16384 + get_or picks (4 * (from + i - from) + 0) 0 * 64 + (w - at)) 0) (get_or table n 0)) (bit_xor (get_or table (32768 + p2 * 64 + j) 0) (get_or table (49152 + p3 * 64 + j) 0))) (sym q1)
            ∙ ap (λ n. bit_xor (bit_xor (get_or table (0 * 16384 + get_or picks (4 * (from + i - from) + 0) 0 * 64 + (w - at)) 0) (get_or table (1 * 16384 + get_or picks (4 * (from + i - from) + 1) 0 * 64 + (w - at)) 0)) (bit_xor (get_or table n 0) (get_or table (49152 + p3 * 64 + j) 0))) (sym q2)
            ∙ ap (λ n. bit_xor (bit_xor (get_or table (0 * 16384 + get_or picks (4 * (from + i - from) + 0) 0 * 64 + (w - at)) 0) (get_or table (1 * 16384 + get_or picks (4 * (from + i - from) + 1) 0 * 64 + (w - at)) 0)) (bit_xor (get_or table (2 * 16384 + get_or picks (4 * (from + i - from) + 2) 0 * 64 + (w - at)) 0) (get_or table n 0))) (sym q3))
            ∙ sym (ap (λ b. cond (b && within at (at + len) w) (full (from + i) w) (word_of wide old (from + i) w)) here
            ∙ ap (λ b. cond b (full (from + i) w) (word_of wide old (from + i) w)) is))
      ]
    where
      sum_of : ℕ → ℕ → ℕ → ℕ → ℕ → ℕ
      sum_of a b c d j = bit_xor (bit_xor (get_or table (a * 64 + j) 0) (get_or table (16384 + b * 64 + j) 0)) (bit_xor (get_or table (32768 + c * 64 + j) 0) (get_or table (49152 + d * 64 + j) 0))

      pick_at : (t i : ℕ) → from + i - from ≡ i → (p : ℕ) → get_or picks (4 * i + t) 0 ≡ p
          → t * 16384 + get_or picks (4 * (from + i - from) + t) 0 * 64 + (w - at) ≡ t * 16384 + p * 64 + (w - at)
      pick_at t i back p is = ap (λ n. t * 16384 + get_or picks (4 * n + t) 0 * 64 + (w - at)) back ∙ ap (λ x. t * 16384 + x * 64 + (w - at)) is

  -- where i rows have the picked sums added and row from + i gets the four that its picks say, i + 1 rows have them
  pub sums_more : AddsSums rows wide from (i + 1) at len table picks old new
  sums_more r w r_less less = elim (cases_eq r (from + i)) [
    | inl same ↦
        subst (λ x. word_of wide new x w ≡ cond (within from (from + (i + 1)) x && within at (at + len) w) (full x w) (word_of wide old x w)) (sym same) (this_row w less)
    | inr other ↦ other_row r w r_less less other
  ]

-- ---- the tables' sums

xor_same : (p q : ℕ → Bool) (f g : ℕ → ℕ) (n : ℕ) → ((s : ℕ) → s < n → p s ≡ q s) → ((s : ℕ) → s < n → f s ≡ g s) → xor_of p f n ≡ xor_of q g n
xor_same p q f g zero ps fs = refl
xor_same p q f g (suc n) ps fs =
    ap (λ x. bit_xor x (cond (p n) (f n) 0)) (xor_same p q f g n (λ s less. ps s (omega arith)) (λ s less. fs s (omega arith)))
    ∙ ap (λ b. bit_xor (xor_of q g n) (cond b (f n) 0)) (ps n (omega arith))
    ∙ ap (λ x. bit_xor (xor_of q g n) (cond (q n) x 0)) (fs n (omega arith))

xor_none : (p : ℕ → Bool) (f : ℕ → ℕ) (n : ℕ) → ((s : ℕ) → s < n → p s ≡ false) → xor_of p f n ≡ 0
xor_none p f zero ps = refl
xor_none p f (suc n) ps =
    ap (λ x. bit_xor x (cond (p n) (f n) 0)) (xor_none p f n (λ s less. ps s (omega arith)))
    ∙ ap (λ b. bit_xor 0 (cond b (f n) 0)) (ps n (omega arith)) ∙ xor_zero_r 0

four_same : (f g : ℕ → ℕ) → ((t : ℕ) → t < 4 → f t ≡ g t) → four f ≡ four g
four_same f g h =
    ap (λ x. bit_xor (bit_xor x (f 1)) (bit_xor (f 2) (f 3))) (h 0 (omega arith))
    ∙ ap (λ x. bit_xor (bit_xor (g 0) x) (bit_xor (f 2) (f 3))) (h 1 (omega arith))
    ∙ ap (λ x. bit_xor (bit_xor (g 0) (g 1)) (bit_xor x (f 3))) (h 2 (omega arith))
    ∙ ap (λ x. bit_xor (bit_xor (g 0) (g 1)) (bit_xor (g 2) x)) (h 3 (omega arith))

and-none : (t : Bool) → (t && false) ≡ false
and-none true = refl
and-none false = refl

pub part_none : (rows wide lo : ℕ) (leads : List (Option ℕ)) (from to : ℕ) (old : List ℕ) → AddsPart rows wide lo leads from to 0 old old
part_none rows wide lo leads from to old r w r_less less =
    sym (ap (λ b. cond (within from to r && b) (added_word wide old lo leads r w) (word_of wide old r w)) (le-ltb w 0 (omega arith))
    ∙ ap (λ b. cond b (added_word wide old lo leads r w) (word_of wide old r w)) (and-none (within from to r)))

-- the group that is added to the words before `at` is added to whole rows, where no row has more words
pub part_all : (rows wide lo : ℕ) (leads : List (Option ℕ)) (from to at : ℕ) (old new : List ℕ) → wide ≤ at → AddsPart rows wide lo leads from to at old new → AddsGroup rows wide lo leads from to old new
part_all rows wide lo leads from to at old new all part r w r_less less =
    part r w r_less less
    ∙ ap (λ b. cond (within from to r && b) (added_word wide old lo leads r w) (word_of wide old r w)) (lt-ltb w at (omega arith))
    ∙ ap (λ b. cond b (added_word wide old lo leads r w) (word_of wide old r w)) (and-true (within from to r))
  where
    and-true : (t : Bool) → (t && true) ≡ t
    and-true true = refl
    and-true false = refl

-- where no word of a row lies between
part_on : (rows wide lo : ℕ) (leads : List (Option ℕ)) (from to a b : ℕ) (old new : List ℕ) → ((a ≡ b) ⊎ (wide ≤ a) × (wide ≤ b)) → AddsPart rows wide lo leads from to a old new
    → AddsPart rows wide lo leads from to b old new
part_on rows wide lo leads from to a b old new (inl same) part = subst (λ x. AddsPart rows wide lo leads from to x old new) same part
part_on rows wide lo leads from to a b old new (inr past) part = λ r w r_less less.
    (let pa = past.0 in
    let pb = past.1 in
    part r w r_less less
    ∙ ap (λ t. cond (within from to r && t) (added_word wide old lo leads r w) (word_of wide old r w)) (lt-ltb w a (omega arith) ∙ sym (lt-ltb w b (omega arith))))

module _ (rows wide lo : ℕ) (leads : List (Option ℕ)) (from n at len : ℕ) (table picks old now new : List ℕ) (group : lo + 32 ≤ rows) (inside : at + len ≤ wide)
    (before : AddsPart rows wide lo leads from (from + n) at old now) (tables : AreTables wide now lo at len table)
    (picked : ArePicks wide old lo leads from n picks) (sums : AddsSums rows wide from n at len table picks now new) where
  now_kept : (r w : ℕ) → r < rows → w < wide → at ≤ w → word_of wide now r w ≡ word_of wide old r w
  now_kept r w r_less less past =
      before r w r_less less
      ∙ ap (λ b. cond (within from (from + n) r && b) (added_word wide old lo leads r w) (word_of wide old r w)) (le-ltb w at past)
      ∙ ap (λ b. cond b (added_word wide old lo leads r w) (word_of wide old r w)) (and-none (within from (from + n) r))

  entry : (r w t : ℕ) → from ≤ r → r < from + n → at ≤ w → w < at + len → t < 4
      → get_or table (t * 16384 + get_or picks (4 * (r - from) + t) 0 * 64 + (w - at)) 0
      ≡ xor_of (λ s. is_hit wide old lo leads r (8 * t + s)) (λ s. word_of wide old (lo + 8 * t + s) w) 8
  entry r w t r_from r_to w_from w_to t_less =
      let i : ℕ = r - from in
      let back : from + i ≡ r = omega arith in
      let there : at + (w - at) ≡ w = omega arith in
      ap (λ p. get_or table (t * 16384 + p * 64 + (w - at)) 0) (picked i t (omega arith) t_less)
      ∙ tables t t_less (λ s. is_hit wide old lo leads (from + i) (8 * t + s)) (w - at) (omega arith)
      ∙ xor_same (λ s. is_hit wide old lo leads (from + i) (8 * t + s)) (λ s. is_hit wide old lo leads r (8 * t + s))
      (λ s. word_of wide now (lo + 8 * t + s) (at + (w - at))) (λ s. word_of wide old (lo + 8 * t + s) w) 8
      (λ s s_less. ap (λ q. is_hit wide old lo leads q (8 * t + s)) back)
      (λ s s_less. ap (word_of wide now (lo + 8 * t + s)) there ∙ now_kept (lo + 8 * t + s) w (omega arith) (omega arith) w_from)

  abbrev sum_now : ℕ → ℕ → ℕ
  sum_now r w = bit_xor (word_of wide now r w) (four (λ t. get_or table (t * 16384 + get_or picks (4 * (r - from) + t) 0 * 64 + (w - at)) 0))

  pub part_more : AddsPart rows wide lo leads from (from + n) (at + len) old new
  part_more r w r_less less =
      elim (side from (from + n) r) [
        | low h is ↦ outer is
        | high h is ↦ outer is
        | inner h k is ↦ elim (side at (at + len) w) [
          | low g at_is ↦
              stays is at_is
              ∙ before r w r_less less
              ∙ ap (λ b. cond (within from (from + n) r && b) (added_word wide old lo leads r w) (word_of wide old r w)) (lt-ltb w at g ∙ sym (lt-ltb w (at + len) (omega arith)))
          | high g at_is ↦
              stays is at_is
              ∙ before r w r_less less
              ∙ ap (λ b. cond (within from (from + n) r && b) (added_word wide old lo leads r w) (word_of wide old r w)) (le-ltb w at (omega arith) ∙ sym (le-ltb w (at + len) g))
          | inner g g' at_is ↦
              sums r w r_less less
              ∙ ap (λ b. cond (b && within at (at + len) w) (sum_now r w) (word_of wide now r w)) is
              ∙ ap (λ b. cond b (sum_now r w) (word_of wide now r w)) at_is
              ∙ ap (λ x. bit_xor x (four (λ t. get_or table (t * 16384 + get_or picks (4 * (r - from) + t) 0 * 64 + (w - at)) 0))) (now_kept r w r_less less g)
              ∙ ap (bit_xor (word_of wide old r w))
              (four_same (λ t. get_or table (t * 16384 + get_or picks (4 * (r - from) + t) 0 * 64 + (w - at)) 0)
              (λ t. xor_of (λ s. is_hit wide old lo leads r (8 * t + s)) (λ s. word_of wide old (lo + 8 * t + s) w) 8)
              (λ t t_less. entry r w t h k g g' t_less))
              ∙ sym (ap (λ b. cond (b && nat_lt w (at + len)) (added_word wide old lo leads r w) (word_of wide old r w)) is
              ∙ ap (λ b. cond b (added_word wide old lo leads r w) (word_of wide old r w)) (lt-ltb w (at + len) g'))
        ]
      ]
    where
      stays : within from (from + n) r ≡ true → within at (at + len) w ≡ false → word_of wide new r w ≡ word_of wide now r w
      stays is at_is =
          sums r w r_less less
          ∙ ap (λ b. cond (within from (from + n) r && b) (sum_now r w) (word_of wide now r w)) at_is
          ∙ ap (λ b. cond b (sum_now r w) (word_of wide now r w)) (and-none (within from (from + n) r))

      outer : within from (from + n) r ≡ false
          → word_of wide new r w ≡ cond (within from (from + n) r && nat_lt w (at + len)) (added_word wide old lo leads r w) (word_of wide old r w)
      outer is =
          sums r w r_less less
          ∙ ap (λ b. cond (b && within at (at + len) w) (sum_now r w) (word_of wide now r w)) is
          ∙ before r w r_less less
          ∙ ap (λ b. cond (b && nat_lt w at) (added_word wide old lo leads r w) (word_of wide old r w)) is
          ∙ sym (ap (λ b. cond (b && nat_lt w (at + len)) (added_word wide old lo leads r w) (word_of wide old r w)) is)

  -- up to the next strip
  pub part_next : (next : ℕ) → ((at + len ≡ next) ⊎ (wide ≤ at + len) × (wide ≤ next)) → AddsPart rows wide lo leads from (from + n) next old new
  part_next next where_is = part_on rows wide lo leads from (from + n) (at + len) next old new where_is part_more

-- ---- rows after rows

lead_same : (wide r : ℕ) (old now : List ℕ) (o : Option ℕ) → ((c : ℕ) → o ≡ Some c → c < 64 * wide) → ((v : ℕ) → v < wide → word_of wide now r v ≡ word_of wide old r v)
    → has_lead wide now r o ≡ has_lead wide old r o
lead_same wide r old now None inside same = refl
lead_same wide r old now (Some c) inside same = let less = inside c refl in ap (λ x. bit_at x (c % 64) == 1) (same (c / 64) (omega arith))

-- the group's own rows stay
pub group_own : (wide lo : ℕ) (words : List ℕ) (leads : List (Option ℕ)) (r w : ℕ) → lo ≤ r → r < lo + 32 → added_word wide words lo leads r w ≡ word_of wide words r w
group_own wide lo words leads r w from_lo to_hi =
    ap (bit_xor (word_of wide words r w))
    (four_same (λ t. xor_of (λ s. is_hit wide words lo leads r (8 * t + s)) (λ s. word_of wide words (lo + 8 * t + s) w) 8) (λ t. 0)
    (λ t t_less. xor_none (λ s. is_hit wide words lo leads r (8 * t + s)) (λ s. word_of wide words (lo + 8 * t + s) w) 8
    (λ s less. ap (λ b. not b && has_lead wide words r (get_or leads (8 * t + s) None)) (within_yes lo (lo + 32) r from_lo to_hi)))
    ∙ ap (λ x. bit_xor x (bit_xor 0 0)) (xor_zero_r 0) ∙ ap (bit_xor 0) (xor_zero_r 0) ∙ xor_zero_r 0)
    ∙ xor_zero_r (word_of wide words r w)

added_same : (wide lo : ℕ) (old now : List ℕ) (leads : List (Option ℕ)) (r w : ℕ) → AreInside wide leads → w < wide → ((v : ℕ) → v < wide → word_of wide now r v ≡ word_of wide old r v)
    → ((s : ℕ) → s < 32 → word_of wide now (lo + s) w ≡ word_of wide old (lo + s) w) → added_word wide now lo leads r w ≡ added_word wide old lo leads r w
added_same wide lo old now leads r w inside less row group =
    ap (λ x. bit_xor x (four (λ t. xor_of (λ s. is_hit wide now lo leads r (8 * t + s)) (λ s. word_of wide now (lo + 8 * t + s) w) 8))) (row w less)
    ∙ ap (bit_xor (word_of wide old r w))
    (four_same (λ t. xor_of (λ s. is_hit wide now lo leads r (8 * t + s)) (λ s. word_of wide now (lo + 8 * t + s) w) 8)
    (λ t. xor_of (λ s. is_hit wide old lo leads r (8 * t + s)) (λ s. word_of wide old (lo + 8 * t + s) w) 8)
    (λ t t_less. xor_same (λ s. is_hit wide now lo leads r (8 * t + s)) (λ s. is_hit wide old lo leads r (8 * t + s))
    (λ s. word_of wide now (lo + 8 * t + s) w) (λ s. word_of wide old (lo + 8 * t + s) w) 8
    (λ s s_less. ap (λ b. not (within lo (lo + 32) r) && b)
    (lead_same wide r old now (get_or leads (8 * t + s) None) (λ c is. inside (8 * t + s) c (omega arith) is) row))
    (λ s s_less.
    (let at : lo + 8 * t + s ≡ lo + (8 * t + s) = omega arith in
    ap (λ q. word_of wide now q w) at ∙ group (8 * t + s) (omega arith) ∙ ap (λ q. word_of wide old q w) (sym at)))))

pub group_none : (rows wide lo : ℕ) (leads : List (Option ℕ)) (old : List ℕ) → AddsGroup rows wide lo leads 0 0 old old
group_none rows wide lo leads old r w r_less less = sym (ap (λ b. cond b (added_word wide old lo leads r w) (word_of wide old r w)) (within_high 0 0 r (omega arith)))

-- where the group is added to the rows before `from`, and then to those from there to before `to`, it is added to
-- all before `to`; the group is among the rows, and its listed columns are within a row
pub group_more : (rows wide lo : ℕ) (leads : List (Option ℕ)) (from to : ℕ) (old now new : List ℕ) → lo + 32 ≤ rows → from ≤ to → AreInside wide leads
    → AddsGroup rows wide lo leads 0 from old now → AddsGroup rows wide lo leads from to now new → AddsGroup rows wide lo leads 0 to old new
group_more rows wide lo leads from to old now new fits order inside before after r w r_less less =
    elim (side from to r) [
      | low h is ↦
          after r w r_less less
          ∙ ap (λ b. cond b (added_word wide now lo leads r w) (word_of wide now r w)) is
          ∙ before r w r_less less
          ∙ ap (λ b. cond b (added_word wide old lo leads r w) (word_of wide old r w)) (within_yes 0 from r (omega arith) h ∙ sym (within_yes 0 to r (omega arith) (omega arith)))
      | high h is ↦
          after r w r_less less
          ∙ ap (λ b. cond b (added_word wide now lo leads r w) (word_of wide now r w)) is
          ∙ before r w r_less less
          ∙ ap (λ b. cond b (added_word wide old lo leads r w) (word_of wide old r w)) (within_high 0 from r (omega arith) ∙ sym (within_high 0 to r h))
      | inner h k is ↦
          after r w r_less less
          ∙ ap (λ b. cond b (added_word wide now lo leads r w) (word_of wide now r w)) is
          ∙ added_same wide lo old now leads r w inside less
          (λ v v_less. before r v r_less v_less ∙ ap (λ b. cond b (added_word wide old lo leads r v) (word_of wide old r v)) (within_high 0 from r h))
          (λ s s_less. before (lo + s) w (omega arith) less ∙ either (within 0 from (lo + s)) (lo + s) (omega arith) (omega arith))
          ∙ sym (ap (λ b. cond b (added_word wide old lo leads r w) (word_of wide old r w)) (within_yes 0 to r (omega arith) k))
    ]
  where
    either : (b : Bool) (g : ℕ) → lo ≤ g → g < lo + 32 → cond b (added_word wide old lo leads g w) (word_of wide old g w) ≡ word_of wide old g w
    either true g from_lo to_hi = group_own wide lo old leads g w from_lo to_hi
    either false g from_lo to_hi = refl
