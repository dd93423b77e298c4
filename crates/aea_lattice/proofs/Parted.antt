-- Nodes that a fence parts.
use Rattle.std.proofs.Common.{◌≡◌, ℕ, suc, ◌<◌, ◌≤◌, Bool, true, false, ◌&&◌, ◌||◌, nat_le, inl, inr, List, [], ◌∷◌, ◌++◌, All, length, refl, sym, ◌∙◌, ap, arith}
use Rattle.std.proofs.lemmas.Bool.{cases_lt, and_parts, and_from, and_left, and_right, or_cases, or_left, or_right, and_cases, false≢true, leb-true, le-leb, lt-leb, leb-false}
use Rattle.std.proofs.lemmas.List.Folds.{list_any-append}
use Rattle.aea_lattice.specs.Fences.{is_parted, last_fence, rise_to, are_fences}

-- whether a fence at f parts k from i
abbrev pub parts : ℕ → ℕ → ℕ → Bool
parts f k i = nat_le k f && nat_le (suc f) i

parts-above : (f k i : ℕ) → i ≤ k → parts f k i ≡ false
parts-above f k i le = elim (cases_lt f k) [
  | inl lt ↦ and_left (nat_le k f) (nat_le (suc f) i) (lt-leb k f lt)
  | inr ge ↦ and_right (nat_le k f) (nat_le (suc f) i) (lt-leb (suc f) i (omega arith))
]

-- where f does not part g from i, it parts an earlier node from i exactly where it parts it from g
parts-less : (f k g i : ℕ) → k ≤ g → g ≤ i → parts f g i ≡ false → parts f k i ≡ parts f k g
parts-less f k g i le most joined = elim (cases_lt f g) [
  | inl lt ↦ ap (λ b. nat_le k f && b) (le-leb (suc f) i (omega arith) ∙ sym (le-leb (suc f) g lt))
  | inr ge ↦ elim (cases_lt f i) [
    | inl lt ↦ absurd (false≢true (sym joined ∙ and_from (nat_le g f) (nat_le (suc f) i) (le-leb g f ge) (le-leb (suc f) i lt)))
    | inr past ↦ ap (λ b. nat_le k f && b) (lt-leb (suc f) i (omega arith) ∙ sym (lt-leb (suc f) g (omega arith)))
  ]
]

parts-more : (f k g i : ℕ) → k ≤ g → parts f g i ≡ true → parts f k i ≡ true
parts-more f k g i le h =
    let both = and_parts (nat_le g f) (nat_le (suc f) i) h in
    and_from (nat_le k f) (nat_le (suc f) i) (le-leb k f (let a = leb-true g f both.0 in omega arith)) both.1

-- where it is false that one or the other holds, each of the two is false
pub or_none : (x y : Bool) → (x || y) ≡ false → (x ≡ false) × (y ≡ false)
or_none true y h = absurd (false≢true (sym h))
or_none false y h = (refl, h)

-- no node is parted from itself or from an earlier one
pub parted-above : (fences : List ℕ) (k i : ℕ) → i ≤ k → is_parted fences k i ≡ false
parted-above [] k i le = refl
parted-above (f ∷ fs) k i le = rw (parts-above f k i le) (parted-above fs k i le)

-- where g is not parted from i, which is g or later, a node up to g is parted from i exactly where it is
-- parted from g
pub parted-less : (fences : List ℕ) (k g i : ℕ) → k ≤ g → g ≤ i → is_parted fences g i ≡ false → is_parted fences k i ≡ is_parted fences k g
parted-less [] k g i le most joined = refl
parted-less (f ∷ fs) k g i le most joined =
    let both = or_none (parts f g i) (is_parted fs g i) joined in
    ap (λ b. b || is_parted fs k i) (parts-less f k g i le most both.0)
    ∙ ap (λ b. parts f k g || b) (parted-less fs k g i le most both.1)

-- where a node is parted from i, each earlier node is parted from i too
pub parted-more : (fences : List ℕ) (k g i : ℕ) → k ≤ g → is_parted fences g i ≡ true → is_parted fences k i ≡ true
parted-more [] k g i le h = h
parted-more (f ∷ fs) k g i le h = elim (or_cases (parts f g i) (is_parted fs g i) h) [
  | inl here ↦ or_left (parts f k i) (is_parted fs k i) (parts-more f k g i le here)
  | inr there ↦ or_right (parts f k i) (is_parted fs k i) (parted-more fs k g i le there)
]

-- ---- fences of a lattice

pub fences_rise : (n : ℕ) (fences : List ℕ) → are_fences n fences ≡ true → rise_to 0 n fences ≡ true
fences_rise n fences h = (and_parts (nat_le (length fences) 16) (rise_to 0 n fences) h).1

-- a lattice has at most 16 fences
pub fences_few : (n : ℕ) (fences : List ℕ) → are_fences n fences ≡ true → length fences ≤ 16
fences_few n fences h = leb-true (length fences) 16 (and_parts (nat_le (length fences) 16) (rise_to 0 n fences) h).0

pub record Rises (low n f : ℕ) (fences : List ℕ) : Type 0 where
  pub above : low < f
  pub most : f ≤ n
  pub rest : rise_to f n fences ≡ true

pub rises : (low n f : ℕ) (fences : List ℕ) → rise_to low n (f ∷ fences) ≡ true → Rises low n f fences
rises low n f fences h =
    let a = and_parts (nat_le (suc low) f && nat_le f n) (rise_to f n fences) h in
    let b = and_parts (nat_le (suc low) f) (nat_le f n) a.0 in
    record { above = leb-true (suc low) f b.0; most = leb-true f n b.1; rest = a.1 }

pub rise-from : (low n f : ℕ) (fences : List ℕ) → Rises low n f fences → rise_to low n (f ∷ fences) ≡ true
rise-from low n f fences r =
    and_from (nat_le (suc low) f && nat_le f n) (rise_to f n fences)
    (and_from (nat_le (suc low) f) (nat_le f n) (le-leb (suc low) f r.above) (le-leb f n r.most)) r.rest

rise-more : (low n m : ℕ) (fences : List ℕ) → n ≤ m → rise_to low n fences ≡ true → rise_to low m fences ≡ true
rise-more low n m [] le h = refl
rise-more low n m (f ∷ fs) le h =
    let r = rises low n f fs h in
    rise-from low m f fs (record { above = r.above; most = let most = r.most in omega arith; rest = rise-more f n m fs le r.rest })

-- the last of a list, or `low` where the list is empty
abbrev last_above : ℕ → List ℕ → ℕ
last_above low [] = low
last_above low (f ∷ fs) = last_above f fs

last_above-last : (f : ℕ) (fs : List ℕ) → last_above f fs ≡ last_fence (f ∷ fs)
last_above-last f [] = refl
last_above-last f (g ∷ gs) = last_above-last g gs

rise-snoc : (low n : ℕ) (fences : List ℕ) → rise_to low n fences ≡ true → last_above low fences < n → rise_to low n (fences ++ n ∷ []) ≡ true
rise-snoc low n [] h lt = rise-from low n n [] (record { above = lt; most = omega arith; rest = refl })
rise-snoc low n (f ∷ fs) h lt =
    let r = rises low n f fs h in
    rise-from low n f (fs ++ n ∷ []) (record { above = r.above; most = r.most; rest = rise-snoc f n fs r.rest lt })

last_of_all : (fences : List ℕ) → last_above 0 fences ≡ last_fence fences
last_of_all [] = refl
last_of_all (f ∷ fs) = last_above-last f fs

-- a lattice with more nodes keeps its fences
pub fences-grown : (n m : ℕ) (fences : List ℕ) → n ≤ m → are_fences n fences ≡ true → are_fences m fences ≡ true
fences-grown n m fences le h =
    let both = and_parts (nat_le (length fences) 16) (rise_to 0 n fences) h in
    and_from (nat_le (length fences) 16) (rise_to 0 m fences) both.0 (rise-more 0 n m fences le both.1)

-- one more fence, after the last node
pub fences-fenced : (n : ℕ) (fences : List ℕ) → are_fences n fences ≡ true → last_fence fences < n → length (fences ++ n ∷ []) ≤ 16
    → are_fences n (fences ++ n ∷ []) ≡ true
fences-fenced n fences h lt few =
    let both = and_parts (nat_le (length fences) 16) (rise_to 0 n fences) h in
    and_from (nat_le (length (fences ++ n ∷ [])) 16) (rise_to 0 n (fences ++ n ∷ [])) (le-leb (length (fences ++ n ∷ [])) 16 few)
    (rise-snoc 0 n fences both.1 (let e = last_of_all fences in omega arith))

-- a fence parts no node from one after n + 1 that it does not part from n + 1
rise-past : (low n : ℕ) (fences : List ℕ) (k i : ℕ) → rise_to low n fences ≡ true → suc n ≤ i → is_parted fences k i ≡ is_parted fences k (suc n)
rise-past low n [] k i h le = refl
rise-past low n (f ∷ fs) k i h le =
    let r = rises low n f fs h in
    let most = r.most in
    ap (λ b. (nat_le k f && b) || is_parted fs k i) (le-leb (suc f) i (omega arith) ∙ sym (le-leb (suc f) (suc n) (omega arith)))
    ∙ ap (λ b. parts f k (suc n) || b) (rise-past f n fs k i r.rest le)

-- the fences of a lattice of n nodes part a node from one after n exactly where they part it from n + 1
pub parted-past : (n : ℕ) (fences : List ℕ) (k i : ℕ) → are_fences n fences ≡ true → suc n ≤ i → is_parted fences k i ≡ is_parted fences k (suc n)
parted-past n fences k i h le = rise-past 0 n fences k i (fences_rise n fences h) le

-- further fences at n or after it part no node from one up to n
parted-beyond : (later : List ℕ) (n k i : ℕ) → All (λ f. n ≤ f) later → i ≤ n → is_parted later k i ≡ false
parted-beyond [] n k i all le = refl
parted-beyond (f ∷ fs) n k i all le =
    let here : n ≤ f = all 0 f (omega arith) in
    rw (and_right (nat_le k f) (nat_le (suc f) i) (lt-leb (suc f) i (omega arith)))
    (parted-beyond fs n k i (λ j d inside. all (suc j) d (omega arith)) le)

or_false : (x y : Bool) → y ≡ false → (x || y) ≡ x
or_false true y h = refl
or_false false y h = h

-- further fences at n or after it change nothing in what is parted from a node up to n
pub parted-later : (fences later : List ℕ) (n k i : ℕ) → All (λ f. n ≤ f) later → i ≤ n → is_parted (fences ++ later) k i ≡ is_parted fences k i
parted-later fences later n k i all le =
    list_any-append (λ f. parts f k i) fences later
    ∙ or_false (is_parted fences k i) (is_parted later k i) (parted-beyond later n k i all le)

-- the last fence parts each node up to it from each node after it
last-parts : (f : ℕ) (fs : List ℕ) (k i : ℕ) → k ≤ last_above f fs → last_above f fs < i → is_parted (f ∷ fs) k i ≡ true
last-parts f [] k i le lt = or_left (parts f k i) false (and_from (nat_le k f) (nat_le (suc f) i) (le-leb k f le) (le-leb (suc f) i lt))
last-parts f (g ∷ gs) k i le lt = or_right (parts f k i) (is_parted (g ∷ gs) k i) (last-parts g gs k i le lt)

-- each node up to the last fence is parted from each node after that fence
pub parted-last : (fences : List ℕ) (k i : ℕ) → 1 ≤ k → k ≤ last_fence fences → last_fence fences < i → is_parted fences k i ≡ true
parted-last [] k i first le lt = absurd (omega arith)
parted-last (f ∷ fs) k i first le lt =
    let e = last_above-last f fs in last-parts f fs k i (omega arith) (omega arith)

-- the last of numbers that rise from `low`, or `low` itself where there are none, is at least `low`
last_above-most : (low n : ℕ) (fences : List ℕ) → rise_to low n fences ≡ true → low ≤ last_above low fences
last_above-most low n [] h = omega arith
last_above-most low n (f ∷ fs) h =
    let r = rises low n f fs h in
    let above = r.above in
    omega (arith, last_above-most f n fs r.rest)

rise-open : (low n : ℕ) (fences : List ℕ) (k i : ℕ) → rise_to low n fences ≡ true → last_above low fences < k → is_parted fences k i ≡ false
rise-open low n [] k i h lt = refl
rise-open low n (f ∷ fs) k i h lt =
    let r = rises low n f fs h in
    let most = last_above-most f n fs r.rest in
    rw (and_left (nat_le k f) (nat_le (suc f) i) (lt-leb k f (omega arith))) (rise-open f n fs k i r.rest lt)

-- where the last fence is before the last node n, n is parted from no node
pub parted-open : (n : ℕ) (fences : List ℕ) (i : ℕ) → are_fences n fences ≡ true → last_fence fences < n → is_parted fences n i ≡ false
parted-open n fences i h lt = rise-open 0 n fences n i (fences_rise n fences h) (let e = last_of_all fences in omega arith)

last_above-within : (low n : ℕ) (fences : List ℕ) → low ≤ n → rise_to low n fences ≡ true → last_above low fences ≤ n
last_above-within low n [] le h = le
last_above-within low n (f ∷ fs) le h = let r = rises low n f fs h in last_above-within f n fs r.most r.rest

-- the last fence of a lattice of n nodes, or 0 where there is none, is at most n
pub last_fence-within : (n : ℕ) (fences : List ℕ) → are_fences n fences ≡ true → last_fence fences ≤ n
last_fence-within n fences h =
    let e = last_of_all fences in let most = last_above-within 0 n fences (omega arith) (fences_rise n fences h) in omega arith

parts-nearer : (f k j i : ℕ) → j ≤ i → parts f k i ≡ false → parts f k j ≡ false
parts-nearer f k j i le joined = elim (and_cases (nat_le k f) (nat_le (suc f) i) joined) [
  | inl off ↦ and_left (nat_le k f) (nat_le (suc f) j) off
  | inr off ↦ and_right (nat_le k f) (nat_le (suc f) j) (lt-leb (suc f) j (let past = leb-false (suc f) i off in omega arith))
]

-- what is not parted from i is not parted from an earlier node
pub parted-nearer : (fences : List ℕ) (k j i : ℕ) → j ≤ i → is_parted fences k i ≡ false → is_parted fences k j ≡ false
parted-nearer [] k j i le joined = refl
parted-nearer (f ∷ fs) k j i le joined =
    let both = or_none (parts f k i) (is_parted fs k i) joined in
    rw (parts-nearer f k j i le both.0) (parted-nearer fs k j i le both.1)
