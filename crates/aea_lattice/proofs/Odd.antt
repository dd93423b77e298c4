-- Odd counts: a parity of a sum of tests is the sum of their parities.
use Rattle.std.proofs.Common.{◌≡◌, ℕ, ◌+◌, ◌%◌, Bool, true, false, not, ◌&&◌, ◌==◌, cond, count_by, List, [], ◌∷◌, ◌++◌, map, filter, refl, sym, ◌∙◌, ap, arith, ◌⊎◌, inl, inr}
use Rattle.std.proofs.lemmas.List.Sums.{sum_by-cons}
use Rattle.std.proofs.lemmas.Bool.{cases_eq, eq-eqb, ne_eqb, cases_Bool, cond-true, cond-false, true≢false}
use Rattle.aea_lattice.specs.Equations.{is_odd_count}
use Rattle.aea_lattice.specs.Parity.{differ}

-- two tests that agree everywhere are one
pub same_test : {A : Type 0} → {B : Type 0} (f g : A → B) → ((x : A) → f x ≡ g x) → f ≡ g
same_test f g h = λ i x. h x i

odd-more : (n : ℕ) → ((1 + n) % 2 == 1) ≡ not (n % 2 == 1)
odd-more n =
    elim (cases_eq (n % 2) 1) [
      | inl odd ↦ ne_eqb ((1 + n) % 2) 1 (λ h. omega arith) ∙ ap not (sym (eq-eqb (n % 2) 1 odd))
      | inr even ↦ eq-eqb ((1 + n) % 2) 1 (omega arith) ∙ ap not (sym (ne_eqb (n % 2) 1 even))
    ]

odd-plus : (b : Bool) (n : ℕ) → ((cond b 1 0 + n) % 2 == 1) ≡ differ b (n % 2 == 1)
odd-plus true n = odd-more n
odd-plus false n = let same : 0 + n ≡ n = omega arith in ap (λ k. k % 2 == 1) same

-- an odd number of a list's items pass a test exactly where the first passes it or an odd number of the rest do,
-- but not both
pub odd-cons : {A : Type 0} → (p : A → Bool) (x : A) (xs : List A) → is_odd_count p (x ∷ xs) ≡ differ (p x) (is_odd_count p xs)
odd-cons p x xs =
    ap (λ n. n % 2 == 1) (sum_by-cons (λ y. cond (p y) 1 0) x xs) ∙ odd-plus (p x) (count_by p xs)

-- the sum of two modulo 2 is the same in either order
pub differ-comm : (a b : Bool) → differ a b ≡ differ b a
differ-comm true true = refl
differ-comm true false = refl
differ-comm false true = refl
differ-comm false false = refl

-- the sum of three modulo 2 is the same, whether the first two or the last two are added first
pub differ-assoc : (a b c : Bool) → differ (differ a b) c ≡ differ a (differ b c)
differ-assoc true true true = refl
differ-assoc true true false = refl
differ-assoc true false true = refl
differ-assoc true false false = refl
differ-assoc false b c = refl

-- a truth value does not differ from itself
pub differ-self : (a : Bool) → differ a a ≡ false
differ-self true = refl
differ-self false = refl

-- a truth value differs from false exactly where it is true
pub differ-false_r : (a : Bool) → differ a false ≡ a
differ-false_r true = refl
differ-false_r false = refl

differ-four : (a b c d : Bool) → differ (differ a b) (differ c d) ≡ differ (differ a c) (differ b d)
differ-four true true true d = refl
differ-four true true false true = refl
differ-four true true false false = refl
differ-four true false true true = refl
differ-four true false true false = refl
differ-four true false false d = refl
differ-four false true true true = refl
differ-four false true true false = refl
differ-four false true false true = refl
differ-four false true false false = refl
differ-four false false c d = refl

-- the parity of a test that is the sum of two
pub odd-differ : {A : Type 0} → (p q : A → Bool) (xs : List A) → is_odd_count (λ x. differ (p x) (q x)) xs ≡ differ (is_odd_count p xs) (is_odd_count q xs)
odd-differ p q [] = refl
odd-differ p q (x ∷ xs) =
    odd-cons (λ y. differ (p y) (q y)) x xs
    ∙ ap (differ (differ (p x) (q x))) (odd-differ p q xs)
    ∙ differ-four (p x) (q x) (is_odd_count p xs) (is_odd_count q xs)
    ∙ ap (λ a. differ a (differ (q x) (is_odd_count q xs))) (sym (odd-cons p x xs))
    ∙ ap (differ (is_odd_count p (x ∷ xs))) (sym (odd-cons q x xs))

-- a test that no item passes
pub odd-none : {A : Type 0} → (xs : List A) → is_odd_count (λ x. false) xs ≡ false
odd-none [] = refl
odd-none (x ∷ xs) = odd-cons (λ y. false) x xs ∙ odd-none xs

-- a condition on a sum modulo 2 is the same as that condition on each of the two that are added
pub differ-and : (a b c : Bool) → (differ a b && c) ≡ differ (a && c) (b && c)
differ-and true true true = refl
differ-and true true false = refl
differ-and true false true = refl
differ-and true false false = refl
differ-and false b c = refl

-- an odd number of the items of two lists in a row pass a test exactly where an odd number of those of just one of
-- the two do
pub odd-append : {A : Type 0} → (p : A → Bool) (xs ys : List A) → is_odd_count p (xs ++ ys) ≡ differ (is_odd_count p xs) (is_odd_count p ys)
odd-append p [] ys = refl
odd-append p (x ∷ xs) ys =
    odd-cons p x (xs ++ ys)
    ∙ ap (differ (p x)) (odd-append p xs ys)
    ∙ sym (differ-assoc (p x) (is_odd_count p xs) (is_odd_count p ys))
    ∙ ap (λ a. differ a (is_odd_count p ys)) (sym (odd-cons p x xs))

-- an odd number of the items of a mapped list pass a test exactly where an odd number of those of the list itself
-- pass it after the map
pub odd-map : {A B : Type 0} → (f : A → B) (p : B → Bool) (xs : List A) → is_odd_count p (map f xs) ≡ is_odd_count (λ x. p (f x)) xs
odd-map f p [] = refl
odd-map f p (x ∷ xs) =
    odd-cons p (f x) (map f xs) ∙ ap (differ (p (f x))) (odd-map f p xs) ∙ sym (odd-cons (λ y. p (f y)) x xs)

-- one more item
pub odd-snoc : {A : Type 0} → (p : A → Bool) (xs : List A) (x : A) → is_odd_count p (xs ++ x ∷ []) ≡ differ (is_odd_count p xs) (p x)
odd-snoc p xs x =
    odd-append p xs (x ∷ []) ∙ ap (differ (is_odd_count p xs)) (odd-cons p x [] ∙ differ-false_r (p x))

-- the items that pass a first test
pub odd-filter : {A : Type 0} → (p q : A → Bool) (xs : List A) → is_odd_count q (filter p xs) ≡ is_odd_count (λ x. p x && q x) xs
odd-filter p q [] = refl
odd-filter p q (x ∷ xs) =
    elim (cases_Bool (p x)) [
      | inl yes' ↦
          ap (is_odd_count q) (cond-true (p x) (x ∷ filter p xs) (filter p xs) yes')
          ∙ odd-cons q x (filter p xs)
          ∙ ap (differ (q x)) (odd-filter p q xs)
          ∙ ap (λ b. differ (b && q x) (is_odd_count (λ y. p y && q y) xs)) (sym yes')
          ∙ sym (odd-cons (λ y. p y && q y) x xs)
      | inr no' ↦
          ap (is_odd_count q) (cond-false (p x) (x ∷ filter p xs) (filter p xs) no')
          ∙ odd-filter p q xs
          ∙ ap (λ b. differ (b && q x) (is_odd_count (λ y. p y && q y) xs)) (sym no')
          ∙ sym (odd-cons (λ y. p y && q y) x xs)
    ]

-- a test with a constant part
pub odd-and : {A : Type 0} → (p : A → Bool) (b : Bool) (xs : List A) → is_odd_count (λ x. p x && b) xs ≡ (is_odd_count p xs && b)
odd-and p b [] = refl
odd-and p b (x ∷ xs) =
    odd-cons (λ y. p y && b) x xs
    ∙ ap (differ (p x && b)) (odd-and p b xs)
    ∙ sym (differ-and (p x) (is_odd_count p xs) b)
    ∙ ap (λ a. a && b) (sym (odd-cons p x xs))

-- each item of a list has the property, by recursion on the list
abbrev pub Each : {A : Type 0} → (A → Type 0) → List A → Type 0
Each P [] = Unit {0}
Each P (x ∷ xs) = P x × Each P xs

-- what each item of two lists has, each item of the two in a row has
pub Each-append : {A : Type 0} → (P : A → Type 0) (xs ys : List A) → Each P xs → Each P ys → Each P (xs ++ ys)
Each-append P [] ys hx hy = hy
Each-append P (x ∷ xs) ys hx hy = (hx.0, Each-append P xs ys hx.1 hy)

-- where a second property follows from a first, each item has the second if each has the first
pub Each-more : {A : Type 0} → (P Q : A → Type 0) (xs : List A) → ((x : A) → P x → Q x) → Each P xs → Each Q xs
Each-more P Q [] h hx = tt
Each-more P Q (x ∷ xs) h hx = (h x hx.0, Each-more P Q xs h hx.1)

-- where what each item is mapped to has a property, each item of the mapped list has it
pub Each-map : {A B : Type 0} → (f : A → B) (P : B → Type 0) (xs : List A) → Each (λ x. P (f x)) xs → Each P (map f xs)
Each-map f P [] hx = tt
Each-map f P (x ∷ xs) hx = (hx.0, Each-map f P xs hx.1)

-- where each item of a mapped list has a property, what each item of the list is mapped to has it
pub Each-from_map : {A B : Type 0} → (f : A → B) (P : B → Type 0) (xs : List A) → Each P (map f xs) → Each (λ x. P (f x)) xs
Each-from_map f P [] hx = tt
Each-from_map f P (x ∷ xs) hx = (hx.0, Each-from_map f P xs hx.1)

-- tests that agree on the items have one parity
pub odd-same : {A : Type 0} → (p q : A → Bool) (xs : List A) → Each (λ x. p x ≡ q x) xs → is_odd_count p xs ≡ is_odd_count q xs
odd-same p q [] h = refl
odd-same p q (x ∷ xs) h =
    odd-cons p x xs ∙ ap (λ a. differ a (is_odd_count p xs)) h.0 ∙ ap (differ (q x)) (odd-same p q xs h.1) ∙ sym (odd-cons q x xs)

-- two tests that agree on each item of a list keep the same items
pub filter_each : {A : Type 0} → (p q : A → Bool) (xs : List A) → Each (λ x. p x ≡ q x) xs → filter p xs ≡ filter q xs
filter_each p q [] h = refl
filter_each p q (x ∷ xs) h =
    elim (cases_Bool (q x)) [
      | inl yes' ↦ (let px : p x ≡ true = h.0 ∙ yes' in rw (px, yes') (ap (λ ys. x ∷ ys) (filter_each p q xs h.1)))
      | inr no' ↦ (let px : p x ≡ false = h.0 ∙ no' in rw (px, no') (filter_each p q xs h.1))
    ]

-- where a sum modulo 2 is true, one of its two parts is
pub differ_one : (a b : Bool) → differ a b ≡ true → (a ≡ true) ⊎ (b ≡ true)
differ_one true b h = inl refl
differ_one false b h = inr h

-- where it is false, the two are equal
pub differ-equal : (a b : Bool) → differ a b ≡ false → a ≡ b
differ-equal true true h = refl
differ-equal true false h = absurd (true≢false h)
differ-equal false true h = absurd (true≢false h)
differ-equal false false h = refl

-- and where both are true, it is false
pub differ_both : (a b : Bool) → a ≡ true → b ≡ true → differ a b ≡ false
differ_both a b ha hb = ap (λ x. differ x b) ha ∙ ap not hb
