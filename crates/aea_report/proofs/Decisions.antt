-- Questions that can be decided: whether two texts are the same, and whether one of finitely many values has a property.
use Rattle.std.proofs.Common.{◌≡◌, ℕ, suc, zero, ◌<◌, ◌≤◌, ◌⊎◌, inl, inr, List, [], ◌∷◌, length, get_or, drop, arith, refl, sym, ◌∙◌, ap, subst, Option, Some, None}
use Rattle.std.specs.Prelude.{All, IfSome, Bool, true}
use Rattle.std.proofs.lemmas.Bool.{cases_lt, cases_eq, cases_Bool, false≢true}
use Rattle.std.proofs.lemmas.List.Elements.{All-nil, All-cons, All-tail}
use Rattle.aea_lattice.specs.declared.blocks.Class.{Class}
use Rattle.aea_lattice.specs.declared.blocks.Class.TheVariants.{Datum, Horiz, Right, Left}

-- it holds, or it does not
abbrev pub Decided : Type 0 → Type 0
Decided P = P ⊎ (P → ⊥)

-- both of two
pub decide_both : {P Q : Type 0} → Decided P → Decided Q → Decided (P × Q)
decide_both (inl p) (inl q) = inl (p, q)
decide_both (inl p) (inr never) = inr (λ both. never both.1)
decide_both (inr never) q = inr (λ both. never both.0)

-- the same in other words
pub decide_as : {P Q : Type 0} → (P → Q) → (Q → P) → Decided P → Decided Q
decide_as to from (inl p) = inl (to p)
decide_as to from (inr never) = inr (λ q. never (from q))

-- an order of numbers
pub decide_le : (m n : ℕ) → Decided (m ≤ n)
decide_le m n = elim (cases_lt n m) [ inl lt ↦ inr (λ le. omega arith) | inr le ↦ inl le ]

-- what a test finds
pub decide_test : (b : Bool) → Decided (b ≡ true)
decide_test b = elim (cases_Bool b) [ inl t ↦ inl t | inr f ↦ inr (λ t. false≢true (sym f ∙ t)) ]

-- whether two lists are the same, where it can be decided of their items
pub decide_same : {A : Type 0} → ((a b : A) → Decided (a ≡ b)) → A → (xs ys : List A) → Decided (xs ≡ ys)
decide_same each d [] [] = inl refl
decide_same each d [] (y ∷ ys) = inr (λ e. let h : 0 ≡ suc (length ys) = ap length e in omega arith)
decide_same each d (x ∷ xs) [] = inr (λ e. let h : suc (length xs) ≡ 0 = ap length e in omega arith)
decide_same each d (x ∷ xs) (y ∷ ys) =
    decide_as (λ both. ap (λ z. z ∷ xs) both.0 ∙ ap (λ zs. y ∷ zs) both.1) (λ e. (ap (λ zs. get_or zs 0 d) e, ap (drop 1) e))
    (decide_both (each x y) (decide_same each d xs ys))

-- whether two texts are the same
pub same_text : (xs ys : List ℕ) → Decided (xs ≡ ys)
same_text xs ys = decide_same cases_eq 0 xs ys

-- whether two lists of texts are the same
pub same_texts : (xs ys : List (List ℕ)) → Decided (xs ≡ ys)
same_texts xs ys = decide_same same_text [] xs ys

-- ---- one of finitely many

-- one of the values of Q has any property that can be decided, or none does
abbrev pub IsSearched : {A : Type 0} → (A → Type 0) → Type 1
IsSearched {A} Q = (P : A → Type 0) → ((x : A) → Decided (P x)) → Decided ((x : A) × Q x × P x)

-- the numbers below n
pub search_below : (n : ℕ) → IsSearched (λ i. i < n)
search_below zero P each = inr (λ found. let lt = found.1 in omega arith)
search_below (suc n) P each = elim (each n) [
  | inl here ↦ inl (n, omega arith, here)
  | inr other ↦ elim (search_below n P each) [
    | inl found ↦ let lt = found.1 in inl (found.0, omega arith, found.2)
    | inr never ↦ inr (λ found. elim (cases_lt found.0 n) [
      | inl lt ↦ never (found.0, lt, found.2)
      | inr ge ↦ let below = found.1 in let top : found.0 ≡ n = omega arith in other (subst P top found.2)
    ])
  ]
]

-- the lists of m numbers below b
abbrev pub AreBelow : ℕ → ℕ → List ℕ → Type 0
AreBelow b m xs = (length xs ≡ m) × All (λ x. x < b) xs

none_listed : (b m : ℕ) (P : List ℕ → Type 0) → ((x : ℕ) × (x < b) × ((xs : List ℕ) × AreBelow b m xs × P (x ∷ xs)) → ⊥) → (xs : List ℕ) → AreBelow b (suc m) xs → P xs → ⊥
none_listed b m P never [] are has = let long = are.0 in omega arith
none_listed b m P never (x ∷ xs) are has =
    let long = are.0 in
    never (x, are.1 0 0 (omega arith), (xs, (omega arith, All-tail (λ y. y < b) x xs are.1), has))

none_empty : (b : ℕ) (P : List ℕ → Type 0) → (P [] → ⊥) → (xs : List ℕ) → AreBelow b 0 xs → P xs → ⊥
none_empty b P never [] are has = never has
none_empty b P never (x ∷ xs) are has = let long = are.0 in omega arith

-- and of those one can be searched for
pub search_lists : (b m : ℕ) → IsSearched (AreBelow b m)
search_lists b zero P each = elim (each []) [
  | inl here ↦ inl ([], (refl, All-nil (λ x. x < b)), here)
  | inr never ↦ inr (λ found. none_empty b P never found.0 found.1 found.2)
]
search_lists b (suc m) P each =
    elim (search_below b (λ x. (xs : List ℕ) × AreBelow b m xs × P (x ∷ xs)) (λ x. search_lists b m (λ xs. P (x ∷ xs)) (λ xs. each (x ∷ xs)))) [
      | inl found ↦
          let rest = found.2 in
          let long = rest.1.0 in
          inl (found.0 ∷ rest.0, (omega arith, All-cons (λ y. y < b) found.0 rest.0 found.1 rest.1.1), rest.2)
      | inr never ↦ inr (λ found. none_listed b m P never found.0 found.1 found.2)
    ]

none_optional : {A : Type 0} (Q : A → Type 0) (P : Option A → Type 0) → (P None → ⊥) → ((x : A) × Q x × P (Some x) → ⊥) → (o : Option A) → IfSome o Q → P o → ⊥
none_optional Q P one two None valid has = one has
none_optional Q P one two (Some x) valid has = two (x, valid, has)

-- nothing, or one of those
pub search_optional : {A : Type 0} (Q : A → Type 0) → IsSearched Q → IsSearched (λ o. IfSome o Q)
search_optional Q searched P each = elim (each None) [
  | inl here ↦ inl (None, tt, here)
  | inr one ↦ elim (searched (λ x. P (Some x)) (λ x. each (Some x))) [
    | inl found ↦ inl (Some found.0, found.1, found.2)
    | inr two ↦ inr (λ found. none_optional Q P one two found.0 found.1 found.2)
  ]
]

none_class : (P : Class → Type 0) → (P Datum → ⊥) → (P Horiz → ⊥) → (P Right → ⊥) → (P Left → ⊥) → (c : Class) → P c → ⊥
none_class P one two three four Datum has = one has
none_class P one two three four Horiz has = two has
none_class P one two three four Right has = three has
none_class P one two three four Left has = four has

-- the four classes
pub search_classes : (P : Class → Type 0) → ((c : Class) → Decided (P c)) → Decided ((c : Class) × P c)
search_classes P each = elim (each Datum) [
  | inl here ↦ inl (Datum, here)
  | inr one ↦ elim (each Horiz) [
    | inl here ↦ inl (Horiz, here)
    | inr two ↦ elim (each Right) [
      | inl here ↦ inl (Right, here)
      | inr three ↦ elim (each Left) [
        | inl here ↦ inl (Left, here)
        | inr four ↦ inr (λ found. none_class P one two three four found.0 found.1)
      ]
    ]
  ]
]
