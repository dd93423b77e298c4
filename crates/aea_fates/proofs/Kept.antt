-- The items of a list that pass a test, and whether an item is among them.
use Rattle.std.proofs.Common.{◌≡◌, Bool, true, false, ◌&&◌, List, [], ◌∷◌, filter, refl, sym, ◌∙◌, ap, inl, inr}
use Rattle.std.specs.List.{list_any}
use Rattle.std.proofs.lemmas.Bool.{cases_Bool, or_cases, or_left, or_right, true≢false, false≢true, false_from_ne_true}
use Rattle.aea_lattice.specs.Equations.{is_odd_count}
use Rattle.aea_lattice.specs.Parity.{differ}
use Rattle.aea_lattice.proofs.Odd.{odd-cons, Each}

-- an odd number of the items kept by q passes p exactly where an odd number of all items passes both
pub odd-filter : {A : Type 0} → (p q : A → Bool) (xs : List A) → is_odd_count p (filter q xs) ≡ is_odd_count (λ x. q x && p x) xs
odd-filter p q [] = refl
odd-filter p q (x ∷ xs) =
    elim (cases_Bool (q x)) [
      | inl yes' ↦ (rw yes' (odd-cons p x (filter q xs) ∙ ap (differ (p x)) (odd-filter p q xs))) ∙ ap (λ b. differ (b && p x) (is_odd_count (λ y. q y && p y) xs)) (sym yes') ∙ sym (odd-cons (λ y. q y && p y) x xs)
      | inr no' ↦ (rw no' (odd-filter p q xs)) ∙ ap (λ b. differ (b && p x) (is_odd_count (λ y. q y && p y) xs)) (sym no') ∙ sym (odd-cons (λ y. q y && p y) x xs)
    ]

-- a test for an item that finds no other
pub record IsSame {A : Type 0} (same : A → A → Bool) : Type 0 where
  pub itself : (x : A) → same x x ≡ true
  pub equal : (x y : A) → same x y ≡ true → x ≡ y

module _ {A : Type 0} (same : A → A → Bool) (is : IsSame same) (p : A → Bool) where
  any-passes : (x : A) (xs : List A) → list_any (same x) (filter p xs) ≡ true → p x ≡ true
  any-passes x [] h = absurd (false≢true h)
  any-passes x (y ∷ ys) h =
      elim (cases_Bool (p y)) [
        | inl yes' ↦ elim (or_cases (same x y) (list_any (same x) (filter p ys)) (rw yes' at h)) [
          | inl here ↦ ap p (is.equal x y here) ∙ yes'
          | inr there ↦ any-passes x ys there
        ]
        | inr no' ↦ any-passes x ys (rw no' at h)
      ]

  any-kept : (x : A) (xs : List A) → list_any (same x) xs ≡ true → p x ≡ true → list_any (same x) (filter p xs) ≡ true
  any-kept x [] h passes = absurd (false≢true h)
  any-kept x (y ∷ ys) h passes =
      elim (or_cases (same x y) (list_any (same x) ys) h) [
        | inl here ↦ (let py : p y ≡ true = sym (ap p (is.equal x y here)) ∙ passes in rw py (or_left (same x y) (list_any (same x) (filter p ys)) here))
        | inr there ↦ elim (cases_Bool (p y)) [
          | inl yes' ↦ rw yes' (or_right (same x y) (list_any (same x) (filter p ys)) (any-kept x ys there passes))
          | inr no' ↦ rw no' (any-kept x ys there passes)
        ]
      ]

  -- an item of the list is among the kept ones exactly where it passes
  pub any-filter : (x : A) (xs : List A) → list_any (same x) xs ≡ true → list_any (same x) (filter p xs) ≡ p x
  any-filter x xs h =
      elim (cases_Bool (p x)) [
        | inl yes' ↦ any-kept x xs h yes' ∙ sym yes'
        | inr no' ↦ false_from_ne_true (list_any (same x) (filter p xs)) (λ t. true≢false (sym (any-passes x xs t) ∙ no')) ∙ sym no'
      ]

  each-any : (xs : List A) → Each (λ x. list_any (same x) xs ≡ true) xs
  each-any xs = each-any_in xs xs (λ x h. h)
    where
      each-any_in : (ys xs : List A) → ((x : A) → list_any (same x) ys ≡ true → list_any (same x) xs ≡ true) → Each (λ x. list_any (same x) xs ≡ true) ys
      each-any_in [] xs h = tt
      each-any_in (y ∷ ys) xs h = (
        h y (or_left (same y y) (list_any (same y) ys) (is.itself y)),
        each-any_in ys xs (λ x g. h x (or_right (same x y) (list_any (same x) ys) g)),
      )

  filter-same : (q : A → Bool) (xs : List A) → Each (λ x. q x ≡ p x) xs → filter q xs ≡ filter p xs
  filter-same q [] h = refl
  filter-same q (x ∷ xs) h =
      elim (cases_Bool (p x)) [
        | inl yes' ↦ (let qx : q x ≡ true = h.0 ∙ yes' in rw (qx, yes') (ap (λ ys. x ∷ ys) (filter-same q xs h.1)))
        | inr no' ↦ (let qx : q x ≡ false = h.0 ∙ no' in rw (qx, no') (filter-same q xs h.1))
      ]

  each-filtered : (ys xs : List A) → Each (λ x. list_any (same x) xs ≡ true) ys → Each (λ x. list_any (same x) (filter p xs) ≡ p x) ys
  each-filtered [] xs h = tt
  each-filtered (y ∷ ys) xs h = (any-filter y xs h.0, each-filtered ys xs h.1)

  -- what is among the kept items, in the order of the list, is the kept items
  pub filter-ordered : (xs : List A) → filter p xs ≡ filter (λ x. list_any (same x) (filter p xs)) xs
  filter-ordered xs = sym (filter-same (λ x. list_any (same x) (filter p xs)) xs (each-filtered xs xs (each-any xs)))
