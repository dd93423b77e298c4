-- Places in lists, and items that are passed over.
use Rattle.std.proofs.Common.{◌≡◌, ℕ, zero, suc, ◌+◌, ◌<◌, ◌≤◌, List, [], ◌∷◌, length, drop, Bool, true, false, cond, Option, Some, None, refl, sym, ◌∙◌, ap, arith, inl, inr}
use Rattle.std.specs.Prelude.{slice_get, filter, All}
use Rattle.std.proofs.lemmas.Bool.{cases_Bool}
use Rattle.std.proofs.lemmas.List.Elements.{All-head, All-tail}

one_more : (k : ℕ) → k + 1 ≡ suc k
one_more k = omega arith

drop-here : {X : Type 0} → (xs : List X) (k : ℕ) (x : X) → slice_get xs k ≡ Some x → drop k xs ≡ x ∷ drop (suc k) xs
drop-here [] k x here = let h : None ≡ Some x = here in cc
drop-here (y ∷ ys) zero x here = let h : Some y ≡ Some x = here in let e : y ≡ x = cc in ap (λ z. z ∷ ys) e
drop-here (y ∷ ys) (suc k) x here = drop-here ys k x here

-- from the place of an item on
pub drop-at : {X : Type 0} → (xs : List X) (k : ℕ) (x : X) → slice_get xs k ≡ Some x → drop k xs ≡ x ∷ drop (k + 1) xs
drop-at xs k x here = drop-here xs k x here ∙ ap (λ n. x ∷ drop n xs) (sym (one_more k))

-- a place within a list has an item
pub within_some : {X : Type 0} → (xs : List X) (k : ℕ) → k < length xs → slice_get xs k ≡ None → ⊥
within_some [] k below none = omega arith
within_some (x ∷ xs) zero below none = let h : Some x ≡ None = none in cc
within_some (x ∷ xs) (suc k) below none = within_some xs k (omega arith) none

-- an item that passes stays, and one that fails does not
pub filter-passes : {X : Type 0} → (test : X → Bool) (x : X) (xs : List X) → test x ≡ true → filter test (x ∷ xs) ≡ x ∷ filter test xs
filter-passes test x xs e = ap (λ b. cond b (x ∷ filter test xs) (filter test xs)) e

pub filter-fails : {X : Type 0} → (test : X → Bool) (x : X) (xs : List X) → test x ≡ false → filter test (x ∷ xs) ≡ filter test xs
filter-fails test x xs e = ap (λ b. cond b (x ∷ filter test xs) (filter test xs)) e

skip_one : {X : Type 0} → (test : X → Bool) (xs : List X) (j : ℕ) (r : Option X) → slice_get xs j ≡ r → j < length xs
    → ((x : X) → slice_get xs j ≡ Some x → test x ≡ false) → filter test (drop (j + 1) xs) ≡ filter test (drop j xs)
skip_one test xs j None here less fails = absurd (within_some xs j less here)
skip_one test xs j (Some x) here less fails =
    sym (ap (filter test) (drop-at xs j x here) ∙ filter-fails test x (drop (j + 1) xs) (fails x here))

-- items that fail are passed over
pub skip : {X : Type 0} → (test : X → Bool) (xs : List X) (from d : ℕ) → from + d ≤ length xs
    → ((j : ℕ) (x : X) → from ≤ j → j < from + d → slice_get xs j ≡ Some x → test x ≡ false)
    → filter test (drop (from + d) xs) ≡ filter test (drop from xs)
skip test xs from zero room fail = let e : from + 0 ≡ from = omega arith in ap (λ n. filter test (drop n xs)) e
skip test xs from (suc d) room fail =
    let e : from + suc d ≡ (from + d) + 1 = omega arith in
    ap (λ n. filter test (drop n xs)) e
    ∙ skip_one test xs (from + d) (slice_get xs (from + d)) refl (omega arith) (λ x here. fail (from + d) x (omega arith) (omega arith) here)
    ∙ skip test xs from d (omega arith) (λ j x after below here. fail j x after (omega arith) here)

-- two tests that agree on all items of a list let the same pass
pub same-filter : {X : Type 0} → (p q : X → Bool) (xs : List X) → All (λ x. p x ≡ q x) xs → filter p xs ≡ filter q xs
same-filter p q [] all = refl
same-filter p q (x ∷ xs) all = elim (cases_Bool (q x)) [
  | inl passes ↦
      filter-passes p x xs (All-head (λ y. p y ≡ q y) x xs all ∙ passes)
      ∙ ap (λ ys. x ∷ ys) (same-filter p q xs (All-tail (λ y. p y ≡ q y) x xs all))
      ∙ sym (filter-passes q x xs passes)
  | inr fails ↦
      filter-fails p x xs (All-head (λ y. p y ≡ q y) x xs all ∙ fails)
      ∙ same-filter p q xs (All-tail (λ y. p y ≡ q y) x xs all)
      ∙ sym (filter-fails q x xs fails)
]
