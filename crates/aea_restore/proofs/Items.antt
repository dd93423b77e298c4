-- Lists that are gone through by their places.
use Rattle.std.proofs.Common.{◌≡◌, ℕ, zero, suc, ◌+◌, ◌<◌, ◌≤◌, List, [], ◌∷◌, ◌++◌, take, arith, length, Some, None, refl, ◌∙◌, ap, subst}
use Rattle.std.specs.Prelude.{slice_get, All}
use Rattle.std.proofs.lemmas.List.Elements.{All-head, All-tail}

-- the first items, and the next one
pub take_next : {A : Type 0} → (xs : List A) (x : A) (k : ℕ) → slice_get xs k ≡ Some x → take (suc k) xs ≡ take k xs ++ x ∷ []
take_next [] x k is = let h : None ≡ Some x = is in cc
take_next (y ∷ ys) x zero is = let h : Some y ≡ Some x = is in (let e : y ≡ x = cc in ap (λ z. z ∷ []) e)
take_next (y ∷ ys) x (suc k) is = ap (λ zs. y ∷ zs) (take_next ys x k is)

pub take_more : {A : Type 0} → (xs : List A) (x : A) (k : ℕ) → slice_get xs k ≡ Some x → take (k + 1) xs ≡ take k xs ++ x ∷ []
take_more xs x k is = let e : k + 1 ≡ suc k = omega arith in ap (λ (n : ℕ). take n xs) e ∙ take_next xs x k is

-- below the length there is an item
pub got_some : {A : Type 0} → (xs : List A) (k : ℕ) → k < length xs → slice_get xs k ≡ None → ⊥
got_some [] k inside is = omega (arith, inside)
got_some (x ∷ xs) zero inside is = let h : Some x ≡ None = is in cc
got_some (x ∷ xs) (suc k) inside is = got_some xs k (omega (arith, inside)) is

-- and it has what all items have
pub item_has : {A : Type 0} → (P : A → Type 0) (xs : List A) (x : A) (k : ℕ) → slice_get xs k ≡ Some x → All P xs → P x
item_has P [] x k is all = let h : None ≡ Some x = is in cc
item_has P (y ∷ ys) x zero is all = let h : Some y ≡ Some x = is in (let e : y ≡ x = cc in subst P e (All-head P y ys all))
item_has P (y ∷ ys) x (suc k) is all = item_has P ys x k is (All-tail P y ys all)

-- all items
pub take_whole : {A : Type 0} → (xs : List A) (k : ℕ) → length xs ≤ k → take k xs ≡ xs
take_whole [] zero most = refl
take_whole [] (suc k) most = refl
take_whole (x ∷ xs) zero most = absurd (omega (arith, most))
take_whole (x ∷ xs) (suc k) most = ap (λ zs. x ∷ zs) (take_whole xs k (omega (arith, most)))
