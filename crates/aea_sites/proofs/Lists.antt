-- Items that pass a test.
use Rattle.std.proofs.Common.{◌≡◌, List, [], ◌∷◌, cond, Bool, true, false, refl, sym, ◌∙◌, ap, inl, inr}
use Rattle.std.specs.Prelude.{filter, All}
use Rattle.std.proofs.lemmas.Bool.{cases_Bool}
use Rattle.std.proofs.lemmas.List.Elements.{All-head, All-tail}

passes : {X : Type 0} → (test : X → Bool) (x : X) (xs : List X) → test x ≡ true → filter test (x ∷ xs) ≡ x ∷ filter test xs
passes test x xs e = ap (λ b. cond b (x ∷ filter test xs) (filter test xs)) e

fails : {X : Type 0} → (test : X → Bool) (x : X) (xs : List X) → test x ≡ false → filter test (x ∷ xs) ≡ filter test xs
fails test x xs e = ap (λ b. cond b (x ∷ filter test xs) (filter test xs)) e

-- two tests that agree on all items of a list let the same pass
pub same-filter : {X : Type 0} → (p q : X → Bool) (xs : List X) → All (λ x. p x ≡ q x) xs → filter p xs ≡ filter q xs
same-filter p q [] all = refl
same-filter p q (x ∷ xs) all =
    let rest = same-filter p q xs (All-tail (λ y. p y ≡ q y) x xs all) in
    let here = All-head (λ y. p y ≡ q y) x xs all in
    elim (cases_Bool (q x)) [
      | inl yes' ↦ passes p x xs (here ∙ yes') ∙ ap (λ ys. x ∷ ys) rest ∙ sym (passes q x xs yes')
      | inr no' ↦ fails p x xs (here ∙ no') ∙ rest ∙ sym (fails q x xs no')
    ]

-- a test that fails everywhere lets none pass
pub none-pass : {X : Type 0} → (xs : List X) → filter (λ x. false) xs ≡ []
none-pass [] = refl
none-pass (x ∷ xs) = none-pass xs
