-- Entries taken in the order of a list of indices.
use Rattle.std.proofs.Common.{◌≡◌, ℕ, ◌<◌, List, [], ◌∷◌, ◌++◌, length, get_or, map, take, drop, sym, refl, ◌∙◌}
use Rattle.std.specs.List.{insert, All}
use Rattle.std.proofs.lemmas.List.{get_or_append_left, map-append, take-map, drop-map}
use Rattle.std.proofs.lemmas.List.Elements.{All-head, All-tail, All-append, All-take, All-drop, All-cons}
use Rattle.std.proofs.Math.Seq.{get_or-append_seam}

-- a function of each element of a list into which one was inserted
map-insert : {X Y : Type 0} (f : X → Y) (xs : List X) (i : ℕ) (x : X) → map f (insert xs i x) ≡ insert (map f xs) i (f x)
map-insert f xs i x = map-append f (take i xs) (x ∷ drop i xs) ∙ (λ j. sym (take-map f i xs) j ++ f x ∷ sym (drop-map f i xs) j)

-- what holds of each element and of one more holds of each after that one was inserted
pub All-insert : {X : Type 0} (P : X → Type 0) (xs : List X) (i : ℕ) (x : X) → All P xs → P x → All P (insert xs i x)
All-insert P xs i x each here = All-append P (take i xs) (x ∷ drop i xs) (All-take P i xs each) (All-cons P x (drop i xs) here (All-drop P i xs each))

module _ {X : Type 0} (d : X) where
  -- further entries change none of those that were there
  picked-append : (xs ys : List X) (order : List ℕ) → All (λ k. k < length xs) order → map (λ k. get_or (xs ++ ys) k d) order ≡ map (λ k. get_or xs k d) order
  picked-append xs ys [] within = refl
  picked-append xs ys (k ∷ order) within =
      let here = get_or_append_left xs ys d k (All-head (λ k. k < length xs) k order within) in
      let rest = picked-append xs ys order (All-tail (λ k. k < length xs) k order within) in
      λ j. here j ∷ rest j

  -- a new entry whose index is inserted is there among the others
  pub picked-insert : (xs : List X) (x : X) (order : List ℕ) (i : ℕ) → All (λ k. k < length xs) order → map (λ k. get_or (xs ++ x ∷ []) k d) (insert order i (length xs)) ≡ insert (map (λ k. get_or xs k d) order) i x
  picked-insert xs x order i within =
      map-insert (λ k. get_or (xs ++ x ∷ []) k d) order i (length xs)
      ∙ (λ j. insert (picked-append xs (x ∷ []) order within j) i (get_or-append_seam xs x [] d j))
