-- The cases, one after the other, as loops go over them.
use Rattle.std.proofs.Common.{◌≡◌, ◌≢◌, ℕ, zero, suc, ◌+◌, ◌-◌, ◌<◌, ◌≤◌, arith, List, [], ◌∷◌, ◌++◌, codes, decimal, refl, ◌∙◌, ap}
use Rattle.std.specs.Prelude.{◌==◌, map}
use Rattle.std.specs.List.{range_with_len, flat_map}
use Rattle.std.proofs.lemmas.Bool.{eqb-true, false_from_ne_true}
use Rattle.std.proofs.lemmas.List.{append-nil, map-append}
use Rattle.std.proofs.lemmas.List.Concat.{flat_map-append}
use Rattle.aea_command_loss.specs.Sites.{case_text}

-- the text of a case of two sites
pub pair_text : (a b : ℕ) → a ≢ b → case_text (a, b) ≡ (codes "pair " ++ decimal a) ++ (codes " " ++ decimal b)
pair_text a b differs = rw (false_from_ne_true (a == b) (λ e. differs (eqb-true a b e)))

range-same : (a b m n : ℕ) → a ≡ b → m ≡ n → range_with_len a m ≡ range_with_len b n
range-same a b m n start len = rw (start, len)

-- the first k numbers, and the others
range-split : (a k n : ℕ) → k ≤ n → range_with_len a n ≡ range_with_len a k ++ range_with_len (a + k) (n - k)
range-split a zero n few = range-same a (a + 0) n (n - 0) (omega arith) (omega arith)
range-split a (suc k) zero few = absurd (omega arith)
range-split a (suc k) (suc n) few =
    ap (λ (xs : List ℕ). a ∷ xs)
    (range-split (a + 1) k n (omega arith) ∙ ap (λ (xs : List ℕ). range_with_len (a + 1) k ++ xs) (range-same (a + 1 + k) (a + suc k) (n - k) (suc n - suc k) (omega arith) (omega arith)))

-- one number more
range-more : (a k : ℕ) → range_with_len a (k + 1) ≡ range_with_len a k ++ (a + k) ∷ []
range-more a k =
    range-split a k (k + 1) (omega arith) ∙ ap (λ (xs : List ℕ). range_with_len a k ++ xs) (range-same (a + k) (a + k) (k + 1 - k) 1 refl (omega arith))

-- the numbers around one of them
range-around : (a k n : ℕ) → k < n → range_with_len a n ≡ (range_with_len a k ++ (a + k) ∷ []) ++ range_with_len (a + (k + 1)) (n - (k + 1))
range-around a k n less =
    range-split a (k + 1) n (omega arith) ∙ ap (λ (xs : List ℕ). xs ++ range_with_len (a + (k + 1)) (n - (k + 1))) (range-more a k)

module _ {X : Type 0} (f : ℕ → X) (a k : ℕ) where
  pub map_more : map f (range_with_len a (k + 1)) ≡ map f (range_with_len a k) ++ f (a + k) ∷ []
  map_more = ap (map f) (range-more a k) ∙ map-append f (range_with_len a k) ((a + k) ∷ [])

  pub map_around : (n : ℕ) → k < n → map f (range_with_len a n) ≡ (map f (range_with_len a k) ++ f (a + k) ∷ []) ++ map f (range_with_len (a + (k + 1)) (n - (k + 1)))
  map_around n less =
      ap (map f) (range-around a k n less) ∙ map-append f (range_with_len a k ++ (a + k) ∷ []) (range_with_len (a + (k + 1)) (n - (k + 1)))
      ∙ ap (λ (xs : List X). xs ++ map f (range_with_len (a + (k + 1)) (n - (k + 1)))) (map-append f (range_with_len a k) ((a + k) ∷ []))

module _ {X : Type 0} (f : ℕ → List X) (a k : ℕ) where
  flat_one : (xs : List ℕ) → flat_map f (xs ++ (a + k) ∷ []) ≡ flat_map f xs ++ f (a + k)
  flat_one xs = flat_map-append f xs ((a + k) ∷ []) ∙ ap (λ (ys : List X). flat_map f xs ++ ys) (append-nil (f (a + k)))

  pub flat_more : flat_map f (range_with_len a (k + 1)) ≡ flat_map f (range_with_len a k) ++ f (a + k)
  flat_more = ap (flat_map f) (range-more a k) ∙ flat_one (range_with_len a k)

  pub flat_around : (n : ℕ) → k < n → flat_map f (range_with_len a n) ≡ (flat_map f (range_with_len a k) ++ f (a + k)) ++ flat_map f (range_with_len (a + (k + 1)) (n - (k + 1)))
  flat_around n less =
      ap (flat_map f) (range-around a k n less) ∙ flat_map-append f (range_with_len a k ++ (a + k) ∷ []) (range_with_len (a + (k + 1)) (n - (k + 1)))
      ∙ ap (λ (xs : List X). xs ++ flat_map f (range_with_len (a + (k + 1)) (n - (k + 1)))) (flat_one (range_with_len a k))
