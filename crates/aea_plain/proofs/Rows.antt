-- Lists that are made of rows of one length, and filters over the first items of a list.
use Rattle.std.proofs.Common.{◌≡◌, ℕ, zero, suc, ◌+◌, ◌-◌, ◌*◌, ◌<◌, ◌≤◌, inl, inr, Bool, true, false, cond, List, [], ◌∷◌, ◌++◌, filter, length, get_or, take, refl, sym, ◌∙◌, ap, arith}
use Rattle.std.proofs.Math.Nat.{mul-le-mul_right}
use Rattle.std.proofs.lemmas.Bool.{cases_lt}
use Rattle.std.proofs.lemmas.List.{append-nil, length-append, get_or_append_left, get_or-append-add}
use Rattle.std.proofs.lemmas.List.Elements.{filter_more}

-- a list for each i that is the rows of 1 to i, each of w items
pub record IsRows (X : Type 0) (rows : ℕ → List X) (row : ℕ → List X) (w : ℕ) : Type 0 where
  pub none : rows 0 ≡ []
  pub more : (i : ℕ) → rows (suc i) ≡ rows i ++ row (suc i)
  pub wide : (i : ℕ) → length (row i) ≡ w

-- the rows 1 to i, each of w items, have i * w items
pub length-rows : {X : Type 0} (rows row : ℕ → List X) (w : ℕ) → IsRows X rows row w → (i : ℕ) → length (rows i) ≡ i * w
length-rows rows row w h zero = ap length h.none ∙ omega arith
length-rows rows row w h (suc i) =
    let a : length (rows (suc i)) ≡ length (rows i) + length (row (suc i)) = ap length (h.more i) ∙ length-append (rows i) (row (suc i)) in
    let b : length (rows i) ≡ i * w = length-rows rows row w h i in
    let c : length (row (suc i)) ≡ w = h.wide (suc i) in omega arith

-- the item at column k of row n
pub get_or-rows : {X : Type 0} (rows row : ℕ → List X) (w : ℕ) → IsRows X rows row w → (i n k : ℕ) (d : X)
    → 1 ≤ n → n ≤ i → k < w → get_or (rows i) ((n - 1) * w + k) d ≡ get_or (row n) k d
get_or-rows rows row w h zero n k d first most below = absurd (omega arith)
get_or-rows rows row w h (suc i) n k d first most below =
    let long : length (rows i) ≡ i * w = length-rows rows row w h i in
    ap (λ xs. get_or xs ((n - 1) * w + k) d) (h.more i)
    ∙ elim (cases_lt i n) [
      | inl last ↦
          let here : n ≡ suc i = omega arith in
          let before : n - 1 ≡ i = omega arith in
          let place : (n - 1) * w + k ≡ length (rows i) + k = ap (λ m. m * w + k) before ∙ ap (λ m. m + k) (sym long) in
          ap (λ m. get_or (rows i ++ row (suc i)) m d) place
          ∙ get_or-append-add (rows i) (row (suc i)) k d
          ∙ ap (λ m. get_or (row m) k d) (sym here)
      | inr earlier ↦
          let rows_before : (n - 1 + 1) * w ≤ i * w = (let m : n - 1 + 1 ≤ i = omega arith in mul-le-mul_right w m) in
          let inside : (n - 1) * w + k < length (rows i) = omega arith in
          get_or_append_left (rows i) (row (suc i)) d ((n - 1) * w + k) inside
          ∙ get_or-rows rows row w h i n k d first earlier below
    ]

kept : {X : Type 0} (b : Bool) (xs : List X) (x : X) → b ≡ true → xs ++ cond b (x ∷ []) [] ≡ xs ++ x ∷ []
kept true xs x e = refl
kept false xs x e = absurd (cc)

dropped : {X : Type 0} (b : Bool) (xs : List X) (x : X) → b ≡ false → xs ++ cond b (x ∷ []) [] ≡ xs
dropped false xs x e = append-nil xs
dropped true xs x e = absurd (cc)

-- one more item that passes the test, or that does not
pub filter-take_kept : {X : Type 0} (p : X → Bool) (xs : List X) (i : ℕ) (x : X) → i < length xs → get_or xs i x ≡ x → p x ≡ true
    → filter p (take (i + 1) xs) ≡ filter p (take i xs) ++ x ∷ []
filter-take_kept p xs i x inside is passes =
    filter_more p xs i x inside
    ∙ ap (λ y. filter p (take i xs) ++ cond (p y) (y ∷ []) []) is
    ∙ kept (p x) (filter p (take i xs)) x passes

-- one more item, which fails a test, adds nothing to those of the first items that pass it
pub filter-take_dropped : {X : Type 0} (p : X → Bool) (xs : List X) (i : ℕ) (x : X) → i < length xs → get_or xs i x ≡ x → p x ≡ false
    → filter p (take (i + 1) xs) ≡ filter p (take i xs)
filter-take_dropped p xs i x inside is fails =
    filter_more p xs i x inside
    ∙ ap (λ y. filter p (take i xs) ++ cond (p y) (y ∷ []) []) is
    ∙ dropped (p x) (filter p (take i xs)) x fails
