-- Lists in which each item is above those before it: the blocks and the equations of a lattice.
use Rattle.std.proofs.Common.{◌≡◌, ℕ, zero, suc, ◌+◌, ◌-◌, ◌*◌, ◌<◌, ◌≤◌, Bool, true, false, List, [], ◌∷◌, ◌++◌, map, filter, length, get_or, Option, Some, None, refl, sym, ◌∙◌, ap, subst, arith, inl, inr}
use Rattle.std.specs.Prelude.{cond, nat_le, option_map}
use Rattle.std.proofs.lemmas.Bool.{cases_Bool}
use Rattle.aea_lattice.specs.declared.blocks.Class.{Class}
use Rattle.aea_lattice.specs.declared.blocks.Class.TheVariants.{Datum, Horiz, Right, Left}
use Rattle.aea_lattice.specs.declared.grid.Lattice.{Lattice}
use Rattle.aea_lattice.specs.Blocks.{class_number, block_of, HasParity, number_of, classes, blocks_of, block_at}
use Rattle.aea_lattice.specs.Equations.{equation_of, equations_to, equations_of}
use Rattle.aea_lattice.proofs.Numbers.{length-blocks_of}
use Rattle.aea_lattice.proofs.Odd.{Each, Each-append, Each-more, Each-map}
use Rattle.aea_lattice.proofs.Once.{each-classes}
use Rattle.aea_lattice.proofs.BlockAt.{number-block_at}
use Rattle.aea_fates.specs.Sums.{output_number}

-- each number is above those before it, and none is below `low`
abbrev pub RisesFrom : {A : Type 0} → (A → ℕ) → ℕ → List A → Type 0
RisesFrom f low [] = Unit {0}
RisesFrom f low (x ∷ xs) = (low ≤ f x) × RisesFrom f (suc (f x)) xs

rises-less : {A : Type 0} → (f : A → ℕ) (low least : ℕ) (xs : List A) → least ≤ low → RisesFrom f low xs → RisesFrom f least xs
rises-less f low least [] le h = tt
rises-less f low least (x ∷ xs) le h = (let first = h.0 in omega arith, h.1)

-- the items that are kept of a rising list rise
pub rises-filter : {A : Type 0} → (f : A → ℕ) (p : A → Bool) (low : ℕ) (xs : List A) → RisesFrom f low xs → RisesFrom f low (filter p xs)
rises-filter f p low [] h = tt
rises-filter f p low (x ∷ xs) h =
    let rest = rises-filter f p (suc (f x)) xs h.1 in
    elim (cases_Bool (p x)) [
      | inl yes' ↦ rw yes' (h.0, rest)
      | inr no' ↦ rw no' (rises-less f (suc (f x)) low (filter p xs) (let first = h.0 in omega arith) rest)
    ]

rises-append : {A : Type 0} → (f : A → ℕ) (low mid : ℕ) (xs ys : List A) → low ≤ mid → RisesFrom f low xs → Each (λ x. f x < mid) xs → RisesFrom f mid ys
    → RisesFrom f low (xs ++ ys)
rises-append f low mid [] ys le hx each hy = rises-less f mid low ys le hy
rises-append f low mid (x ∷ xs) ys le hx each hy =
    (hx.0, rises-append f (suc (f x)) mid xs ys (let first = each.0 in omega arith) hx.1 each.1 hy)

rises-map : {A B : Type 0} → (g : A → B) (f : B → ℕ) (low : ℕ) (xs : List A) → RisesFrom (λ x. f (g x)) low xs → RisesFrom f low (map g xs)
rises-map g f low [] h = tt
rises-map g f low (x ∷ xs) h = (h.0, rises-map g f (suc (f (g x))) xs h.1)

rises-above : {A : Type 0} → (f : A → ℕ) (low : ℕ) (xs : List A) (d : A) → RisesFrom f low xs → (j : ℕ) → j < length xs → low ≤ f (get_or xs j d)
rises-above f low [] d h j less = absurd (omega arith)
rises-above f low (x ∷ xs) d h zero less = h.0
rises-above f low (x ∷ xs) d h (suc j) less =
    let rest = rises-above f (suc (f x)) xs d h.1 j (omega arith) in
    let first = h.0 in
    omega arith

-- an item is below each later one
pub rises-at : {A : Type 0} → (f : A → ℕ) (low : ℕ) (xs : List A) (d : A) → RisesFrom f low xs → (i j : ℕ) → i < j → j < length xs
    → f (get_or xs i d) < f (get_or xs j d)
rises-at f low [] d h i j less inside = absurd (omega arith)
rises-at f low (x ∷ xs) d h i zero less inside = absurd (omega arith)
rises-at f low (x ∷ xs) d h zero (suc j) less inside = let rest = rises-above f (suc (f x)) xs d h.1 j (omega arith) in omega arith
rises-at f low (x ∷ xs) d h (suc i) (suc j) less inside = rises-at f (suc (f x)) xs d h.1 i j (omega arith) (omega arith)

rises-index : {A : Type 0} → (f : A → ℕ) (low : ℕ) (xs : List A) (d : A) → ((k : ℕ) → k < length xs → f (get_or xs k d) ≡ low + k) → RisesFrom f low xs
rises-index f low [] d h = tt
rises-index f low (x ∷ xs) d h =
    let first : f x ≡ low + 0 = h 0 (omega arith) in (
      omega arith,
      rises-index f (suc (f x)) xs d (λ k less. let rest : f (get_or xs k d) ≡ low + suc k = h (suc k) (omega arith) in omega arith),
    )

-- the blocks of a lattice rise by their numbers
pub blocks-rise : (l : Lattice) → RisesFrom (number_of l) 0 (blocks_of l)
blocks-rise l =
    rises-index (number_of l) 0 (blocks_of l) (block_of 0 Datum)
    (λ k less. (let long = length-blocks_of l in let h : number_of l (block_at l k) ≡ k = number-block_at l k (omega arith) in omega arith))

equations-below : (l : Lattice) (i : ℕ) → Each (λ e. output_number l e < i * (1 + l.alpha)) (equations_to l i)
equations-below l zero = tt
equations-below l (suc i) =
    Each-append (λ e. output_number l e < suc i * (1 + l.alpha)) (equations_to l i) (map (equation_of (suc i)) (classes l))
    (Each-more (λ e. output_number l e < i * (1 + l.alpha)) (λ e. output_number l e < suc i * (1 + l.alpha)) (equations_to l i)
    (λ e less. omega arith) (equations-below l i))
    (Each-map (equation_of (suc i)) (λ e. output_number l e < suc i * (1 + l.alpha)) (classes l)
    (Each-more (HasParity l) (λ c. output_number l (equation_of (suc i) c) < suc i * (1 + l.alpha)) (classes l)
    (λ c h.
    (let used = h.used in
    let before : (suc i - 1) * (1 + l.alpha) ≡ i * (1 + l.alpha) = (let e : suc i - 1 ≡ i = omega arith in ap (λ n. n * (1 + l.alpha)) e) in
    omega arith)) (each-classes l)))

equations-rise_to : (l : Lattice) (i : ℕ) → RisesFrom (output_number l) 0 (equations_to l i)
equations-rise_to l zero = tt
equations-rise_to l (suc i) =
    let before : (suc i - 1) * (1 + l.alpha) ≡ i * (1 + l.alpha) = (let e : suc i - 1 ≡ i = omega arith in ap (λ n. n * (1 + l.alpha)) e) in
    let at : Class → ℕ = λ c. output_number l (equation_of (suc i) c) in
    rises-append (output_number l) 0 (i * (1 + l.alpha)) (equations_to l i) (map (equation_of (suc i)) (classes l)) (omega arith)
    (equations-rise_to l i) (equations-below l i)
    (rises-map (equation_of (suc i)) (output_number l) (i * (1 + l.alpha)) (classes l)
    (rises-filter at (λ c. nat_le (class_number c) l.alpha) (i * (1 + l.alpha)) (Horiz ∷ Right ∷ Left ∷ [])
    (omega arith, (omega arith, (omega arith, tt)))))

-- the equations of a lattice rise by their outputs
pub equations-rise : (l : Lattice) → RisesFrom (output_number l) 0 (equations_of l)
equations-rise l = equations-rise_to l l.n

-- ---- the place of an item

abbrev pub index_of : {A : Type 0} → (A → Bool) → List A → Option ℕ
index_of p [] = None
index_of p (x ∷ xs) = cond (p x) (Some 0) (option_map (λ j. suc j) (index_of p xs))

-- an item that passes, at its place
pub record IsIndex {A : Type 0} (p : A → Bool) (xs : List A) (d : A) (j : ℕ) : Type 0 where
  pub inside : j < length xs
  pub passes : p (get_or xs j d) ≡ true

next_index : {A : Type 0} → (p : A → Bool) (x : A) (xs : List A) (d : A) (o : Option ℕ) → ((j : ℕ) → o ≡ Some j → IsIndex p xs d j)
    → (j : ℕ) → option_map (λ j. suc j) o ≡ Some j → IsIndex p (x ∷ xs) d j
next_index p x xs d None h j is = absurd (cc)
next_index p x xs d (Some i) h j is =
    let same : suc i ≡ j = cc in
    let rest = h i refl in
    subst (IsIndex p (x ∷ xs) d) same (record { inside = (let less = rest.inside in omega arith); passes = rest.passes })

-- where index_of finds a place, it is one of the list and the item there passes
pub index-some : {A : Type 0} → (p : A → Bool) (xs : List A) (d : A) (j : ℕ) → index_of p xs ≡ Some j → IsIndex p xs d j
index-some p [] d j is = absurd (cc)
index-some p (x ∷ xs) d j is =
    elim (cases_Bool (p x)) [
      | inl yes' ↦
          (let first : ◌≡◌ {A = Option ℕ} (Some 0) (Some j) = sym (ap (λ b. cond b (Some 0) (option_map (λ j. suc j) (index_of p xs))) yes') ∙ is in
          let same : 0 ≡ j = cc in
          subst (IsIndex p (x ∷ xs) d) same (record { inside = omega arith; passes = yes' }))
      | inr no' ↦
          (let rest : option_map (λ j. suc j) (index_of p xs) ≡ Some j = sym (ap (λ b. cond b (Some 0) (option_map (λ j. suc j) (index_of p xs))) no') ∙ is in
          next_index p x xs d (index_of p xs) (λ i h. index-some p xs d i h) j rest)
    ]

-- where the item at place j passes and none before it does, index_of finds j
pub index-at : {A : Type 0} → (p : A → Bool) (xs : List A) (d : A) (j : ℕ) → j < length xs → p (get_or xs j d) ≡ true
    → ((i : ℕ) → i < j → p (get_or xs i d) ≡ false) → index_of p xs ≡ Some j
index-at p [] d j inside passes before = absurd (omega arith)
index-at p (x ∷ xs) d zero inside passes before = ap (λ b. cond b (Some 0) (option_map (λ j. suc j) (index_of p xs))) passes
index-at p (x ∷ xs) d (suc j) inside passes before =
    ap (λ b. cond b (Some 0) (option_map (λ j. suc j) (index_of p xs))) (before 0 (omega arith))
    ∙ ap (option_map (λ j. suc j)) (index-at p xs d j (omega arith) passes (λ i less. before (suc i) (omega arith)))

-- where index_of finds no place, no item of the list passes
pub index-none : {A : Type 0} → (p : A → Bool) (xs : List A) (d : A) → index_of p xs ≡ None → (j : ℕ) → j < length xs → p (get_or xs j d) ≡ false
index-none p [] d is j inside = absurd (omega arith)
index-none p (x ∷ xs) d is j inside =
    elim (cases_Bool (p x)) [
      | inl yes' ↦
          (let first : ◌≡◌ {A = Option ℕ} (Some 0) None = sym (ap (λ b. cond b (Some 0) (option_map (λ j. suc j) (index_of p xs))) yes') ∙ is in
          absurd (cc))
      | inr no' ↦
          (let rest : option_map (λ j. suc j) (index_of p xs) ≡ None = sym (ap (λ b. cond b (Some 0) (option_map (λ j. suc j) (index_of p xs))) no') ∙ is in
          at j inside no' (λ k less. index-none p xs d (none_of (index_of p xs) rest) k less))
    ]
  where
    none_of : (o : Option ℕ) → option_map (λ j. suc j) o ≡ None → o ≡ None
    none_of None h = refl
    none_of (Some i) h = absurd (cc)

    at : (j : ℕ) → j < length (x ∷ xs) → p x ≡ false → ((k : ℕ) → k < length xs → p (get_or xs k d) ≡ false) → p (get_or (x ∷ xs) j d) ≡ false
    at zero less no' rest = no'
    at (suc j) less no' rest = rest j (omega arith)
