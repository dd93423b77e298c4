-- The list of the blocks of a lattice has each block at its number.
use Rattle.std.proofs.Common.{◌≡◌, ℕ, suc, zero, ◌+◌, ◌-◌, ◌*◌, ◌≤◌, ◌⊎◌, inl, inr, List, [], ◌∷◌, ◌++◌, map, length, length-append, arith, refl, sym, ◌∙◌, ap, Some, None, subst}
use Rattle.std.specs.Prelude.{slice_get, nat_le, filter}
use Rattle.std.proofs.lemmas.Bool.{cases_lt}
use Rattle.std.proofs.lemmas.Bool.Decides.{nat_tests}
use Rattle.aea_lattice.specs.declared.blocks.Class.{Class}
use Rattle.aea_lattice.specs.declared.blocks.Class.TheVariants.{Datum, Horiz, Right, Left}
use Rattle.aea_lattice.specs.declared.blocks.BlockId.{BlockId}
use Rattle.aea_lattice.specs.declared.grid.Lattice.{Lattice}
use Rattle.aea_lattice.specs.Blocks.{class_number, block_of, HasBlock, number_of, blocks_count, blocks_to, blocks_of}
use Rattle.aea_lattice.proofs.Equations.{block_equal}

-- the numbers of classes that there are
pub one_to_three : (l : Lattice) → (l.alpha ≡ 1) ⊎ ((l.alpha ≡ 2) ⊎ (l.alpha ≡ 3))
one_to_three l =
    let shape = l.in_profile in
    let least : 1 ≤ l.alpha = grind (arith, nat_tests) in
    let most : l.alpha ≤ 3 = grind (arith, nat_tests) in
    elim (cases_lt l.alpha 2) [
      | inl h ↦ inl (omega arith)
      | inr h ↦ inr (elim (cases_lt l.alpha 3) [ inl g ↦ inl (omega arith) | inr g ↦ inr (omega arith) ])
    ]

-- the blocks of a node, where there are so many parity classes
abbrev row_of : ℕ → ℕ → List BlockId
row_of alpha i = map (block_of i) (Datum ∷ filter (λ c. nat_le (class_number c) alpha) (Horiz ∷ Right ∷ Left ∷ []))

row_1 : (i : ℕ) (c : Class) → class_number c ≤ 1 → slice_get (row_of 1 i) (class_number c) ≡ Some (block_of i c)
row_1 i Datum used = refl
row_1 i Horiz used = refl
row_1 i Right used = absurd (omega arith)
row_1 i Left used = absurd (omega arith)

row_2 : (i : ℕ) (c : Class) → class_number c ≤ 2 → slice_get (row_of 2 i) (class_number c) ≡ Some (block_of i c)
row_2 i Datum used = refl
row_2 i Horiz used = refl
row_2 i Right used = refl
row_2 i Left used = absurd (omega arith)

row_3 : (i : ℕ) (c : Class) → slice_get (row_of 3 i) (class_number c) ≡ Some (block_of i c)
row_3 i Datum = refl
row_3 i Horiz = refl
row_3 i Right = refl
row_3 i Left = refl

-- a node has its block of each class in the place of the class
record IsRow (alpha i : ℕ) (c : Class) : Type 0 where
  pub long : length (row_of alpha i) ≡ 1 + alpha
  pub here : class_number c ≤ alpha → slice_get (row_of alpha i) (class_number c) ≡ Some (block_of i c)

is_row : (alpha i : ℕ) (c : Class) → (alpha ≡ 1) ⊎ ((alpha ≡ 2) ⊎ (alpha ≡ 3)) → IsRow alpha i c
is_row alpha i c (inl e) = subst (λ n. IsRow n i c) (sym e) (record { long = refl; here = row_1 i c })
is_row alpha i c (inr (inl e)) = subst (λ n. IsRow n i c) (sym e) (record { long = refl; here = row_2 i c })
is_row alpha i c (inr (inr e)) = subst (λ n. IsRow n i c) (sym e) (record { long = refl; here = λ used. row_3 i c })

pub length-blocks_to : (l : Lattice) (i : ℕ) → length (blocks_to l i) ≡ i * (1 + l.alpha)
length-blocks_to l zero = omega arith
length-blocks_to l (suc i) =
    length-append (blocks_to l i) (row_of l.alpha (suc i))
    ∙ (let before = length-blocks_to l i in let row = (is_row l.alpha (suc i) Datum (one_to_three l)).long in omega arith)

-- the list of the blocks of a lattice has as many items as the lattice has blocks
pub length-blocks_of : (l : Lattice) → length (blocks_of l) ≡ blocks_count l
length-blocks_of l = length-blocks_to l l.n

-- an item of the first list, and of the second
pub slice_get-append_left : {X : Type 0} → (xs ys : List X) (k : ℕ) (x : X) → slice_get xs k ≡ Some x → slice_get (xs ++ ys) k ≡ Some x
slice_get-append_left [] ys k x e = let h : None ≡ Some x = e in cc
slice_get-append_left (y ∷ xs) ys zero x e = e
slice_get-append_left (y ∷ xs) ys (suc k) x e = slice_get-append_left xs ys k x e

pub slice_get-append_right : {X : Type 0} → (xs ys : List X) (k : ℕ) → slice_get (xs ++ ys) (length xs + k) ≡ slice_get ys k
slice_get-append_right [] ys k = ap (slice_get ys) (omega arith)
slice_get-append_right (x ∷ xs) ys k =
    let e : length (x ∷ xs) + k ≡ suc (length xs + k) = omega arith in
    ap (slice_get (x ∷ (xs ++ ys))) e ∙ slice_get-append_right xs ys k

number-step : (l : Lattice) (i : ℕ) (b : BlockId) → 1 ≤ b.node → class_number b.class ≤ l.alpha → (b.node ≡ suc i) ⊎ (b.node ≤ i) → (b.node ≤ i → slice_get (blocks_to l i) (number_of l b) ≡ Some b)
    → slice_get (blocks_to l (suc i)) (number_of l b) ≡ Some b
number-step l i b first used (inr below) before = slice_get-append_left (blocks_to l i) (row_of l.alpha (suc i)) (number_of l b) b (before below)
number-step l i b first used (inl e) before =
    let place : number_of l b ≡ length (blocks_to l i) + class_number b.class =
    (let before_it : b.node - 1 ≡ i = omega arith in ap (λ n. n * (1 + l.alpha) + class_number b.class) before_it)
    ∙ ap (λ n. n + class_number b.class) (sym (length-blocks_to l i)) in
    ap (slice_get (blocks_to l (suc i))) place
    ∙ slice_get-append_right (blocks_to l i) (row_of l.alpha (suc i)) (class_number b.class)
    ∙ (is_row l.alpha (suc i) b.class (one_to_three l)).here used
    ∙ ap Some (block_equal (block_of (suc i) b.class) b (sym e) refl)

this_or_before : (k i : ℕ) → k ≤ suc i → (k ≡ suc i) ⊎ (k ≤ i)
this_or_before k i most = elim (cases_lt i k) [ inl h ↦ inl (omega arith) | inr h ↦ inr h ]

pub slice_get-blocks_to : (l : Lattice) (i : ℕ) (b : BlockId) → 1 ≤ b.node → b.node ≤ i → class_number b.class ≤ l.alpha → slice_get (blocks_to l i) (number_of l b) ≡ Some b
slice_get-blocks_to l zero b first last used = absurd (omega arith)
slice_get-blocks_to l (suc i) b first last used =
    number-step l i b first used (this_or_before b.node i last) (λ below. slice_get-blocks_to l i b first below used)

-- the list has each block at its number
pub slice_get-blocks_of : (l : Lattice) (b : BlockId) → HasBlock l b → slice_get (blocks_of l) (number_of l b) ≡ Some b
slice_get-blocks_of l b h = slice_get-blocks_to l l.n b h.first h.last h.used
