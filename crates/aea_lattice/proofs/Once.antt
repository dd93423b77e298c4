-- Each block and each equation of a lattice is once in its list.
use Rattle.std.proofs.Common.{◌≡◌, ℕ, zero, suc, ◌≤◌, ◌⊎◌, Bool, true, false, ◌&&◌, ◌||◌, ◌==◌, List, [], ◌∷◌, ◌++◌, map, filter, refl, sym, ◌∙◌, ap, subst, arith, inl, inr}
use Rattle.std.specs.Prelude.{nat_le}
use Rattle.std.proofs.lemmas.Bool.{cases_eq, cases_lt, eq-eqb, ne_eqb, eqb-true, cases_Bool, and_parts, le-leb, lt-leb, leb-true}
use Rattle.aea_lattice.specs.declared.blocks.Class.{Class}
use Rattle.aea_lattice.specs.declared.blocks.Class.TheVariants.{Datum, Horiz, Right, Left}
use Rattle.aea_lattice.specs.declared.blocks.BlockId.{BlockId}
use Rattle.aea_lattice.specs.declared.blocks.EqId.{EqId}
use Rattle.aea_lattice.specs.declared.grid.Lattice.{Lattice}
use Rattle.aea_lattice.specs.Blocks.{class_number, block_of, same_block, HasBlock, HasParity, classes, blocks_to, blocks_of}
use Rattle.aea_lattice.specs.Equations.{HasEquation, equation_of, equations_to, equations_of, is_odd_count}
use Rattle.aea_lattice.specs.Parity.{differ}
use Rattle.aea_lattice.proofs.Numbers.{one_to_three}
use Rattle.aea_lattice.proofs.Equations.{class_number-equal, same_block-equal}
use Rattle.aea_lattice.specs.Lists.{same_equation}
use Rattle.aea_lattice.proofs.Odd.{same_test, odd-append, odd-map, odd-none, odd-and, Each, Each-append, Each-map, Each-more}

-- the items of the nodes 1 to i and of these classes
abbrev pub items_to : {X : Type 0} → (ℕ → Class → X) → List Class → ℕ → List X
items_to make cs zero = []
items_to make cs (suc i) = items_to make cs i ++ map (make (suc i)) cs

blocks-items : (l : Lattice) (i : ℕ) → blocks_to l i ≡ items_to block_of (Datum ∷ classes l) i
blocks-items l zero = refl
blocks-items l (suc i) = ap (λ bs. bs ++ map (block_of (suc i)) (Datum ∷ classes l)) (blocks-items l i)

equations-items : (l : Lattice) (i : ℕ) → equations_to l i ≡ items_to equation_of (classes l) i
equations-items l zero = refl
equations-items l (suc i) = ap (λ es. es ++ map (equation_of (suc i)) (classes l)) (equations-items l i)

-- the test for the item of this node and of the class of this number
abbrev is_item : ℕ → ℕ → ℕ → Class → Bool
is_item node number i c = node == i && number == class_number c

-- a test that is so on each made item
abbrev Tests : {X : Type 0} → (ℕ → Class → X) → (X → Bool) → ℕ → ℕ → Type 0
Tests make s node number = (i : ℕ) (c : Class) → s (make i c) ≡ is_item node number i c

odd-row : (here : Bool) (number : ℕ) (cs : List Class) → is_odd_count (λ c. number == class_number c) cs ≡ true
    → is_odd_count (λ c. here && number == class_number c) cs ≡ here
odd-row true number cs once = once
odd-row false number cs once = odd-none cs

odd-items_row : {X : Type 0} → (make : ℕ → Class → X) (cs : List Class) (s : X → Bool) (node number i : ℕ) → Tests make s node number
    → is_odd_count (λ c. number == class_number c) cs ≡ true
    → is_odd_count s (map (make i) cs) ≡ (node == i)
odd-items_row make cs s node number i tests once =
    odd-map (make i) s cs
    ∙ ap (λ p. is_odd_count p cs) (same_test (λ c. s (make i c)) (λ c. node == i && number == class_number c) (tests i))
    ∙ odd-row (node == i) number cs once

differ-or : (a b : Bool) → (a ≡ true → b ≡ true → ⊥) → differ a b ≡ (a || b)
differ-or true true h = absurd (h refl refl)
differ-or true false h = refl
differ-or false b h = refl

le-suc : (node i : ℕ) → (nat_le node i || node == suc i) ≡ nat_le node (suc i)
le-suc node i =
    elim (cases_lt i node) [
      | inl above ↦ elim (cases_eq node (suc i)) [
        | inl same ↦ let e : nat_le node i ≡ false = lt-leb node i above in rw e (eq-eqb node (suc i) same ∙ sym (le-leb node (suc i) (omega arith)))
        | inr other ↦ let e : nat_le node i ≡ false = lt-leb node i above in rw e (ne_eqb node (suc i) other ∙ sym (lt-leb node (suc i) (omega arith)))
      ]
      | inr below ↦ let e : nat_le node i ≡ true = le-leb node i below in rw e (sym (le-leb node (suc i) (omega arith)))
    ]

odd-items : {X : Type 0} → (make : ℕ → Class → X) (cs : List Class) (s : X → Bool) (node number i : ℕ) → Tests make s node number
    → is_odd_count (λ c. number == class_number c) cs ≡ true → 1 ≤ node
    → is_odd_count s (items_to make cs i) ≡ nat_le node i
odd-items make cs s node number zero tests once first = sym (lt-leb node 0 first)
odd-items make cs s node number (suc i) tests once first =
    odd-append s (items_to make cs i) (map (make (suc i)) cs)
    ∙ ap (λ b. differ b (is_odd_count s (map (make (suc i)) cs))) (odd-items make cs s node number i tests once first)
    ∙ ap (differ (nat_le node i)) (odd-items_row make cs s node number (suc i) tests once)
    ∙ differ-or (nat_le node i) (node == suc i) (λ below same. let le : node ≤ i = leb-true node i below in let eq : node ≡ suc i = eqb-true node (suc i) same in omega arith)
    ∙ le-suc node i

abbrev classes_of : ℕ → List Class
classes_of alpha = filter (λ c. nat_le (class_number c) alpha) (Horiz ∷ Right ∷ Left ∷ [])

once_3 : (c : Class) → is_odd_count (λ d. class_number c == class_number d) (Datum ∷ classes_of 3) ≡ true
once_3 Datum = refl
once_3 Horiz = refl
once_3 Right = refl
once_3 Left = refl

once_2 : (c : Class) → class_number c ≤ 2 → is_odd_count (λ d. class_number c == class_number d) (Datum ∷ classes_of 2) ≡ true
once_2 Datum used = refl
once_2 Horiz used = refl
once_2 Right used = refl
once_2 Left used = absurd (omega arith)

once_1 : (c : Class) → class_number c ≤ 1 → is_odd_count (λ d. class_number c == class_number d) (Datum ∷ classes_of 1) ≡ true
once_1 Datum used = refl
once_1 Horiz used = refl
once_1 Right used = absurd (omega arith)
once_1 Left used = absurd (omega arith)

once_parity_3 : (c : Class) → 1 ≤ class_number c → is_odd_count (λ d. class_number c == class_number d) (classes_of 3) ≡ true
once_parity_3 Datum parity = absurd (omega arith)
once_parity_3 Horiz parity = refl
once_parity_3 Right parity = refl
once_parity_3 Left parity = refl

once_parity_2 : (c : Class) → 1 ≤ class_number c → class_number c ≤ 2 → is_odd_count (λ d. class_number c == class_number d) (classes_of 2) ≡ true
once_parity_2 Datum parity used = absurd (omega arith)
once_parity_2 Horiz parity used = refl
once_parity_2 Right parity used = refl
once_parity_2 Left parity used = absurd (omega arith)

once_parity_1 : (c : Class) → 1 ≤ class_number c → class_number c ≤ 1 → is_odd_count (λ d. class_number c == class_number d) (classes_of 1) ≡ true
once_parity_1 Datum parity used = absurd (omega arith)
once_parity_1 Horiz parity used = refl
once_parity_1 Right parity used = absurd (omega arith)
once_parity_1 Left parity used = absurd (omega arith)

once_class : (alpha : ℕ) (c : Class) → (alpha ≡ 1) ⊎ ((alpha ≡ 2) ⊎ (alpha ≡ 3)) → class_number c ≤ alpha
    → is_odd_count (λ d. class_number c == class_number d) (Datum ∷ classes_of alpha) ≡ true
once_class alpha c (inl e) used = subst (λ n. is_odd_count (λ d. class_number c == class_number d) (Datum ∷ classes_of n) ≡ true) (sym e) (once_1 c (omega arith))
once_class alpha c (inr (inl e)) used = subst (λ n. is_odd_count (λ d. class_number c == class_number d) (Datum ∷ classes_of n) ≡ true) (sym e) (once_2 c (omega arith))
once_class alpha c (inr (inr e)) used = subst (λ n. is_odd_count (λ d. class_number c == class_number d) (Datum ∷ classes_of n) ≡ true) (sym e) (once_3 c)

once_parity : (alpha : ℕ) (c : Class) → (alpha ≡ 1) ⊎ ((alpha ≡ 2) ⊎ (alpha ≡ 3)) → 1 ≤ class_number c → class_number c ≤ alpha
    → is_odd_count (λ d. class_number c == class_number d) (classes_of alpha) ≡ true
once_parity alpha c (inl e) parity used = subst (λ n. is_odd_count (λ d. class_number c == class_number d) (classes_of n) ≡ true) (sym e) (once_parity_1 c parity (omega arith))
once_parity alpha c (inr (inl e)) parity used = subst (λ n. is_odd_count (λ d. class_number c == class_number d) (classes_of n) ≡ true) (sym e) (once_parity_2 c parity (omega arith))
once_parity alpha c (inr (inr e)) parity used = subst (λ n. is_odd_count (λ d. class_number c == class_number d) (classes_of n) ≡ true) (sym e) (once_parity_3 c parity)

-- a block of the lattice is in the list of blocks an odd number of times
pub block_once : (l : Lattice) (c : BlockId) → HasBlock l c → is_odd_count (same_block c) (blocks_of l) ≡ true
block_once l c h =
    ap (is_odd_count (same_block c)) (blocks-items l l.n)
    ∙ odd-items block_of (Datum ∷ classes l) (same_block c) c.node (class_number c.class) l.n (λ i k. refl)
    (once_class l.alpha c.class (one_to_three l) h.used) h.first
    ∙ le-leb c.node l.n h.last

-- an equation of the lattice is in the list of equations an odd number of times
pub equation_once : (l : Lattice) (e : EqId) → HasEquation l e → is_odd_count (same_equation e) (equations_of l) ≡ true
equation_once l e h =
    ap (is_odd_count (same_equation e)) (equations-items l l.n)
    ∙ odd-items equation_of (classes l) (same_equation e) e.node (class_number e.class) l.n (λ i k. refl)
    (once_parity l.alpha e.class (one_to_three l) h.class.parity h.class.used) h.node.first
    ∙ le-leb e.node l.n h.node.last

-- two equations that the test `same_equation` finds the same are one
pub same_equation-equal : (a b : EqId) → same_equation a b ≡ true → a ≡ b
same_equation-equal a b h =
    let parts = and_parts (a.node == b.node) (class_number a.class == class_number b.class) h in
    ap (λ i. equation_of i a.class) (eqb-true a.node b.node parts.0)
    ∙ ap (equation_of b.node) (class_number-equal a.class b.class (eqb-true (class_number a.class) (class_number b.class) parts.1))

-- each class that passes a test has what follows from passing it
each-kept : (p : Class → Bool) (P : Class → Type 0) (cs : List Class) → ((c : Class) → p c ≡ true → P c) → Each P (filter p cs)
each-kept p P [] h = tt
each-kept p P (c ∷ cs) h =
    elim (cases_Bool (p c)) [
      | inl yes' ↦ rw yes' (h c yes', each-kept p P cs h)
      | inr no' ↦ rw no' (each-kept p P cs h)
    ]

each-blocks_to : (l : Lattice) (i : ℕ) → i ≤ l.n → Each (HasBlock l) (blocks_to l i)
each-blocks_to l zero most = tt
each-blocks_to l (suc i) most =
    Each-append (HasBlock l) (blocks_to l i) (map (block_of (suc i)) (Datum ∷ classes l)) (each-blocks_to l i (omega arith))
    (Each-map (block_of (suc i)) (HasBlock l) (Datum ∷ classes l) (
      record { first = omega arith; last = most; used = omega arith },
      each-kept (λ c. nat_le (class_number c) l.alpha) (λ c. HasBlock l (block_of (suc i) c)) (Horiz ∷ Right ∷ Left ∷ [])
          (λ c used. record { first = omega arith; last = most; used = leb-true (class_number c) l.alpha used }),
    ))

-- each item of the list of the blocks of a lattice is a block of the lattice
pub each-blocks_of : (l : Lattice) → Each (HasBlock l) (blocks_of l)
each-blocks_of l = each-blocks_to l l.n (omega arith)

-- each item of the list of the parity classes of a lattice is a parity class of the lattice
pub each-classes : (l : Lattice) → Each (HasParity l) (classes l)
each-classes l = each-some l Horiz (Right ∷ Left ∷ []) (omega arith) (each-some l Right (Left ∷ []) (omega arith) (each-some l Left [] (omega arith) tt))
  where
    each-some : (l : Lattice) (c : Class) (cs : List Class) → 1 ≤ class_number c → Each (HasParity l) (filter (λ d. nat_le (class_number d) l.alpha) cs)
        → Each (HasParity l) (filter (λ d. nat_le (class_number d) l.alpha) (c ∷ cs))
    each-some l c cs parity rest =
        elim (cases_Bool (nat_le (class_number c) l.alpha)) [
          | inl yes' ↦ rw yes' (record { parity = parity; used = leb-true (class_number c) l.alpha yes' }, rest)
          | inr no' ↦ rw no' rest
        ]

-- each of the equations of the nodes 1 to i is an equation of the lattice, where it has so many nodes
pub each-equations_to : (l : Lattice) (i : ℕ) → i ≤ l.n → Each (HasEquation l) (equations_to l i)
each-equations_to l zero most = tt
each-equations_to l (suc i) most =
    Each-append (HasEquation l) (equations_to l i) (map (equation_of (suc i)) (classes l)) (each-equations_to l i (omega arith))
    (Each-map (equation_of (suc i)) (HasEquation l) (classes l)
    (Each-more (HasParity l) (λ c. HasEquation l (equation_of (suc i) c)) (classes l)
    (λ c h. record { node = record { first = omega arith; last = most }; class = h }) (each-classes l)))

-- each item of the list of the equations of a lattice is an equation of the lattice
pub each-equations_of : (l : Lattice) → Each (HasEquation l) (equations_of l)
each-equations_of l = each-equations_to l l.n (omega arith)

-- ---- a sum over a list in which one item counts

and-same_block : (c d : BlockId) (q : BlockId → Bool) → (same_block c d && q d) ≡ (same_block c d && q c)
and-same_block c d q =
    elim (cases_Bool (same_block c d)) [
      | inl yes' ↦ ap (λ x. same_block c d && q x) (sym (same_block-equal c d yes'))
      | inr no' ↦ rw no' refl
    ]

-- an odd number of the blocks of the lattice are its block c and pass a test exactly where c passes it
pub odd-at : (l : Lattice) (c : BlockId) (q : BlockId → Bool) → HasBlock l c → is_odd_count (λ d. same_block c d && q d) (blocks_of l) ≡ q c
odd-at l c q h =
    ap (λ p. is_odd_count p (blocks_of l)) (same_test (λ d. same_block c d && q d) (λ d. same_block c d && q c) (λ d. and-same_block c d q))
    ∙ odd-and (same_block c) (q c) (blocks_of l)
    ∙ ap (λ b. b && q c) (block_once l c h)

and-same_equation : (e f : EqId) (q : EqId → Bool) → (same_equation e f && q f) ≡ (same_equation e f && q e)
and-same_equation e f q =
    elim (cases_Bool (same_equation e f)) [
      | inl yes' ↦ ap (λ x. same_equation e f && q x) (sym (same_equation-equal e f yes'))
      | inr no' ↦ rw no' refl
    ]

-- an odd number of the equations of the lattice are its equation e and pass a test exactly where e passes it
pub odd-at_equation : (l : Lattice) (e : EqId) (q : EqId → Bool) → HasEquation l e → is_odd_count (λ f. same_equation e f && q f) (equations_of l) ≡ q e
odd-at_equation l e q h =
    ap (λ p. is_odd_count p (equations_of l)) (same_test (λ f. same_equation e f && q f) (λ f. same_equation e f && q e) (λ f. and-same_equation e f q))
    ∙ odd-and (same_equation e) (q e) (equations_of l)
    ∙ ap (λ b. b && q e) (equation_once l e h)
