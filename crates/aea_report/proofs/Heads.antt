-- Whether some head has a property can be decided: there are finitely many heads.
use Rattle.std.proofs.Common.{ℕ, ◌<◌, ◌≤◌, ◌^◌, List, [], ◌∷◌, get_or, arith, refl, Option, Some, None}
use Rattle.std.specs.Prelude.{All, IfSome, IsTrue}
use Rattle.std.proofs.lemmas.List.Elements.{All-from_recursion}
use Rattle.aea_lattice.specs.declared.grid.Lattice.{Lattice}
use Rattle.aea_lattice.specs.Profile.{is_profile, greatest_nodes}
use Rattle.aea_lattice.specs.Data.{IsBytes}
use Rattle.aea_report.specs.declared.head.Head.{Head}
use Rattle.aea_report.specs.Grammar.{IsHeadOf}
use Rattle.aea_report.proofs.Plain.{small_shape}
use Rattle.aea_report.proofs.Decisions.{Decided, AreBelow, decide_both, decide_as, decide_le, decide_test, search_lists, search_optional}

-- the head with these eight numbers and this seal
abbrev made : List ℕ → Option (List ℕ) → Head
made xs seal = record {
  alpha = get_or xs 0 0;
  s = get_or xs 1 0;
  p = get_or xs 2 0;
  n = get_or xs 3 0;
  seal = seal;
  damaged = get_or xs 4 0;
  peeled = get_or xs 5 0;
  solved = get_or xs 6 0;
  lost = get_or xs 7 0;
}

-- the eight numbers of a head
abbrev numbers_of : Head → List ℕ
numbers_of h = h.alpha ∷ h.s ∷ h.p ∷ h.n ∷ h.damaged ∷ h.peeled ∷ h.solved ∷ h.lost ∷ []

-- there is a lattice of the shape and the number of nodes of the head
abbrev HasLattice : Head → Type 0
HasLattice h = IsTrue (is_profile h.alpha h.s h.p) × (h.n ≤ greatest_nodes)

decide_lattice : (h : Head) → Decided (HasLattice h)
decide_lattice h = decide_both (decide_test (is_profile h.alpha h.s h.p)) (decide_le h.n greatest_nodes)

-- that lattice, without fences
abbrev lattice_for : (h : Head) → HasLattice h → Lattice
lattice_for h has = record { alpha = h.alpha; s = h.s; p = h.p; n = h.n; fences = []; in_profile = has.0; in_range = has.1; fenced = refl }

-- a head of some lattice that has the property
abbrev pub SomeHead : (Head → Type 0) → Type 0
SomeHead P = (h : Head) × (l : Lattice) × IsHeadOf l h × P h

-- the numbers of a head, its seal, its lattice, and the property
abbrev SomeNumbers : (Head → Type 0) → Type 0
SomeNumbers P =
    (xs : List ℕ) × AreBelow (2 ^ 32) 8 xs
    × ((seal : Option (List ℕ)) × IfSome seal (AreBelow (2 ^ 8) 32) × (HasLattice (made xs seal) × P (made xs seal)))

seal_bytes : (seal : Option (List ℕ)) → IfSome seal (AreBelow (2 ^ 8) 32) → IfSome seal (IsBytes 32)
seal_bytes None are = tt
seal_bytes (Some xs) are = record { wide = are.0; each = are.1 }

bytes_below : (seal : Option (List ℕ)) → IfSome seal (IsBytes 32) → IfSome seal (AreBelow (2 ^ 8) 32)
bytes_below None valid = tt
bytes_below (Some xs) valid = (valid.wide, valid.each)

made_head : (P : Head → Type 0) → SomeNumbers P → SomeHead P
made_head P some =
    let xs = some.0 in
    let long = some.1.0 in
    let small = some.1.1 in
    let seal = some.2.0 in
    let has = some.2.2.0 in (
      made xs seal,
      lattice_for (made xs seal) has,
      record {
        alpha = refl;
        s = refl;
        p = refl;
        n = refl;
        seal = seal_bytes seal some.2.1;
        damaged = small 4 0 (omega arith);
        peeled = small 5 0 (omega arith);
        solved = small 6 0 (omega arith);
        lost = small 7 0 (omega arith);
      },
      some.2.2.1,
    )

numbers_below : (l : Lattice) (h : Head) → IsHeadOf l h → All (λ x. x < 2 ^ 32) (numbers_of h)
numbers_below l h is =
    let small = small_shape l in
    let alpha = small.alpha in let s = small.s in let p = small.p in let range = l.in_range in
    let a = is.alpha in let b = is.s in let c = is.p in let n = is.n in
    All-from_recursion (λ x. x < 2 ^ 32) (numbers_of h)
    (omega arith, (omega arith, (omega arith, (omega arith, (is.damaged, (is.peeled, (is.solved, (is.lost, tt))))))))

profile_of : (l : Lattice) (h : Head) → IsHeadOf l h → IsTrue (is_profile h.alpha h.s h.p)
profile_of l h is = rw (is.alpha, is.s, is.p) l.in_profile

head_numbers : (P : Head → Type 0) → SomeHead P → SomeNumbers P
head_numbers P some =
    let h = some.0 in let l = some.1 in let is = some.2 in
    let n = is.n in let range = l.in_range in
    (numbers_of h, (refl, numbers_below l h is), (h.seal, bytes_below h.seal is.seal, ((profile_of l h is, omega arith), some.3)))

-- whether some head has a property that can be decided of each
pub decide_head : (P : Head → Type 0) → ((h : Head) → Decided (P h)) → Decided (SomeHead P)
decide_head P each =
    decide_as (made_head P) (head_numbers P)
    (search_lists (2 ^ 32) 8 (λ xs. (seal : Option (List ℕ)) × IfSome seal (AreBelow (2 ^ 8) 32) × (HasLattice (made xs seal) × P (made xs seal)))
    (λ xs. search_optional (AreBelow (2 ^ 8) 32) (search_lists (2 ^ 8) 32) (λ seal. HasLattice (made xs seal) × P (made xs seal))
    (λ seal. decide_both (decide_lattice (made xs seal)) (each (made xs seal)))))
