-- Sums of rising lists.
use Rattle.std.proofs.Common.{◌≡◌, ℕ, suc, ◌<◌, ◌≤◌, ◌⊎◌, Bool, true, false, ◌==◌, List, [], ◌∷◌, ◌++◌, length, get_or, drop, refl, sym, ◌∙◌, ap, subst, arith, inl, inr}
use Rattle.std.proofs.Math.Seq.{drop-cons}
use Rattle.std.proofs.Math.ListN.{drop_of_length-le}
use Rattle.aea_lattice.specs.Parity.{differ}
use Rattle.aea_lattice.proofs.Odd.{differ-assoc}
use Rattle.aea_sweep.specs.Words.{has_odd, RiseWithin}

pub odd-append : (xs ys : List ℕ) (i : ℕ) → has_odd (xs ++ ys) i ≡ differ (has_odd xs i) (has_odd ys i)
odd-append [] ys i = refl
odd-append (x ∷ xs) ys i = ap (differ (i == x)) (odd-append xs ys i) ∙ sym (differ-assoc (i == x) (has_odd xs i) (has_odd ys i))

pub rise-less : (low least : ℕ) (xs : List ℕ) (top : ℕ) → least ≤ low → RiseWithin low xs top → RiseWithin least xs top
rise-less low least [] top le h = omega arith
rise-less low least (x ∷ xs) top le h = (let first = h.0 in omega arith, h.1)

pub rise-more : (low : ℕ) (xs : List ℕ) (top most : ℕ) → top ≤ most → RiseWithin low xs top → RiseWithin low xs most
rise-more low [] top most le h = omega arith
rise-more low (x ∷ xs) top most le h = (h.0, rise-more (suc x) xs top most le h.1)

pub rise-append : (low : ℕ) (xs : List ℕ) (middle : ℕ) (ys : List ℕ) (top : ℕ) → RiseWithin low xs middle → RiseWithin middle ys top → RiseWithin low (xs ++ ys) top
rise-append low [] middle ys top h k = rise-less middle low ys top h k
rise-append low (x ∷ xs) middle ys top h k = (h.0, rise-append (suc x) xs middle ys top h.1 k)

-- the list is whole: it is within its bounds
pub rise-bound : (low : ℕ) (xs : List ℕ) (top : ℕ) → RiseWithin low xs top → low ≤ top
rise-bound low [] top h = h
rise-bound low (x ∷ xs) top h = let rest = rise-bound (suc x) xs top h.1 in let first = h.0 in omega arith

-- So much of two rising lists is in the sum: what is left of them and the sum add up to the lists.
pub record Merged (first second sum : List ℕ) (a b : ℕ) : Type 0 where
  pub first_within : a ≤ length first
  pub second_within : b ≤ length second
  pub adds : (i : ℕ) → differ (has_odd sum i) (differ (has_odd (drop a first) i) (has_odd (drop b second) i)) ≡ differ (has_odd first i) (has_odd second i)
  pub rises : (top : ℕ) → RiseWithin 1 first top → RiseWithin 1 second top
      → (middle : ℕ) × RiseWithin 1 sum middle × RiseWithin middle (drop a first) top × RiseWithin middle (drop b second) top

pub merged-none : (first second : List ℕ) → Merged first second [] 0 0
merged-none first second = record {
  first_within = omega arith;
  second_within = omega arith;
  adds = λ i. refl;
  rises = λ top f s. (1, omega arith, f, s);
}

-- a node moves from what is left to the sum
move_left : (s x f t : Bool) → differ (differ s (differ x false)) (differ f t) ≡ differ s (differ (differ x f) t)
move_left true true true true = refl
move_left true true true false = refl
move_left true true false true = refl
move_left true true false false = refl
move_left true false true true = refl
move_left true false true false = refl
move_left true false false true = refl
move_left true false false false = refl
move_left false true true true = refl
move_left false true true false = refl
move_left false true false true = refl
move_left false true false false = refl
move_left false false true true = refl
move_left false false true false = refl
move_left false false false true = refl
move_left false false false false = refl

move_right : (s y f t : Bool) → differ (differ s (differ y false)) (differ f t) ≡ differ s (differ f (differ y t))
move_right true true true true = refl
move_right true true true false = refl
move_right true true false true = refl
move_right true true false false = refl
move_right true false true true = refl
move_right true false true false = refl
move_right true false false true = refl
move_right true false false false = refl
move_right false true true true = refl
move_right false true true false = refl
move_right false true false true = refl
move_right false true false false = refl
move_right false false true true = refl
move_right false false true false = refl
move_right false false false true = refl
move_right false false false false = refl

both_go : (s x f t : Bool) → differ s (differ f t) ≡ differ s (differ (differ x f) (differ x t))
both_go true true true true = refl
both_go true true true false = refl
both_go true true false true = refl
both_go true true false false = refl
both_go true false true true = refl
both_go true false true false = refl
both_go true false false true = refl
both_go true false false false = refl
both_go false true true true = refl
both_go false true true false = refl
both_go false true false true = refl
both_go false true false false = refl
both_go false false true true = refl
both_go false false true false = refl
both_go false false false true = refl
both_go false false false false = refl

module _ (first second sum : List ℕ) (a b : ℕ) (m : Merged first second sum a b) (a_less : a < length first) (b_less : b < length second) where
  let_first : drop a first ≡ get_or first a 0 ∷ drop (suc a) first
  let_first = drop-cons first a 0 a_less

  let_second : drop b second ≡ get_or second b 0 ∷ drop (suc b) second
  let_second = drop-cons second b 0 b_less

  pub merged-first : get_or first a 0 < get_or second b 0 → Merged first second (sum ++ get_or first a 0 ∷ []) (suc a) b
  merged-first less =
      let x = get_or first a 0 in
      record {
        first_within = omega arith;
        second_within = m.second_within;
        adds = λ i.
            ap (λ (s : Bool). differ s (differ (has_odd (drop (suc a) first) i) (has_odd (drop b second) i))) (odd-append sum (x ∷ []) i)
            ∙ move_left (has_odd sum i) (i == x) (has_odd (drop (suc a) first) i) (has_odd (drop b second) i)
            ∙ sym (ap (λ xs. differ (has_odd sum i) (differ (has_odd xs i) (has_odd (drop b second) i))) let_first)
            ∙ m.adds i;
        rises = λ top f s.
            let before = m.rises top f s in
            let left : RiseWithin before.0 (x ∷ drop (suc a) first) top = subst (λ xs. RiseWithin before.0 xs top) let_first before.2 in
            let right : RiseWithin before.0 (get_or second b 0 ∷ drop (suc b) second) top = subst (λ xs. RiseWithin before.0 xs top) let_second before.3 in (
              suc x,
              rise-append 1 sum before.0 (x ∷ []) (suc x) before.1 (left.0, omega arith),
              left.1,
              subst (λ xs. RiseWithin (suc x) xs top) (sym let_second) (omega arith, right.1),
            );
      }

  pub merged-second : get_or second b 0 < get_or first a 0 → Merged first second (sum ++ get_or second b 0 ∷ []) a (suc b)
  merged-second less =
      let y = get_or second b 0 in
      record {
        first_within = m.first_within;
        second_within = omega arith;
        adds = λ i.
            ap (λ (s : Bool). differ s (differ (has_odd (drop a first) i) (has_odd (drop (suc b) second) i))) (odd-append sum (y ∷ []) i)
            ∙ move_right (has_odd sum i) (i == y) (has_odd (drop a first) i) (has_odd (drop (suc b) second) i)
            ∙ sym (ap (λ ys. differ (has_odd sum i) (differ (has_odd (drop a first) i) (has_odd ys i))) let_second)
            ∙ m.adds i;
        rises = λ top f s.
            let before = m.rises top f s in
            let left : RiseWithin before.0 (get_or first a 0 ∷ drop (suc a) first) top = subst (λ xs. RiseWithin before.0 xs top) let_first before.2 in
            let right : RiseWithin before.0 (y ∷ drop (suc b) second) top = subst (λ xs. RiseWithin before.0 xs top) let_second before.3 in (
              suc y,
              rise-append 1 sum before.0 (y ∷ []) (suc y) before.1 (right.0, omega arith),
              subst (λ xs. RiseWithin (suc y) xs top) (sym let_first) (omega arith, left.1),
              right.1,
            );
      }

  pub merged-both : get_or first a 0 ≡ get_or second b 0 → Merged first second sum (suc a) (suc b)
  merged-both same =
      let x = get_or first a 0 in
      record {
        first_within = omega arith;
        second_within = omega arith;
        adds = λ i.
            both_go (has_odd sum i) (i == x) (has_odd (drop (suc a) first) i) (has_odd (drop (suc b) second) i)
            ∙ ap (λ (y : ℕ). differ (has_odd sum i) (differ (differ (i == x) (has_odd (drop (suc a) first) i)) (differ (i == y) (has_odd (drop (suc b) second) i)))) same
            ∙ sym (ap (λ xs. differ (has_odd sum i) (differ (has_odd xs i) (differ (i == get_or second b 0) (has_odd (drop (suc b) second) i)))) let_first)
            ∙ sym (ap (λ ys. differ (has_odd sum i) (differ (has_odd (drop a first) i) (has_odd ys i))) let_second)
            ∙ m.adds i;
        rises = λ top f s.
            let before = m.rises top f s in
            let left : RiseWithin before.0 (x ∷ drop (suc a) first) top = subst (λ xs. RiseWithin before.0 xs top) let_first before.2 in
            let right : RiseWithin before.0 (get_or second b 0 ∷ drop (suc b) second) top = subst (λ xs. RiseWithin before.0 xs top) let_second before.3 in (
              suc x,
              rise-more 1 sum before.0 (suc x) (let low = left.0 in omega arith) before.1,
              left.1,
              subst (λ (y : ℕ). RiseWithin (suc y) (drop (suc b) second) top) (sym same) right.1,
            );
      }

-- what is left of one list, and nothing of the other, goes after the sum
pub merged-sum : (first second sum : List ℕ) (a b : ℕ) → Merged first second sum a b → (i : ℕ)
    → has_odd ((sum ++ drop a first) ++ drop b second) i ≡ differ (has_odd first i) (has_odd second i)
merged-sum first second sum a b m i =
    odd-append (sum ++ drop a first) (drop b second) i
    ∙ ap (λ (s : Bool). differ s (has_odd (drop b second) i)) (odd-append sum (drop a first) i)
    ∙ differ-assoc (has_odd sum i) (has_odd (drop a first) i) (has_odd (drop b second) i)
    ∙ m.adds i

pub merged-rises : (first second sum : List ℕ) (a b : ℕ) → Merged first second sum a b → (length first ≤ a) ⊎ (length second ≤ b)
    → (top : ℕ) → RiseWithin 1 first top → RiseWithin 1 second top → RiseWithin 1 ((sum ++ drop a first) ++ drop b second) top
merged-rises first second sum a b m ended top f s =
    let before = m.rises top f s in
    elim ended [
      | inl done ↦
          (let none : drop a first ≡ [] = drop_of_length-le first done in
          rise-append 1 (sum ++ drop a first) before.0 (drop b second) top
          (rise-append 1 sum before.0 (drop a first) before.0 before.1 (subst (λ xs. RiseWithin before.0 xs before.0) (sym none) (omega arith)))
          before.3)
      | inr done ↦
          (let none : drop b second ≡ [] = drop_of_length-le second done in
          rise-append 1 (sum ++ drop a first) top (drop b second) top
          (rise-append 1 sum before.0 (drop a first) top before.1 before.2)
          (subst (λ xs. RiseWithin top xs top) (sym none) (omega arith)))
    ]
