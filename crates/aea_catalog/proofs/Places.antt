-- Places in a list of entries whose keys strictly rise.
use Rattle.std.proofs.Common.{◌≡◌, ℕ, zero, suc, ◌<◌, ◌≤◌, Bool, true, false, T, cond, ◌&&◌, List, [], ◌∷◌, length, get_or, Some, None, sym, refl, ap, subst, ◌∙◌, arith, inl, inr}
use Rattle.std.specs.declared.cmp.Ordering.{Ordering}
use Rattle.std.specs.declared.cmp.Ordering.TheVariants.{Less, Equal, Greater}
use Rattle.std.specs.Ordering.{is_lt, is_eq, eq_by_cmp, ordering_reverse}
use Rattle.std.specs.Cmp.{IsTotalOrder}
use Rattle.std.specs.FinMap.Entries.{find, put, is_sorted, below_all, by_order}
use Rattle.std.specs.List.{insert}
use Rattle.std.proofs.lemmas.Bool.{cases_lt}

first : (a b : Bool) → T (a && b) → T a
first true b p = tt
first false b p = p

second : (a b : Bool) → T (a && b) → T b
second true b p = p
second false b p = absurd p

less : (o : Ordering) → T (is_lt o) → o ≡ Less
less Less p = refl
less Equal p = absurd p
less Greater p = absurd p

-- the other way round
pub flipped : {K : Type 0} {R : K → K → Ordering} → IsTotalOrder R → (x y : K) → R x y ≡ Less → R y x ≡ Greater
flipped o x y h = o.antisymm y x ∙ ap ordering_reverse h

module _ {K X : Type 0} (R : K → K → Ordering) where
  -- a key below all of a list is below each
  below-at : (x : K) (es : List (K × X)) (d : K × X) (k : ℕ) → T (below_all R x es) → k < length es → R x (get_or es k d).0 ≡ Less
  below-at x [] d k h within = absurd (omega arith)
  below-at x (e ∷ es) d zero h within = less _ (first _ _ h)
  below-at x (e ∷ es) d (suc k) h within = below-at x es d k (second _ _ h) (omega arith)

  -- of two places the first has the lesser key
  pub rising-at : (es : List (K × X)) (d : K × X) (i k : ℕ) → T (is_sorted R es) → i < k → k < length es → R (get_or es i d).0 (get_or es k d).0 ≡ Less
  rising-at [] d i k h lt within = absurd (omega arith)
  rising-at (e ∷ es) d i zero h lt within = absurd (omega arith)
  rising-at (e ∷ es) d zero (suc k) h lt within = below-at e.0 es d k (first _ _ h) (omega arith)
  rising-at (e ∷ es) d (suc i) (suc k) h lt within = rising-at es d i k (second _ _ h) (omega arith) (omega arith)

  -- a key that no entry has is not found
  pub find-absent : (q : K) (es : List (K × X)) (d : K × X) → ((k : ℕ) → k < length es → eq_by_cmp R q (get_or es k d).0 ≡ false) → find R q es ≡ None
  find-absent q [] d apart = refl
  find-absent q (e ∷ es) d apart =
      ap (λ b. cond b (Some e.1) (find R q es)) (apart zero (omega arith)) ∙ find-absent q es d (λ k within. apart (suc k) (omega arith))

  module _ (o : IsTotalOrder R) where
    -- what is before a lesser key is lesser
    pub before-lesser : (q : K) (es : List (K × X)) (d : K × X) (i k : ℕ) → T (is_sorted R es) → i ≤ k → k < length es → R (get_or es k d).0 q ≡ Less → R (get_or es i d).0 q ≡ Less
    before-lesser q es d i k h le within lesser = elim (cases_lt i k) [
      | inl lt ↦ o.trans _ _ q (rising-at es d i k h lt within) lesser
      | inr ge ↦ let same : i ≡ k = omega arith in subst (λ j. R (get_or es j d).0 q ≡ Less) (sym same) lesser
    ]

    -- what is after a greater key is greater
    pub after-greater : (q : K) (es : List (K × X)) (d : K × X) (i k : ℕ) → T (is_sorted R es) → i ≤ k → k < length es → R q (get_or es i d).0 ≡ Less → R q (get_or es k d).0 ≡ Less
    after-greater q es d i k h le within greater = elim (cases_lt i k) [
      | inl lt ↦ o.trans q _ _ greater (rising-at es d i k h lt within)
      | inr ge ↦ let same : i ≡ k = omega arith in subst (λ j. R q (get_or es j d).0 ≡ Less) same greater
    ]

    -- the key of an entry is found there
    pub find-at : (q : K) (es : List (K × X)) (d : K × X) (i : ℕ) → T (is_sorted R es) → i < length es → (get_or es i d).0 ≡ q → R q q ≡ Equal → find R q es ≡ Some (get_or es i d).1
    find-at q [] d i h within is tied = absurd (omega arith)
    find-at q (e ∷ es) d zero h within is tied = ap (λ r. cond (is_eq r) (Some e.1) (find R q es)) (ap (R q) is ∙ tied)
    find-at q (e ∷ es) d (suc i) h within is tied =
        let later : R q e.0 ≡ Greater = flipped o e.0 q (subst (λ x. R e.0 x ≡ Less) is (below-at e.0 es d i (first _ _ h) (omega arith))) in
        ap (λ r. cond (is_eq r) (Some e.1) (find R q es)) later ∙ find-at q es d i (second _ _ h) (omega arith) is tied

    -- an entry is put at the place between the lesser and the greater keys
    pub put-at : (q : K) (v : X) (es : List (K × X)) (d : K × X) (i : ℕ) → i ≤ length es
        → ((k : ℕ) → k < i → R (get_or es k d).0 q ≡ Less)
        → ((k : ℕ) → i ≤ k → k < length es → R q (get_or es k d).0 ≡ Less)
        → put R q v es ≡ insert es i (q, v)
    put-at q v [] d zero within before after = refl
    put-at q v [] d (suc i) within before after = absurd (omega arith)
    put-at q v (e ∷ es) d zero within before after =
        ap (λ r. by_order r ((q, v) ∷ e ∷ es) ((e.0, v) ∷ es) (e ∷ put R q v es)) (after zero (omega arith) (omega arith))
    put-at q v (e ∷ es) d (suc i) within before after =
        ap (λ r. by_order r ((q, v) ∷ e ∷ es) ((e.0, v) ∷ es) (e ∷ put R q v es)) (flipped o e.0 q (before zero (omega arith)))
        ∙ ap (λ r. e ∷ r) (put-at q v es d i (omega arith) (λ k lt. before (suc k) (omega arith)) (λ k le lt. after (suc k) (omega arith) (omega arith)))
