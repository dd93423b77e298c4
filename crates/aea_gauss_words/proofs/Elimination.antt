-- Gauss and Jordan's elimination: adding a row to the others that have its least column.
use Rattle.std.proofs.Common.{◌≡◌, ◌≢◌, ℕ, suc, ◌+◌, ◌<◌, ◌≤◌, Bool, true, false, not, ◌&&◌, ◌==◌, refl, sym, ◌∙◌, ap, subst, arith, inl, inr}
use Rattle.std.specs.Prelude.{nat_lt}
use Rattle.std.proofs.lemmas.Bool.{cases_Bool, cases_lt, cases_eq, eq-eqb, ne_eqb, lt-ltb, le-ltb, true≢false}
use Rattle.aea_lattice.specs.Parity.{differ}
use Rattle.aea_gauss_laws.specs.Parities.{odd_below}
use Rattle.aea_lattice.proofs.Odd.{differ-and, differ-assoc, differ-self, differ-false_r}
use Rattle.aea_gauss_laws.proofs.Columns.{odd_below-same, odd_below-one, odd_below-differ, odd_below-and, and-true, and-false}
use Rattle.aea_gauss_words.specs.Matrices.{sum_of_rows, IsSumOfRows, IsLead, IsReduction, IsCleared, IsClearedOne, SameSums, ReducedTo}
use Rattle.aea_gauss_words.proofs.Reduced.{least, nothing, find_least, lead_unique, row_is_sum_of_rows}
use Rattle.aea_gauss_laws.proofs.Columns.{odd_below-none}

-- row i is added to the rows that pass, and not to itself
pub record AddsRow (rows cols : ℕ) (old new : ℕ → ℕ → Bool) (i : ℕ) (q : ℕ → Bool) : Type 0 where
  pub not_itself : q i ≡ false
  pub each : (r k : ℕ) → r < rows → k < cols → new r k ≡ differ (old r k) (q r && old i k)

and-over : (p o q b : Bool) → (p && differ o (q && b)) ≡ differ (p && o) (b && (p && q))
and-over true o q true = ap (differ o) (and-true q)
and-over true o q false = ap (differ o) (and-false q)
and-over false o q true = refl
and-over false o q false = refl

pick-over : (p e s o : Bool) → (differ p (e && s) && o) ≡ differ (p && o) (s && (e && o))
pick-over p true true o = differ-and p true o
pick-over p true false o = ap (λ b. b && o) (differ-false_r p) ∙ sym (differ-false_r (p && o))
pick-over p false true o = ap (λ b. b && o) (differ-false_r p) ∙ sym (differ-false_r (p && o))
pick-over p false false o = ap (λ b. b && o) (differ-false_r p) ∙ sym (differ-false_r (p && o))

-- the rows that are picked, with row i picked as often as it was added
abbrev picks_of : ℕ → ℕ → (ℕ → Bool) → (ℕ → Bool) → ℕ → Bool
picks_of rows i q p j = differ (p j) (j == i && odd_below (λ r. p r && q r) rows)

added_sum : (rows cols : ℕ) (old new : ℕ → ℕ → Bool) (i : ℕ) (q : ℕ → Bool) → i < rows → AddsRow rows cols old new i q → (p : ℕ → Bool) (k : ℕ) → k < cols
    → sum_of_rows rows new p k ≡ sum_of_rows rows old (picks_of rows i q p) k
added_sum rows cols old new i q i_less adds p k less =
    let s : Bool = odd_below (λ r. p r && q r) rows in
    odd_below-same (λ r. p r && new r k) (λ r. differ (p r && old r k) (old i k && (p r && q r))) rows
    (λ r r_less. ap (λ b. p r && b) (adds.each r k r_less less) ∙ and-over (p r) (old r k) (q r) (old i k))
    ∙ odd_below-differ (λ r. p r && old r k) (λ r. old i k && (p r && q r)) rows
    ∙ ap (differ (sum_of_rows rows old p k)) (odd_below-and (old i k) (λ r. p r && q r) rows ∙ and-comm (old i k) s)
    ∙ sym
    (odd_below-same (λ j. picks_of rows i q p j && old j k) (λ j. differ (p j && old j k) (s && (j == i && old j k))) rows
    (λ j j_less. pick-over (p j) (j == i) s (old j k))
    ∙ odd_below-differ (λ j. p j && old j k) (λ j. s && (j == i && old j k)) rows
    ∙ ap (differ (sum_of_rows rows old p k))
    (odd_below-and s (λ j. j == i && old j k) rows
    ∙ ap (λ b. s && b)
    (odd_below-one (λ j. j == i && old j k) rows i i_less (λ j j_less other. ap (λ b. b && old j k) (ne_eqb j i other)) ∙ ap (λ b. b && old i k) (eq-eqb i i refl))))
  where
    and-comm : (a b : Bool) → (a && b) ≡ (b && a)
    and-comm true true = refl
    and-comm true false = refl
    and-comm false true = refl
    and-comm false false = refl

added_back : (rows cols : ℕ) (old new : ℕ → ℕ → Bool) (i : ℕ) (q : ℕ → Bool) → i < rows → AddsRow rows cols old new i q → AddsRow rows cols new old i q
added_back rows cols old new i q i_less adds = record {
  not_itself = adds.not_itself;
  each = λ r k r_less less.
      sym
      (ap (λ b. differ (new r k) (q r && b)) (adds.each i k i_less less ∙ ap (λ b. differ (old i k) (b && old i k)) adds.not_itself ∙ differ-false_r (old i k))
      ∙ ap (λ b. differ b (q r && old i k)) (adds.each r k r_less less)
      ∙ differ-assoc (old r k) (q r && old i k) (q r && old i k)
      ∙ ap (differ (old r k)) (differ-self (q r && old i k))
      ∙ differ-false_r (old r k));
}

-- the sums of the new rows are sums of the old ones
added_within : (rows cols : ℕ) (old new : ℕ → ℕ → Bool) (i : ℕ) (q : ℕ → Bool) → i < rows → AddsRow rows cols old new i q → (v : ℕ → Bool)
    → IsSumOfRows rows cols new v → IsSumOfRows rows cols old v
added_within rows cols old new i q i_less adds v sum =
    (picks_of rows i q sum.0, λ k less. sum.1 k less ∙ added_sum rows cols old new i q i_less adds sum.0 k less)

-- adding a row to some of the others leaves the XORs of sets of rows the same
pub added_sums : (rows cols : ℕ) (old new : ℕ → ℕ → Bool) (i : ℕ) (q : ℕ → Bool) → i < rows → AddsRow rows cols old new i q → SameSums rows cols old new
added_sums rows cols old new i q i_less adds v =
    (added_within rows cols new old i q i_less (added_back rows cols old new i q i_less adds) v, added_within rows cols old new i q i_less adds v)

-- where column c is cleared by row i, row i is added to the other rows that have c
pub cleared_adds : (rows cols : ℕ) (old new : ℕ → ℕ → Bool) (i c : ℕ) → IsCleared rows cols old new i c → AddsRow rows cols old new i (λ r. not (r == i) && old r c)
cleared_adds rows cols old new i c cleared = record {
  not_itself = ap (λ b. not b && old i c) (eq-eqb i i refl);
  each = cleared;
}

-- where the XORs of sets of rows stay the same twice, they are the same from the first to the last
pub sums_through : (rows cols : ℕ) (first now last : ℕ → ℕ → Bool) → SameSums rows cols first now → SameSums rows cols now last → SameSums rows cols first last
sums_through rows cols first now last before after v = (λ h. (after v).0 ((before v).0 h), λ h. (before v).1 ((after v).1 h))

-- ---- the first n rows have their leads alone

-- the least column of a row is that of each row that has the same columns
pub lead_same : (cols : ℕ) (r s : ℕ → Bool) (c : ℕ) → ((k : ℕ) → k < cols → r k ≡ s k) → IsLead cols r c → IsLead cols s c
lead_same cols r s c same h = record {
  below = h.below;
  here = sym (same c h.below) ∙ h.here;
  least = λ k less. sym (same k (let below = h.below in omega arith)) ∙ h.least k less;
}

module _ (rows cols : ℕ) (old new : ℕ → ℕ → Bool) (i c : ℕ) (i_less : i < rows) (lead : IsLead cols (old i) c) (reduced : ReducedTo i rows cols old) (cleared : IsCleared rows cols old new i c) where
  itself_same : (k : ℕ) → k < cols → new i k ≡ old i k
  itself_same k less = cleared i k i_less less ∙ ap (λ b. differ (old i k) ((not b && old i c) && old i k)) (eq-eqb i i refl) ∙ differ-false_r (old i k)

  no_column : (j : ℕ) → j < rows → j ≢ i → new j c ≡ false
  no_column j less other =
      cleared j c less lead.below
      ∙ ap (λ b. differ (old j c) ((not b && old j c) && old i c)) (ne_eqb j i other)
      ∙ ap (λ b. differ (old j c) (old j c && b)) lead.here
      ∙ ap (differ (old j c)) (and-true (old j c)) ∙ differ-self (old j c)

  untouched : (p : ℕ) → p < rows → old p c ≡ false → (k : ℕ) → k < cols → new p k ≡ old p k
  untouched p p_less lacks k less =
      cleared p k p_less less
      ∙ ap (λ b. differ (old p k) ((not (p == i) && b) && old i k)) lacks
      ∙ ap (λ b. differ (old p k) (b && old i k)) (and-false (not (p == i)))
      ∙ differ-false_r (old p k)

  where_none : (p k : ℕ) → p < rows → k < cols → old i k ≡ false → new p k ≡ old p k
  where_none p k p_less less lacks =
      cleared p k p_less less
      ∙ ap (λ b. differ (old p k) ((not (p == i) && old p c) && b)) lacks
      ∙ ap (differ (old p k)) (and-false (not (p == i) && old p c))
      ∙ differ-false_r (old p k)

  -- the leads of earlier rows stay
  lead_kept : (p d : ℕ) → p < i → IsLead cols (new p) d → IsLead cols (old p) d
  lead_kept p d before h =
      elim (cases_Bool (old p c)) [
        | inr lacks ↦ lead_same cols (new p) (old p) d (untouched p (omega arith) lacks) h
        | inl has ↦ elim (find_least (old p) (suc c)) [
          | nothing all ↦ absurd (true≢false (sym has ∙ all c (omega arith)))
          | least e e_less e_here e_below ↦
              (let c_below = lead.below in
              let old_lead : IsLead cols (old p) e = record { below = omega arith; here = e_here; least = e_below } in
              let alone : old i e ≡ false = reduced p i e before i_less (λ same. omega arith) old_lead in
              elim (cases_eq e c) [
                | inl same ↦ absurd (true≢false (sym lead.here ∙ ap (old i) (sym same) ∙ alone))
                | inr other ↦
                    (let e_first : e < c = omega arith in
                    let new_lead : IsLead cols (new p) e = record {
                      below = omega arith;
                      here = where_none p e (omega arith) (omega arith) alone ∙ e_here;
                      least = λ k less. where_none p k (omega arith) (omega arith) (lead.least k (omega arith)) ∙ e_below k less;
                    } in
                    subst (IsLead cols (old p)) (lead_unique cols (new p) e d new_lead h) old_lead)
              ])
        ]
      ]

  -- where the least columns of the first i rows are alone, and row i is added to the others that have its own,
  -- those of the first i + 1 rows are alone
  pub reduced_more : ReducedTo (suc i) rows cols new
  reduced_more p j d p_less j_less other h =
      elim (cases_lt p i) [
        | inl before ↦
            (let old_lead = lead_kept p d before h in
            let d_below = old_lead.below in
            where_none j d j_less d_below (reduced p i d before i_less (λ same. omega arith) old_lead)
            ∙ reduced p j d before j_less other old_lead)
        | inr after ↦
            (let same : p ≡ i = omega arith in
            let here : IsLead cols (old i) d = lead_same cols (new i) (old i) d itself_same (subst (λ x. IsLead cols (new x) d) same h) in
            let one : c ≡ d = lead_unique cols (old i) c d lead here in
            ap (new j) (sym one) ∙ no_column j j_less (λ e. other (same ∙ sym e)))
      ]

-- a row without columns
pub reduced_nothing : (rows cols : ℕ) (m : ℕ → ℕ → Bool) (i : ℕ) → ((k : ℕ) → k < cols → m i k ≡ false) → ReducedTo i rows cols m → ReducedTo (suc i) rows cols m
reduced_nothing rows cols m i none reduced p j d p_less j_less other h =
    elim (cases_lt p i) [
      | inl before ↦ reduced p j d before j_less other h
      | inr after ↦ (let same : i ≡ p = omega arith in absurd (true≢false (sym h.here ∙ ap (λ x. m x d) (sym same) ∙ none d h.below)))
    ]

-- ---- row by row

abbrev pub PartCleared : ℕ → ℕ → (ℕ → ℕ → Bool) → (ℕ → ℕ → Bool) → ℕ → ℕ → ℕ → Type 0
PartCleared rows cols old new i c n =
    (r k : ℕ) → r < rows → k < cols → new r k ≡ differ (old r k) ((nat_lt r n && (not (r == i) && old r c)) && old i k)

pub part_none : (rows cols : ℕ) (m : ℕ → ℕ → Bool) (i c : ℕ) → PartCleared rows cols m m i c 0
part_none rows cols m i c r k r_less less =
    sym (ap (λ b. differ (m r k) ((b && (not (r == i) && m r c)) && m i k)) (le-ltb r 0 (omega arith)) ∙ differ-false_r (m r k))

pub part_all : (rows cols : ℕ) (old new : ℕ → ℕ → Bool) (i c : ℕ) → PartCleared rows cols old new i c rows → IsCleared rows cols old new i c
part_all rows cols old new i c part r k r_less less =
    part r k r_less less ∙ ap (λ b. differ (old r k) ((b && (not (r == i) && old r c)) && old i k)) (lt-ltb r rows r_less)

-- where column c is cleared by row i in the first n rows, clearing it in row n too makes n + 1
pub part_more : (rows cols : ℕ) (old now new : ℕ → ℕ → Bool) (i c n : ℕ) → i < rows → c < cols → n < rows → PartCleared rows cols old now i c n → IsClearedOne rows cols now new i c n
    → PartCleared rows cols old new i c (n + 1)
part_more rows cols old now new i c n i_less c_less n_less part one r k r_less less =
    let now_i : now i k ≡ old i k =
    part i k i_less less
    ∙ ap (λ b. differ (old i k) ((nat_lt i n && (not b && old i c)) && old i k)) (eq-eqb i i refl)
    ∙ ap (λ b. differ (old i k) (b && old i k)) (and-false (nat_lt i n)) ∙ differ-false_r (old i k) in
    one r k r_less less
    ∙ elim (cases_eq r n) [
      | inl same ↦
          (let fresh : (x : ℕ) → x < cols → now r x ≡ old r x =
          λ x x_less. part r x r_less x_less
          ∙ ap (λ b. differ (old r x) ((b && (not (r == i) && old r c)) && old i x)) (le-ltb r n (omega arith)) ∙ differ-false_r (old r x) in
          ap (λ b. differ b ((r == n && (not (r == i) && now r c)) && now i k)) (fresh k less)
          ∙ ap (λ b. differ (old r k) ((r == n && (not (r == i) && b)) && now i k)) (fresh c c_less)
          ∙ ap (λ b. differ (old r k) ((r == n && (not (r == i) && old r c)) && b)) now_i
          ∙ ap (λ b. differ (old r k) ((b && (not (r == i) && old r c)) && old i k)) (eq-eqb r n same ∙ sym (lt-ltb r (n + 1) (omega arith))))
      | inr other ↦
          ap (λ b. differ (now r k) ((b && (not (r == i) && now r c)) && now i k)) (ne_eqb r n other)
          ∙ differ-false_r (now r k)
          ∙ part r k r_less less
          ∙ ap (λ b. differ (old r k) ((b && (not (r == i) && old r c)) && old i k)) (more_test r n other)
    ]
  where
    more_test : (r n : ℕ) → r ≢ n → nat_lt r n ≡ nat_lt r (n + 1)
    more_test r n other =
        elim (cases_lt r n) [
          | inl lt ↦ lt-ltb r n lt ∙ sym (lt-ltb r (n + 1) (omega arith))
          | inr ge ↦ le-ltb r n ge ∙ sym (le-ltb r (n + 1) (omega arith))
        ]

-- the XORs of sets of rows are the same for a matrix and itself
pub sums_same : (rows cols : ℕ) (m : ℕ → ℕ → Bool) → SameSums rows cols m m
sums_same rows cols m v = (λ h. h, λ h. h)

-- the least columns of the first 0 rows are alone
pub reduced_none : (rows cols : ℕ) (m : ℕ → ℕ → Bool) → ReducedTo 0 rows cols m
reduced_none rows cols m p j c less = absurd (omega arith)

-- ---- fewer columns, where the others are empty

abbrev pub Empty : ℕ → ℕ → ℕ → (ℕ → ℕ → Bool) → Type 0
Empty cols big rows m = (i k : ℕ) → i < rows → cols ≤ k → k < big → m i k ≡ false

narrow_sums : (rows cols big : ℕ) (old new : ℕ → ℕ → Bool) → cols ≤ big → ((v : ℕ → Bool) → IsSumOfRows rows big old v → IsSumOfRows rows big new v)
    → (v : ℕ → Bool) → IsSumOfRows rows cols old v → IsSumOfRows rows cols new v
narrow_sums rows cols big old new le from v sum =
    let wide = from (sum_of_rows rows old sum.0) (sum.0, λ k less. refl) in
    (wide.0, λ k less. sum.1 k less ∙ wide.1 k (omega arith))

-- a reduction over some columns is one over fewer
pub narrow : (rows cols big : ℕ) (old new : ℕ → ℕ → Bool) → cols ≤ big → IsReduction rows big old new → IsReduction rows cols old new
narrow rows cols big old new le reduction = record {
  same_sums = λ v. (
    narrow_sums rows cols big old new le (λ u. (reduction.same_sums u).0) v,
    narrow_sums rows cols big new old le (λ u. (reduction.same_sums u).1) v,
  );
  reduced = λ i j c i_less j_less other lead.
      reduction.reduced i j c i_less j_less other (record { below = (let below = lead.below in omega arith); here = lead.here; least = lead.least });
}

-- columns from `cols` to before `big` that no old row has, no row of a reduction has
pub still_empty : (rows cols big : ℕ) (old new : ℕ → ℕ → Bool) → IsReduction rows big old new → Empty cols big rows old → Empty cols big rows new
still_empty rows cols big old new reduction empty i k i_less most less =
    let sum = (reduction.same_sums (new i)).1 (row_is_sum_of_rows rows big new i i_less) in
    sum.1 k less
    ∙ odd_below-none (λ j. sum.0 j && old j k) rows (λ j j_less. ap (λ b. sum.0 j && b) (empty j k j_less most less) ∙ and-false (sum.0 j))
