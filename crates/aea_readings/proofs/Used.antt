-- The columns that are used: a column for each block that is not known, and one of its own for each live equation.
use Rattle.std.proofs.Common.{◌≡◌, ℕ, zero, suc, ◌+◌, ◌-◌, ◌<◌, ◌≤◌, Bool, true, false, not, ◌&&◌, ◌==◌, List, [], ◌∷◌, ◌++◌, map, filter, length, get_or, Option, Some, None, refl, sym, ◌∙◌, ap, subst, arith, inl, inr}
use Rattle.std.specs.Prelude.{cond, nat_lt, option_map}
use Rattle.std.specs.List.{list_any}
use Rattle.std.proofs.lemmas.Bool.{cases_Bool, cases_lt, cases_eq, or_cases, eq-eqb, ne_eqb, eqb-true, lt-ltb, le-ltb, cond-true, cond-false, true≢false, false≢true}
use Rattle.std.proofs.lemmas.List.{map-append}
use Rattle.std.proofs.lemmas.List.Elements.{filter-append}
use Rattle.aea_lattice.specs.declared.blocks.Class.{Class}
use Rattle.aea_lattice.specs.declared.blocks.Class.TheVariants.{Datum}
use Rattle.aea_lattice.specs.declared.blocks.BlockId.{BlockId}
use Rattle.aea_lattice.specs.declared.blocks.EqId.{EqId}
use Rattle.aea_lattice.specs.declared.grid.Lattice.{Lattice}
use Rattle.aea_lattice.specs.Blocks.{block_of, class_number, same_block, HasBlock, HasParity, classes, number_of, blocks_count, blocks_to, blocks_of, block_at}
use Rattle.aea_lattice.specs.Strands.{nodes_to}
use Rattle.aea_lattice.specs.Equations.{HasEquation, is_in_equation, equation_of, equations_of}
use Rattle.aea_lattice.proofs.Equations.{number_below, number_equal, same_block-equal}
use Rattle.aea_lattice.proofs.Odd.{Each, Each-more}
use Rattle.aea_lattice.proofs.Once.{each-blocks_of, each-equations_of, each-classes}
use Rattle.aea_lattice.proofs.Among.{passing-among}
use Rattle.aea_gauss_laws.proofs.Columns.{odd_below-same}
use Rattle.aea_gauss_laws.proofs.Given.{and-no}
use Rattle.aea_lattice.proofs.BlockAt.{block_at-number, block_at-inside, number-block_at}
use Rattle.aea_gauss_words.specs.Matrices.{IsSumOfRows, IsReduction}
use Rattle.aea_fates.specs.Sums.{output_number}
use Rattle.aea_fates.specs.Live.{is_live, live_equations}
use Rattle.aea_readings.specs.Starts.{columns, equation_column, start}
use Rattle.aea_readings.specs.Small.{unknown_blocks, block_in, equation_in, own_column, small_start, nodes_at, equations_at}
use Rattle.aea_fates.proofs.Listing.{output_below}
use Rattle.aea_readings.proofs.Standing.{column_high, column_below, row_low, row_high}
use Rattle.aea_readings.proofs.Rising.{rises-filter, rises-at, blocks-rise, equations-rise, index_of, IsIndex, index-some, index-at, index-none}
use Rattle.aea_readings.proofs.Compact.{AreUsed, compact, there}

-- ---- lists

pub each-kept : {A : Type 0} → (P : A → Type 0) (p : A → Bool) (xs : List A) → Each P xs → Each (λ x. P x × (p x ≡ true)) (filter p xs)
each-kept P p [] h = tt
each-kept P p (x ∷ xs) h = elim (cases_Bool (p x)) [
  | inl yes' ↦ rw yes' ((h.0, yes'), each-kept P p xs h.1)
  | inr no' ↦ rw no' (each-kept P p xs h.1)
]

pub each-place : {A : Type 0} → (P : A → Type 0) (xs : List A) (d : A) → Each P xs → (k : ℕ) → k < length xs → P (get_or xs k d)
each-place P [] d each k less = absurd (omega arith)
each-place P (x ∷ xs) d each zero less = each.0
each-place P (x ∷ xs) d each (suc k) less = each-place P xs d each.1 k (omega arith)

-- the place of a block that is in a list
place_of : (bs : List BlockId) (b d : BlockId) → list_any (same_block b) bs ≡ true → (k : ℕ) × (k < length bs) × (get_or bs k d ≡ b)
place_of [] b d h = absurd (false≢true h)
place_of (c ∷ bs) b d h = elim (or_cases (same_block b c) (list_any (same_block b) bs) h) [
  | inl here ↦ (0, omega arith, sym (same_block-equal b c here))
  | inr there ↦ (let rest = place_of bs b d there in (suc rest.0, (let less = rest.1 in omega arith), rest.2))
]

pub nodes_at-filter : (p : ℕ → Bool) (q : BlockId → Bool) (bs : List BlockId) (d : BlockId) → ((k : ℕ) → k < length bs → p k ≡ q (get_or bs k d))
    → nodes_at p bs ≡ map (λ b. b.node) (filter (λ b. q b && class_number b.class == 0) bs)
nodes_at-filter p q [] d h = refl
nodes_at-filter p q (b ∷ bs) d h =
    let rest = nodes_at-filter (λ k. p (suc k)) q bs d (λ k less. h (suc k) (omega arith)) in
    let first : p 0 ≡ q b = h 0 (omega arith) in
    elim (cases_Bool (q b && class_number b.class == 0)) [
      | inl yes' ↦ (rw (first, yes') (ap (λ ns. b.node ∷ ns) rest))
      | inr no' ↦ (rw (first, no') rest)
    ]

pub equations_at-filter : (p : ℕ → Bool) (q : EqId → Bool) (es : List EqId) (d : EqId) → ((k : ℕ) → k < length es → p k ≡ q (get_or es k d))
    → equations_at p es ≡ filter q es
equations_at-filter p q [] d h = refl
equations_at-filter p q (e ∷ es) d h =
    let rest = equations_at-filter (λ k. p (suc k)) q es d (λ k less. h (suc k) (omega arith)) in
    let first : p 0 ≡ q e = h 0 (omega arith) in
    elim (cases_Bool (q e)) [
      | inl yes' ↦ (rw (first, yes') (ap (λ xs. e ∷ xs) rest))
      | inr no' ↦ (rw (first, no') rest)
    ]

-- the data among the blocks that pass, node by node
no_data : (q p : BlockId → Bool) (i : ℕ) (cs : List Class) → Each (λ c. 1 ≤ class_number c) cs
    → filter (λ b. q b && class_number b.class == 0) (filter p (map (block_of i) cs)) ≡ []
no_data q p i [] each = refl
no_data q p i (c ∷ cs) each =
    let rest = no_data q p i cs each.1 in
    let other : (class_number c == 0) ≡ false = ne_eqb (class_number c) 0 (λ same. (let first = each.0 in omega arith)) in
    elim (cases_Bool (p (block_of i c))) [
      | inl yes' ↦ (rw yes' (rw (other, and-no) rest))
      | inr no' ↦ (rw no' rest)
    ]

pub data_nodes : (l : Lattice) (q p : BlockId → Bool) (i : ℕ)
    → map (λ b. b.node) (filter (λ b. q b && class_number b.class == 0) (filter p (blocks_to l i)))
    ≡ filter (λ j. p (block_of j Datum) && q (block_of j Datum)) (nodes_to i)
data_nodes l q p zero = refl
data_nodes l q p (suc i) =
    let s : BlockId → Bool = λ b. q b && class_number b.class == 0 in
    let d = block_of (suc i) Datum in
    let parities : filter s (filter p (map (block_of (suc i)) (classes l))) ≡ [] =
    no_data q p (suc i) (classes l) (Each-more (HasParity l) (λ c. 1 ≤ class_number c) (classes l) (λ c h. h.parity) (each-classes l)) in
    ap (λ bs. map (λ b. b.node) (filter s bs)) (filter-append p (blocks_to l i) (map (block_of (suc i)) (Datum ∷ classes l)))
    ∙ ap (map (λ b. b.node)) (filter-append s (filter p (blocks_to l i)) (filter p (map (block_of (suc i)) (Datum ∷ classes l))))
    ∙ map-append (λ b. b.node) (filter s (filter p (blocks_to l i))) (filter s (filter p (map (block_of (suc i)) (Datum ∷ classes l))))
    ∙ ap (λ ns. ns ++ map (λ b. b.node) (filter s (filter p (map (block_of (suc i)) (Datum ∷ classes l))))) (data_nodes l q p i)
    ∙ ap (λ ns. filter (λ j. p (block_of j Datum) && q (block_of j Datum)) (nodes_to i) ++ ns) (row d parities)
    ∙ sym (filter-append (λ j. p (block_of j Datum) && q (block_of j Datum)) (nodes_to i) (suc i ∷ []))
  where
    row : (d : BlockId) → filter (λ b. q b && class_number b.class == 0) (filter p (map (block_of (suc i)) (classes l))) ≡ []
        → map (λ b. b.node) (filter (λ b. q b && class_number b.class == 0) (filter p (map (block_of (suc i)) (Datum ∷ classes l))))
        ≡ filter (λ j. p (block_of j Datum) && q (block_of j Datum)) (suc i ∷ [])
    row d parities = elim (cases_Bool (p (block_of (suc i) Datum))) [
      | inl yes' ↦ elim (cases_Bool (q (block_of (suc i) Datum))) [
        | inl passes ↦ (rw (yes', passes) (ap (λ bs. map (λ b. b.node) (block_of (suc i) Datum ∷ bs)) parities))
        | inr fails ↦ (rw (yes', fails) (ap (map (λ b. b.node)) parities))
      ]
      | inr no' ↦ (rw no' (ap (map (λ b. b.node)) parities))
    ]

-- ---- the used columns

start_sums : (rows cols : ℕ) (old now : ℕ → ℕ → Bool) → ((i k : ℕ) → i < rows → k < cols → now i k ≡ old i k) → (v : ℕ → Bool) → IsSumOfRows rows cols old v → IsSumOfRows rows cols now v
start_sums rows cols old now same v sum =
    (sum.0, λ k less. sum.1 k less ∙ odd_below-same (λ i. sum.0 i && old i k) (λ i. sum.0 i && now i k) rows (λ i i_less. ap (λ b. sum.0 i && b) (sym (same i k i_less less))))

pub reduction_from : (rows cols : ℕ) (old now new : ℕ → ℕ → Bool) → ((i k : ℕ) → i < rows → k < cols → now i k ≡ old i k) → IsReduction rows cols now new → IsReduction rows cols old new
reduction_from rows cols old now new same reduction = record {
  same_sums = λ v. (
    λ h. (reduction.same_sums v).0 (start_sums rows cols old now same v h),
    λ h. start_sums rows cols now old (λ i k i_less less. sym (same i k i_less less)) v ((reduction.same_sums v).1 h),
  );
  reduced = reduction.reduced;
}

module _ (l : Lattice) (known : BlockId → Bool) where
  abbrev pub us : List BlockId
  us = unknown_blocks l known

  abbrev pub es : List EqId
  es = live_equations l known

  abbrev pub u : ℕ
  u = length us

  abbrev pub e : ℕ
  e = length es

  abbrev pub block : ℕ → BlockId
  block a = block_in us a

  abbrev pub equation : ℕ → EqId
  equation i = equation_in es i

  pub block_facts : (a : ℕ) → a < u → HasBlock l (block a) × (not (known (block a)) ≡ true)
  block_facts a less =
      each-place (λ b. HasBlock l b × (not (known b) ≡ true)) us (block_of 0 Datum) (each-kept (HasBlock l) (λ b. not (known b)) (blocks_of l) (each-blocks_of l)) a less

  equation_facts : (i : ℕ) → i < e → HasEquation l (equation i) × (is_live l known (equation i) ≡ true)
  equation_facts i less =
      each-place (λ f. HasEquation l f × (is_live l known f ≡ true)) es (equation_of 0 Datum) (each-kept (HasEquation l) (is_live l known) (equations_of l) (each-equations_of l)) i less

  pub block_rise : (a b : ℕ) → a < b → b < u → number_of l (block a) < number_of l (block b)
  block_rise a b less inside =
      rises-at (number_of l) 0 us (block_of 0 Datum) (rises-filter (number_of l) (λ b. not (known b)) 0 (blocks_of l) (blocks-rise l)) a b less inside

  equation_fall : (i j : ℕ) → i < j → j < e → equation_column l (equation j) < equation_column l (equation i)
  equation_fall i j less inside =
      let rise = rises-at (output_number l) 0 es (equation_of 0 Datum) (rises-filter (output_number l) (is_live l known) 0 (equations_of l) (equations-rise l)) i j less inside in
      let below = output_below l (equation j) (equation_facts j inside).0 in
      omega arith

  abbrev pub used : ℕ → ℕ
  used a = cond (nat_lt a u) (number_of l (block a)) (equation_column l (equation (u + e - 1 - a)))

  pub used_low : (a : ℕ) → a < u → used a ≡ number_of l (block a)
  used_low a less = cond-true (nat_lt a u) (number_of l (block a)) (equation_column l (equation (u + e - 1 - a))) (lt-ltb a u less)

  pub used_high : (a : ℕ) → u ≤ a → used a ≡ equation_column l (equation (u + e - 1 - a))
  used_high a most = cond-false (nat_lt a u) (number_of l (block a)) (equation_column l (equation (u + e - 1 - a))) (le-ltb a u most)

  pub used_own : (i : ℕ) → i < e → used (own_column u e i) ≡ equation_column l (equation i)
  used_own i less =
      used_high (own_column u e i) (omega arith)
      ∙ ap (λ j. equation_column l (equation j)) (let same : u + e - 1 - own_column u e i ≡ i = omega arith in same)

  abbrev place_low : ℕ → Option ℕ
  place_low k = index_of (λ b. number_of l b == k) us

  abbrev place_high : ℕ → Option ℕ
  place_high k = option_map (λ j. own_column u e j) (index_of (λ f. equation_column l f == k) es)

  abbrev pub place : ℕ → Option ℕ
  place k = cond (nat_lt k (blocks_count l)) (place_low k) (place_high k)

  at_low : (k : ℕ) → k < blocks_count l → place k ≡ place_low k
  at_low k less = cond-true (nat_lt k (blocks_count l)) (place_low k) (place_high k) (lt-ltb k (blocks_count l) less)

  at_high : (k : ℕ) → blocks_count l ≤ k → place k ≡ place_high k
  at_high k most = cond-false (nat_lt k (blocks_count l)) (place_low k) (place_high k) (le-ltb k (blocks_count l) most)

  pub block_below : (a : ℕ) → a < u → number_of l (block a) < blocks_count l
  block_below a less = number_below l (block a) (block_facts a less).0

  placed_low : (a : ℕ) → a < u → place (number_of l (block a)) ≡ Some a
  placed_low a less =
      at_low (number_of l (block a)) (block_below a less)
      ∙ index-at (λ b. number_of l b == number_of l (block a)) us (block_of 0 Datum) a less (eq-eqb (number_of l (block a)) (number_of l (block a)) refl)
      (λ i before. ne_eqb (number_of l (block i)) (number_of l (block a)) (λ same. (let rise = block_rise i a before less in omega arith)))

  placed_high : (i : ℕ) → i < e → place (equation_column l (equation i)) ≡ Some (own_column u e i)
  placed_high i less =
      at_high (equation_column l (equation i)) (column_high l (equation i))
      ∙ ap (option_map (λ j. own_column u e j))
      (index-at (λ f. equation_column l f == equation_column l (equation i)) es (equation_of 0 Datum) i less (eq-eqb (equation_column l (equation i)) (equation_column l (equation i)) refl)
      (λ j before. ne_eqb (equation_column l (equation j)) (equation_column l (equation i)) (λ same. (let fall = equation_fall j i before less in omega arith))))

  pub record Found (k a : ℕ) : Type 0 where
    pub below : a < u + e
    pub is : used a ≡ k

  found_high : (k a : ℕ) (o : Option ℕ) → ((j : ℕ) → o ≡ Some j → IsIndex (λ f. equation_column l f == k) es (equation_of 0 Datum) j)
      → option_map (λ j. own_column u e j) o ≡ Some a → Found k a
  found_high k a None h is = absurd (cc)
  found_high k a (Some j) h is =
      let at = h j refl in
      let less = at.inside in
      let same : own_column u e j ≡ a = cc in
      subst (Found k) same (record { below = omega arith; is = used_own j less ∙ eqb-true (equation_column l (equation j)) k at.passes })

  pub found : (k a : ℕ) → place k ≡ Some a → Found k a
  found k a is = elim (cases_lt k (blocks_count l)) [
    | inl low ↦
        (let at = index-some (λ b. number_of l b == k) us (block_of 0 Datum) a (sym (at_low k low) ∙ is) in
        let less = at.inside in
        record { below = omega arith; is = used_low a less ∙ eqb-true (number_of l (block a)) k at.passes })
    | inr high ↦
        found_high k a (index_of (λ f. equation_column l f == k) es)
        (λ j h. index-some (λ f. equation_column l f == k) es (equation_of 0 Datum) j h) (sym (at_high k high) ∙ is)
  ]

  pub inside : (a : ℕ) → a < u + e → used a < columns l
  inside a less = elim (cases_lt a u) [
    | inl low ↦ (let is = used_low a low in let below = block_below a low in omega arith)
    | inr high ↦
        (let is = used_high a high in
        let below = column_below l (equation (u + e - 1 - a)) (equation_facts (u + e - 1 - a) (omega arith)).0 in
        omega arith)
  ]

  pub rising : (a b : ℕ) → a < b → b < u + e → used a < used b
  rising a b less b_less = elim (cases_lt b u) [
    | inl b_low ↦ (let x = used_low a (omega arith) in let y = used_low b b_low in let rise = block_rise a b less b_low in omega arith)
    | inr b_high ↦ elim (cases_lt a u) [
      | inl a_low ↦
          (let x = used_low a a_low in
          let y = used_high b b_high in
          let low = block_below a a_low in
          let high = column_high l (equation (u + e - 1 - b)) in
          omega arith)
      | inr a_high ↦
          (let x = used_high a a_high in
          let y = used_high b b_high in
          let fall = equation_fall (u + e - 1 - b) (u + e - 1 - a) (omega arith) (omega arith) in
          omega arith)
    ]
  ]

  pub placed : (a : ℕ) → a < u + e → place (used a) ≡ Some a
  placed a less = elim (cases_lt a u) [
    | inl low ↦ ap place (used_low a low) ∙ placed_low a low
    | inr high ↦
        ap place (used_high a high)
        ∙ placed_high (u + e - 1 - a) (omega arith)
        ∙ ap Some (let same : own_column u e (u + e - 1 - a) ≡ a = omega arith in same)
  ]

  pub are_used : AreUsed (u + e) (columns l) used place
  are_used = record {
    rising = rising;
    inside = inside;
    found = λ k a is. (let f = found k a is in (f.below, f.is));
    placed = placed;
  }

  -- an unknown block has a column
  unknown_placed : (k : ℕ) → k < blocks_count l → known (block_at l k) ≡ false → place k ≡ None → ⊥
  unknown_placed k less unknown none =
      let b = block_at l k in
      let at = place_of us b (block_of 0 Datum)
      ((passing-among l (λ b. not (known b)) b).1 (block_at-inside l k less, ap not unknown)) in
      true≢false
      (sym (eq-eqb (number_of l (get_or us at.0 (block_of 0 Datum))) k (ap (number_of l) at.2 ∙ number-block_at l k less))
      ∙ index-none (λ b. number_of l b == k) us (block_of 0 Datum) (sym (at_low k less) ∙ none) at.0 at.1)

  -- known blocks have none
  pub known_not_placed : (b : BlockId) → HasBlock l b → known b ≡ true → place (number_of l b) ≡ None
  known_not_placed b has is_known = none_of (place (number_of l b)) (λ a is.
      (let f = found (number_of l b) a is in
      let below = number_below l b has in
      elim (cases_lt a u) [
        | inl low ↦
            (let same : block a ≡ b = number_equal l (block a) b (block_facts a low).0 has (sym (used_low a low) ∙ f.is) in
            true≢false (sym (block_facts a low).1 ∙ ap (λ c. not (known c)) same ∙ ap not is_known))
        | inr high ↦ (let x = used_high a high in let y = f.is in let z = column_high l (equation (u + e - 1 - a)) in absurd (omega arith))
      ]))
    where
      none_of : (o : Option ℕ) → ((a : ℕ) → o ≡ Some a → ⊥) → o ≡ None
      none_of None h = refl
      none_of (Some a) h = absurd (h a refl)

  pub empty : (r k : ℕ) → r < e → k < columns l → place k ≡ None → start l known r k ≡ false
  empty r k r_less less none = elim (cases_lt k (blocks_count l)) [
    | inl low ↦
        row_low l known (equation r) k low
        ∙ elim (cases_Bool (known (block_at l k))) [
          | inl is_known ↦ ap (λ x. not x && is_in_equation l (equation r) (block_at l k)) is_known
          | inr unknown ↦ absurd (unknown_placed k low unknown none)
        ]
    | inr high ↦
        row_high l known (equation r) k high
        ∙ ne_eqb k (equation_column l (equation r)) (λ same. (let at : place k ≡ Some (own_column u e r) = ap place same ∙ placed_high r r_less in absurd (cc)))
  ]

  pub small_entry : (i a : ℕ) → i < e → a < u + e → small_start l us es i a ≡ compact used (start l known) i a
  small_entry i a i_less less = elim (cases_lt a u) [
    | inl low ↦
        cond-true (nat_lt a u) (is_in_equation l (equation i) (block a)) (a == own_column u e i) (lt-ltb a u low)
        ∙ sym
        (ap (start l known i) (used_low a low)
        ∙ row_low l known (equation i) (number_of l (block a)) (block_below a low)
        ∙ ap (λ b. not (known b) && is_in_equation l (equation i) b) (block_at-number l (block a) (block_facts a low).0)
        ∙ ap (λ x. x && is_in_equation l (equation i) (block a)) (block_facts a low).1)
    | inr high ↦
        cond-false (nat_lt a u) (is_in_equation l (equation i) (block a)) (a == own_column u e i) (le-ltb a u high)
        ∙ own_test a high less
        ∙ sym
        (ap (start l known i) (used_high a high)
        ∙ row_high l known (equation i) (equation_column l (equation (u + e - 1 - a))) (column_high l (equation (u + e - 1 - a))))
  ]
    where
      own_test : (a : ℕ) → u ≤ a → a < u + e → (a == own_column u e i) ≡ (equation_column l (equation (u + e - 1 - a)) == equation_column l (equation i))
      own_test a high below = elim (cases_eq a (own_column u e i)) [
        | inl same ↦
            eq-eqb a (own_column u e i) same
            ∙ sym (eq-eqb (equation_column l (equation (u + e - 1 - a))) (equation_column l (equation i))
            (ap (λ j. equation_column l (equation j)) (let back : u + e - 1 - a ≡ i = omega arith in back)))
        | inr other ↦
            ne_eqb a (own_column u e i) other
            ∙ sym (ne_eqb (equation_column l (equation (u + e - 1 - a))) (equation_column l (equation i))
            (λ same. elim (cases_lt (u + e - 1 - a) i) [
              | inl before ↦ (let fall = equation_fall (u + e - 1 - a) i before i_less in omega arith)
              | inr not_before ↦ elim (cases_lt i (u + e - 1 - a)) [
                | inl after ↦ (let fall = equation_fall i (u + e - 1 - a) after (omega arith) in omega arith)
                | inr not_after ↦ other (omega arith)
              ]
            ]))
      ]
