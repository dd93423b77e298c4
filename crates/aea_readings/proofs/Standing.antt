-- The rows of a lattice: each stands for a set of equations, and has what the set adds up to.
use Rattle.std.proofs.Common.{◌≡◌, ℕ, zero, suc, ◌*◌, ◌^◌, ◌<◌, ◌≤◌, ◌⊎◌, Bool, true, false, not, ◌&&◌, ◌==◌, List, [], ◌∷◌, All, map, length-append, filter, get_or, length, refl, sym, ◌∙◌, ap, subst, arith, inl, inr}
use Rattle.std.specs.Prelude.{nat_lt, nat_le}
use Rattle.std.proofs.lemmas.Bool.{cases_Bool, cases_eq, eq-eqb, ne_eqb, eqb-true, lt-ltb, le-ltb, cond-true, cond-false, true≢false, false≢true}
use Rattle.aea_lattice.specs.declared.blocks.Class.TheVariants.{Datum, Horiz, Right, Left}
use Rattle.aea_lattice.specs.declared.blocks.Class.{Class}
use Rattle.std.proofs.lemmas.List.{length-map}
use Rattle.std.proofs.lemmas.List.Sums.{length-filter, count_by-le-length}
use Rattle.aea_lattice.specs.declared.blocks.BlockId.{BlockId}
use Rattle.aea_lattice.specs.declared.blocks.EqId.{EqId}
use Rattle.aea_lattice.specs.declared.grid.Lattice.{Lattice}
use Rattle.aea_lattice.specs.Blocks.{class_number, block_of, blocks_count, classes, block_at}
use Rattle.aea_lattice.specs.Equations.{HasEquation, equation_of, equation_blocks, is_in_equation, is_odd_count, equations_of, equations_to, adds_up_to}
use Rattle.aea_lattice.proofs.Equations.{number_equal}
use Rattle.aea_lattice.specs.Parity.{differ}
use Rattle.aea_lattice.specs.Lists.{same_equation}
use Rattle.aea_lattice.proofs.Odd.{same_test, Each, Each-more, odd-same, odd-none}
use Rattle.aea_lattice.proofs.Once.{each-equations_of, odd-at_equation, same_equation-equal}
use Rattle.aea_lattice.proofs.Even.{adds-differ, adds-none, adds-one}
use Rattle.aea_gauss_laws.proofs.Given.{and-differ, and-no, odd_below-list}
use Rattle.aea_gauss_laws.proofs.Columns.{IsSpace}
use Rattle.aea_gauss_words.specs.Matrices.{sum_of_rows, IsReduction}
use Rattle.aea_fates.proofs.Listing.{output_inside, output_below, same_equation-refl, any_has}
use Rattle.aea_fates.specs.Sums.{output_number}
use Rattle.aea_fates.specs.Live.{is_live, live_equations}
use Rattle.aea_readings.specs.Starts.{equation_column, columns, row_at, start, rows_of}
use Rattle.aea_fates.proofs.Kept.{odd-filter}
use Rattle.aea_gauss_words.proofs.Reduced.{row_is_sum_of_rows, space_sum}

-- ---- columns

-- the column of an equation is after those of the blocks
pub column_high : (l : Lattice) (e : EqId) → blocks_count l ≤ equation_column l e
column_high l e = omega arith

-- the column of an equation of the lattice is one of the lattice's columns
pub column_below : (l : Lattice) (e : EqId) → HasEquation l e → equation_column l e < columns l
column_below l e has = let below = output_below l e has in omega arith

pub column_equal : (l : Lattice) (e f : EqId) → HasEquation l e → HasEquation l f → equation_column l e ≡ equation_column l f → e ≡ f
column_equal l e f he hf same =
    let below_e = output_below l e he in
    let below_f = output_below l f hf in
    let numbers : output_number l e ≡ output_number l f = omega arith in
    ap (λ b. equation_of b.node b.class)
    (number_equal l (block_of e.node e.class) (block_of f.node f.class) (output_inside l e he) (output_inside l f hf) numbers)

pub column-test : (l : Lattice) (e f : EqId) → HasEquation l e → HasEquation l f → (equation_column l f == equation_column l e) ≡ same_equation e f
column-test l e f he hf =
    elim (cases_Bool (same_equation e f)) [
      | inl yes' ↦ (let is : e ≡ f = same_equation-equal e f yes' in eq-eqb (equation_column l f) (equation_column l e) (ap (equation_column l) (sym is)) ∙ sym yes')
      | inr no' ↦
          ne_eqb (equation_column l f) (equation_column l e)
          (λ same. true≢false (sym (same_equation-refl e) ∙ ap (same_equation e) (sym (column_equal l f e hf he same)) ∙ no'))
          ∙ sym no'
    ]

-- ---- the row of an equation

-- at the column of a block the row of an equation has whether the block is unknown and is in the equation
pub row_low : (l : Lattice) (known : BlockId → Bool) (e : EqId) (k : ℕ) → k < blocks_count l
    → row_at l known e k ≡ (not (known (block_at l k)) && is_in_equation l e (block_at l k))
row_low l known e k less =
    cond-true (nat_lt k (blocks_count l)) (not (known (block_at l k)) && is_in_equation l e (block_at l k)) (k == equation_column l e) (lt-ltb k (blocks_count l) less)

-- after the blocks the row of an equation has the equation's own column alone
pub row_high : (l : Lattice) (known : BlockId → Bool) (e : EqId) (k : ℕ) → blocks_count l ≤ k → row_at l known e k ≡ (k == equation_column l e)
row_high l known e k most =
    cond-false (nat_lt k (blocks_count l)) (not (known (block_at l k)) && is_in_equation l e (block_at l k)) (k == equation_column l e) (le-ltb k (blocks_count l) most)

-- The test stands for a set of equations that have rows: it has them, and at the unknown blocks what they add up to.
pub record Stands (l : Lattice) (known : BlockId → Bool) (v : ℕ → Bool) : Type 0 where
  pub set : EqId → Bool
  pub entry : (e : EqId) → HasEquation l e → v (equation_column l e) ≡ set e
  pub live : (e : EqId) → HasEquation l e → set e ≡ true → is_live l known e ≡ true
  pub low : (k : ℕ) → k < blocks_count l → v k ≡ (not (known (block_at l k)) && adds_up_to l set (block_at l k))
  pub high : (k : ℕ) → blocks_count l ≤ k → k < columns l → v k ≡ true → (e : EqId) × HasEquation l e × (k ≡ equation_column l e)

differ-some : (a b : Bool) → differ a b ≡ true → (a ≡ true) ⊎ (b ≡ true)
differ-some true b h = inl refl
differ-some false b h = inr h

pub stands_space : (l : Lattice) (known : BlockId → Bool) → IsSpace (Stands l known)
stands_space l known = record {
  none = record {
    set = λ e. false;
    entry = λ e has. refl;
    live = λ e has h. absurd (false≢true h);
    low = λ k less. sym (ap (λ b. not (known (block_at l k)) && b) (adds-none l (block_at l k)) ∙ and-no (not (known (block_at l k))));
    high = λ k most less h. absurd (false≢true h);
  };
  sum = λ u v hu hv. record {
    set = λ e. differ (hu.set e) (hv.set e);
    entry = λ e has. ap (λ b. differ b (v (equation_column l e))) (hu.entry e has) ∙ ap (differ (hu.set e)) (hv.entry e has);
    live = λ e has h. elim (differ-some (hu.set e) (hv.set e) h) [ inl a ↦ hu.live e has a | inr b ↦ hv.live e has b ];
    low = λ k less.
        ap (λ b. differ b (v k)) (hu.low k less) ∙ ap (differ (not (known (block_at l k)) && adds_up_to l hu.set (block_at l k))) (hv.low k less)
        ∙ sym (and-differ (not (known (block_at l k))) (adds_up_to l hu.set (block_at l k)) (adds_up_to l hv.set (block_at l k)))
        ∙ ap (λ b. not (known (block_at l k)) && b) (sym (adds-differ l hu.set hv.set (block_at l k)));
    high = λ k most less h. elim (differ-some (u k) (v k) h) [ inl a ↦ hu.high k most less a | inr b ↦ hv.high k most less b ];
  };
}

pub stands_row : (l : Lattice) (known : BlockId → Bool) (e : EqId) → HasEquation l e → is_live l known e ≡ true → Stands l known (row_at l known e)
stands_row l known e has live = record {
  set = same_equation e;
  entry = λ f hf. row_high l known e (equation_column l f) (column_high l f) ∙ column-test l e f has hf;
  live = λ f hf same. subst (λ g. is_live l known g ≡ true) (same_equation-equal e f same) live;
  low = λ k less. row_low l known e k less ∙ ap (λ b. not (known (block_at l k)) && b) (sym (adds-one l e (block_at l k) has));
  high = λ k most less h. (e, has, eqb-true k (equation_column l e) (sym (row_high l known e k most) ∙ h));
}

pub stands_same : (l : Lattice) (known : BlockId → Bool) (u v : ℕ → Bool) → ((k : ℕ) → k < columns l → v k ≡ u k) → Stands l known u → Stands l known v
stands_same l known u v same h = record {
  set = h.set;
  entry = λ e has. same (equation_column l e) (column_below l e has) ∙ h.entry e has;
  live = h.live;
  low = λ k less. same k (omega arith) ∙ h.low k less;
  high = λ k most less here. h.high k most less (sym (same k less) ∙ here);
}

-- each item of the kept ones is of the list and passes
record IsKept (l : Lattice) (known : BlockId → Bool) (e : EqId) : Type 0 where
  pub has : HasEquation l e
  pub live : is_live l known e ≡ true

each-kept : (l : Lattice) (known : BlockId → Bool) (es : List EqId) → Each (HasEquation l) es → Each (IsKept l known) (filter (is_live l known) es)
each-kept l known [] each = tt
each-kept l known (e ∷ es) each =
    elim (cases_Bool (is_live l known e)) [
      | inl yes' ↦ rw yes' (record { has = each.0; live = yes' }, each-kept l known es each.1)
      | inr no' ↦ rw no' (each-kept l known es each.1)
    ]

each_place : {A : Type 0} → (P : A → Type 0) (xs : List A) (k : ℕ) (d : A) → Each P xs → k < length xs → P (get_or xs k d)
each_place P [] k d each less = absurd (omega arith)
each_place P (x ∷ xs) zero d each less = each.0
each_place P (x ∷ xs) (suc k) d each less = each_place P xs k d each.1 (omega arith)

pub stands_start : (l : Lattice) (known : BlockId → Bool) (i : ℕ) → i < rows_of l known → Stands l known (start l known i)
stands_start l known i less =
    let kept = each_place (IsKept l known) (live_equations l known) i (equation_of 0 Datum) (each-kept l known (equations_of l) (each-equations_of l)) less in
    stands_row l known (get_or (live_equations l known) i (equation_of 0 Datum)) kept.has kept.live

-- each row of a reduction stands for equations
pub stands_reduced : (l : Lattice) (known : BlockId → Bool) (m : ℕ → ℕ → Bool) → IsReduction (rows_of l known) (columns l) (start l known) m
    → (i : ℕ) → i < rows_of l known → Stands l known (m i)
stands_reduced l known m reduction i less =
    let sum = (reduction.same_sums (m i)).1 (row_is_sum_of_rows (rows_of l known) (columns l) m i less) in
    stands_same l known (sum_of_rows (rows_of l known) (start l known) sum.0) (m i) sum.1
    (space_sum (Stands l known) (stands_space l known) (start l known) (rows_of l known) (λ j j_less. stands_start l known j j_less) sum.0)

-- ---- the sum of the rows of a set of equations

abbrev pub sum_of_set : Lattice → (BlockId → Bool) → (EqId → Bool) → ℕ → Bool
sum_of_set l known q = sum_of_rows (rows_of l known) (start l known) (λ i. q (get_or (live_equations l known) i (equation_of 0 Datum)))

sum_of_set-list : (l : Lattice) (known : BlockId → Bool) (q : EqId → Bool) (k : ℕ)
    → sum_of_set l known q k ≡ is_odd_count (λ e. is_live l known e && (q e && row_at l known e k)) (equations_of l)
sum_of_set-list l known q k =
    odd_below-list (λ e. q e && row_at l known e k) (live_equations l known) (equation_of 0 Datum)
    ∙ odd-filter (λ e. q e && row_at l known e k) (is_live l known) (equations_of l)

low_term : (l : Lattice) (known : BlockId → Bool) (q : EqId → Bool) (k : ℕ) → k < blocks_count l → (e : EqId)
    → (is_live l known e && (q e && row_at l known e k)) ≡ (not (known (block_at l k)) && (q e && is_in_equation l e (block_at l k)))
low_term l known q k less e =
    ap (λ b. is_live l known e && (q e && b)) (row_low l known e k less)
    ∙ elim (cases_Bool (not (known (block_at l k)))) [
      | inl unknown ↦ elim (cases_Bool (is_in_equation l e (block_at l k))) [
        | inl member ↦ (let live : is_live l known e ≡ true = any_has (λ d. not (known d)) (block_at l k) (equation_blocks l e) member unknown in rw (live, unknown, member) refl)
        | inr apart ↦ (rw (unknown, apart) (ap (λ b. is_live l known e && b) (and-no (q e)) ∙ and-no (is_live l known e) ∙ sym (and-no (q e))))
      ]
      | inr is_known ↦ (rw is_known (ap (λ b. is_live l known e && b) (and-no (q e)) ∙ and-no (is_live l known e)))
    ]

odd-guard : (b : Bool) (p : EqId → Bool) (es : List EqId) → is_odd_count (λ e. b && p e) es ≡ (b && is_odd_count p es)
odd-guard true p es = refl
odd-guard false p es = odd-none es

-- at an unknown block it has what the set adds up to
pub set_low : (l : Lattice) (known : BlockId → Bool) (q : EqId → Bool) (k : ℕ) → k < blocks_count l
    → sum_of_set l known q k ≡ (not (known (block_at l k)) && adds_up_to l q (block_at l k))
set_low l known q k less =
    sum_of_set-list l known q k
    ∙ ap (λ p. is_odd_count p (equations_of l))
    (same_test (λ e. is_live l known e && (q e && row_at l known e k)) (λ e. not (known (block_at l k)) && (q e && is_in_equation l e (block_at l k))) (low_term l known q k less))
    ∙ odd-guard (not (known (block_at l k))) (λ e. q e && is_in_equation l e (block_at l k)) (equations_of l)

and-turn : (a b c : Bool) → (a && (b && c)) ≡ (c && (a && b))
and-turn true true true = refl
and-turn true true false = refl
and-turn true false true = refl
and-turn true false false = refl
and-turn false b true = refl
and-turn false b false = refl

-- at the column of an equation, whether the set has it and it has an unknown block
pub set_entry : (l : Lattice) (known : BlockId → Bool) (q : EqId → Bool) (f : EqId) → HasEquation l f
    → sum_of_set l known q (equation_column l f) ≡ (is_live l known f && q f)
set_entry l known q f hf =
    sum_of_set-list l known q (equation_column l f)
    ∙ odd-same (λ e. is_live l known e && (q e && row_at l known e (equation_column l f))) (λ e. same_equation f e && (is_live l known e && q e)) (equations_of l)
    (Each-more (HasEquation l) (λ e. (is_live l known e && (q e && row_at l known e (equation_column l f))) ≡ (same_equation f e && (is_live l known e && q e))) (equations_of l)
    (λ e he.
    ap (λ b. is_live l known e && (q e && b)) (row_high l known e (equation_column l f) (column_high l f) ∙ column-sym l e f he hf)
    ∙ and-turn (is_live l known e) (q e) (same_equation f e)) (each-equations_of l))
    ∙ odd-at_equation l f (λ e. is_live l known e && q e) hf
  where
    eqb_sym : (a b : ℕ) → (a == b) ≡ (b == a)
    eqb_sym a b = elim (cases_eq a b) [ inl e ↦ eq-eqb a b e ∙ sym (eq-eqb b a (sym e)) | inr n ↦ ne_eqb a b n ∙ sym (ne_eqb b a (λ e. n (sym e))) ]

    column-sym : (l : Lattice) (e f : EqId) → HasEquation l e → HasEquation l f → (equation_column l f == equation_column l e) ≡ same_equation f e
    column-sym l e f he hf = eqb_sym (equation_column l f) (equation_column l e) ∙ column-test l f e hf he

-- above the blocks it has columns of equations alone
pub set_high : (l : Lattice) (known : BlockId → Bool) (q : EqId → Bool) (k : ℕ) → blocks_count l ≤ k → k < columns l → sum_of_set l known q k ≡ true
    → (e : EqId) × HasEquation l e × (k ≡ equation_column l e)
set_high l known q k most less here =
    (space_sum (Stands l known) (stands_space l known) (start l known) (rows_of l known) (λ j j_less. stands_start l known j j_less)
    (λ i. q (get_or (live_equations l known) i (equation_of 0 Datum)))).high k most less here

-- ---- the equations that have rows

-- the equations that have an unknown block are equations of the lattice
pub live_inside : (l : Lattice) (known : BlockId → Bool) → All (HasEquation l) (live_equations l known)
live_inside l known k d less =
    (each_place (IsKept l known) (live_equations l known) k d (each-kept l known (equations_of l) (each-equations_of l)) less).has

row_few : (p : Class → Bool) → length (filter p (Horiz ∷ Right ∷ Left ∷ [])) ≤ 3
row_few p = omega (arith, length-filter p (Horiz ∷ Right ∷ Left ∷ []), count_by-le-length p (Horiz ∷ Right ∷ Left ∷ []))

equations_few : (l : Lattice) (i : ℕ) → length (equations_to l i) ≤ 3 * i
equations_few l zero = omega arith
equations_few l (suc i) =
    let before = equations_few l i in
    let row : length (map (equation_of (suc i)) (classes l)) ≤ 3 = (let few = row_few (λ c. nat_le (class_number c) l.alpha) in let same = length-map (classes l) (equation_of (suc i)) in omega arith) in
    let both = length-append (equations_to l i) (map (equation_of (suc i)) (classes l)) in
    omega arith

-- fewer than 2^23 equations have an unknown block
pub live_few : (l : Lattice) (known : BlockId → Bool) → length (live_equations l known) < 2 ^ 23
live_few l known =
    let a = length-filter (is_live l known) (equations_of l) in
    let b = count_by-le-length (is_live l known) (equations_of l) in
    let c = equations_few l l.n in
    let d : l.n ≤ 1048576 = l.in_range in
    omega arith
