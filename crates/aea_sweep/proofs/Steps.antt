-- The steps of the sweep.
use Rattle.std.proofs.Common.{◌≡◌, ◌≢◌, ℕ, suc, ◌<◌, ◌≤◌, inl, inr, Bool, true, false, ◌&&◌, ◌==◌, cond, refl, sym, ◌∙◌, ap, subst, arith, IsTrue}
use Rattle.std.proofs.lemmas.Bool.{cases_Bool, cases_lt, cases_eq, eq-eqb, ne_eqb, eqb-true, true≢false, false≢true}
use Rattle.aea_lattice.specs.declared.blocks.Class.TheVariants.{Datum}
use Rattle.aea_lattice.specs.declared.blocks.BlockId.{BlockId}
use Rattle.aea_lattice.specs.declared.grid.Lattice.{Lattice}
use Rattle.aea_lattice.specs.Blocks.{HasBlock, block_of}
use Rattle.aea_lattice.specs.Equations.{is_in_codeword}
use Rattle.aea_lattice.specs.Parity.{differ}
use Rattle.aea_gauss_laws.specs.Parities.{odd_below}
use Rattle.aea_lattice.proofs.Odd.{same_test, differ-self, differ-false_r, differ-and}
use Rattle.aea_gauss_laws.proofs.Columns.{odd_below-one, odd_below-same, odd_below-differ, and-true, and-false}
use Rattle.aea_sweep.specs.Sweep.{IsOpen, AreWords, sum_of_words, with_added}
use Rattle.aea_sweep.proofs.StepLaws.{Sees, without_row, with_node, PassesDatum, AddsDatum, PassesBlock, EndsWord, AddsWord}
use Rattle.aea_sweep.proofs.Codes.{one_of, added_twice, codeword-differ, codeword-none, codeword-sum, codeword-late, odd_below-and_r}

-- ---- open sets

-- what was seen before is missed
fewer : (l : Lattice) (m : ℕ) (seen new : BlockId → Bool) (b : BlockId) → Sees l seen new b → (v : ℕ → Bool) → IsOpen l m new v → IsOpen l m seen v
fewer l m seen new b sees v o = record { first = o.first; last = o.last; misses = λ d has s. o.misses d has (sees.0 d has s) }

-- an open set without the block misses it too
more : (l : Lattice) (m : ℕ) (seen new : BlockId → Bool) (b : BlockId) → Sees l seen new b → (v : ℕ → Bool) → is_in_codeword l v b ≡ false → IsOpen l m seen v → IsOpen l m new v
more l m seen new b sees v lacks o = record {
  first = o.first;
  last = o.last;
  misses = λ d has s. elim (sees.2 d has s) [
    | inl old ↦ o.misses d has old
    | inr same ↦ ap (is_in_codeword l v) same ∙ lacks
  ];
}

-- one more node may be there
wider : (l : Lattice) (m : ℕ) (seen : BlockId → Bool) (v : ℕ → Bool) → IsOpen l m seen v → IsOpen l (suc m) seen v
wider l m seen v o = record { first = o.first; last = λ i h. (let low = o.last i h in omega arith); misses = o.misses }

-- the last node is not there
narrower : (l : Lattice) (m : ℕ) (seen : BlockId → Bool) (v : ℕ → Bool) → v (suc m) ≡ false → IsOpen l (suc m) seen v → IsOpen l m seen v
narrower l m seen v no_last o = record {
  first = o.first;
  last = λ i h. elim (cases_eq i (suc m)) [
    | inl same ↦ absurd (true≢false (sym h ∙ ap v same ∙ no_last))
    | inr other ↦ let low = o.last i h in omega arith
  ];
  misses = o.misses;
}

pub open_none : (l : Lattice) (m : ℕ) (seen : BlockId → Bool) → IsOpen l m seen (λ i. false)
open_none l m seen = record { first = λ i h. absurd (false≢true h); last = λ i h. absurd (false≢true h); misses = λ d has s. codeword-none l d }

open_and : (l : Lattice) (m : ℕ) (seen : BlockId → Bool) (q : Bool) (v : ℕ → Bool) → IsOpen l m seen v → IsOpen l m seen (λ i. q && v i)
open_and l m seen true v o = o
open_and l m seen false v o = open_none l m seen

open_differ : (l : Lattice) (m : ℕ) (seen : BlockId → Bool) (u v : ℕ → Bool) → IsOpen l m seen u → IsOpen l m seen v → IsOpen l m seen (λ i. differ (u i) (v i))
open_differ l m seen u v ou ov = record {
  first = λ i h. elim (one_of (u i) (v i) h) [ inl a ↦ ou.first i a | inr a ↦ ov.first i a ];
  last = λ i h. elim (one_of (u i) (v i) h) [ inl a ↦ ou.last i a | inr a ↦ ov.last i a ];
  misses = λ d has s. codeword-differ l u v d ∙ ap (λ x. differ x (is_in_codeword l v d)) (ou.misses d has s) ∙ ov.misses d has s;
}

-- ---- a known datum

datum_inside : (l : Lattice) (i : ℕ) → 1 ≤ i → i ≤ l.n → HasBlock l (block_of i Datum)
datum_inside l i first last = record { first = first; last = last; used = omega arith }

pub passes_datum : PassesDatum
passes_datum l m seen new rows words inside sees w = record {
  each = λ r less.
      (let o = w.each r less in
      let no_last : words r (suc m) ≡ false = (elim (cases_Bool (words r (suc m))) [
        | inl yes' ↦ (let low = o.last (suc m) yes' in absurd (omega arith))
        | inr no' ↦ no'
      ]) in
      wider l m new (words r) (more l m seen new (block_of (suc m) Datum) sees (words r) no_last o));
  whole = λ v o.
      (let no_last : v (suc m) ≡ false = o.misses (block_of (suc m) Datum) (datum_inside l (suc m) (omega arith) inside) sees.1 in
      w.whole v (fewer l m seen new (block_of (suc m) Datum) sees v (narrower l m new v no_last o)));
}

-- ---- an unknown datum

module _ (l : Lattice) (m : ℕ) (seen : BlockId → Bool) (rows : ℕ) (words : ℕ → ℕ → Bool)
    (early : (d : BlockId) → HasBlock l d → IsTrue (seen d) → d.node ≤ m) (w : AreWords l m seen rows words) where
  abbrev new : ℕ → ℕ → Bool
  new = with_node words rows (suc m)

  old_row : (r i : ℕ) → r < rows → new r i ≡ words r i
  old_row r i less = ap (λ b. cond b (i == suc m) (words r i)) (ne_eqb r rows (λ same. omega arith))

  own_row : (r i : ℕ) → r ≡ rows → new r i ≡ (i == suc m)
  own_row r i same = ap (λ b. cond b (i == suc m) (words r i)) (eq-eqb r rows same)

  lacks : (d : BlockId) → HasBlock l d → IsTrue (seen d) → is_in_codeword l (λ i. i == suc m) d ≡ false
  lacks d has s = codeword-late l (λ i. i == suc m) d has (λ k first low. ne_eqb k (suc m) (λ same. let most = early d has s in omega arith))

  open_node : IsOpen l (suc m) seen (λ i. i == suc m)
  open_node = record {
    first = λ i h. (let same = eqb-true i (suc m) h in omega arith);
    last = λ i h. (let same = eqb-true i (suc m) h in omega arith);
    misses = lacks;
  }

  open_row : (r : ℕ) → r < suc rows → IsOpen l (suc m) seen (new r)
  open_row r less = elim (cases_lt r rows) [
    | inl below ↦ subst (IsOpen l (suc m) seen) (sym (same_test (new r) (words r) (λ i. old_row r i below))) (wider l m seen (words r) (w.each r below))
    | inr top ↦ (let same : r ≡ rows = omega arith in
        subst (IsOpen l (suc m) seen) (sym (same_test (new r) (λ i. i == suc m) (λ i. own_row r i same))) open_node)
  ]

  module _ (v : ℕ → Bool) (o : IsOpen l (suc m) seen v) where
    abbrev less_node : ℕ → Bool
    less_node i = differ (v i) (v (suc m) && (i == suc m))

    no_last : less_node (suc m) ≡ false
    no_last =
        ap (λ x. differ (v (suc m)) (v (suc m) && x)) (eq-eqb (suc m) (suc m) refl)
        ∙ ap (differ (v (suc m))) (and-true (v (suc m))) ∙ differ-self (v (suc m))

    open_less : IsOpen l m seen less_node
    open_less =
        narrower l m seen less_node no_last
        (open_differ l (suc m) seen v (λ i. v (suc m) && (i == suc m)) o (open_and l (suc m) seen (v (suc m)) (λ i. i == suc m) open_node))

    abbrev old_picks : ℕ → Bool
    old_picks = (w.whole less_node open_less).0

    abbrev picks : ℕ → Bool
    picks r = cond (r == rows) (v (suc m)) (old_picks r)

    old_pick : (r : ℕ) → r < rows → picks r ≡ old_picks r
    old_pick r less = ap (λ b. cond b (v (suc m)) (old_picks r)) (ne_eqb r rows (λ same. omega arith))

    own_pick : picks rows ≡ v (suc m)
    own_pick = ap (λ b. cond b (v (suc m)) (old_picks rows)) (eq-eqb rows rows refl)

    sums : (i : ℕ) → v i ≡ sum_of_words (suc rows) new picks i
    sums i =
        sym
        (ap (λ x. differ x (picks rows && new rows i))
        (odd_below-same (λ r. picks r && new r i) (λ r. old_picks r && words r i) rows
        (λ r less. ap (λ x. x && new r i) (old_pick r less) ∙ ap (λ x. old_picks r && x) (old_row r i less)))
        ∙ ap (λ x. differ x (picks rows && new rows i)) (sym ((w.whole less_node open_less).1 i))
        ∙ ap (differ (less_node i)) (ap (λ x. x && new rows i) own_pick ∙ ap (λ x. v (suc m) && x) (own_row rows i refl))
        ∙ added_twice (v i) (v (suc m) && (i == suc m)))

pub adds_datum : AddsDatum
adds_datum l m seen rows words early w = record {
  each = open_row l m seen rows words early w;
  whole = λ v o. (picks l m seen rows words early w v o, sums l m seen rows words early w v o);
}

-- ---- a known block

pub passes_block : PassesBlock
passes_block l m seen new rows words b has sees lack w = record {
  each = λ r less. more l m seen new b sees (words r) (lack r less) (w.each r less);
  whole = λ v o. w.whole v (fewer l m seen new b sees v o);
}

module _ (l : Lattice) (m : ℕ) (seen new : BlockId → Bool) (rows : ℕ) (words : ℕ → ℕ → Bool) (b : BlockId) (t : ℕ)
    (has : HasBlock l b) (sees : Sees l seen new b) (inside : t < rows) (here : is_in_codeword l (words t) b ≡ true)
    (others : (r : ℕ) → r < rows → r ≢ t → is_in_codeword l (words r) b ≡ false) (w : AreWords l m seen rows words) where
  gone_row : (r i : ℕ) → r ≡ t → without_row words t r i ≡ false
  gone_row r i same = ap (λ x. cond x false (words r i)) (eq-eqb r t same)

  kept_row : (r i : ℕ) → r ≢ t → without_row words t r i ≡ words r i
  kept_row r i other = ap (λ x. cond x false (words r i)) (ne_eqb r t other)

  left_row : (r : ℕ) → r < rows → IsOpen l m new (without_row words t r)
  left_row r less = elim (cases_eq r t) [
    | inl same ↦ subst (IsOpen l m new) (sym (same_test (without_row words t r) (λ i. false) (λ i. gone_row r i same))) (open_none l m new)
    | inr other ↦ subst (IsOpen l m new) (sym (same_test (without_row words t r) (words r) (λ i. kept_row r i other))) (more l m seen new b sees (words r) (others r less other) (w.each r less))
  ]

  module _ (v : ℕ → Bool) (o : IsOpen l m new v) where
    abbrev kept_picks : ℕ → Bool
    kept_picks = (w.whole v (fewer l m seen new b sees v o)).0

    is_sum : v ≡ (λ i. sum_of_words rows words kept_picks i)
    is_sum = same_test v (λ i. sum_of_words rows words kept_picks i) (w.whole v (fewer l m seen new b sees v o)).1

    not_picked : kept_picks t ≡ false
    not_picked =
        sym (and-true (kept_picks t)) ∙ ap (λ x. kept_picks t && x) (sym here)
        ∙ sym (odd_below-one (λ r. kept_picks r && is_in_codeword l (words r) b) rows t inside
        (λ r less other. ap (λ x. kept_picks r && x) (others r less other) ∙ and-false (kept_picks r)))
        ∙ sym (codeword-sum l words kept_picks rows b) ∙ ap (λ u. is_in_codeword l u b) (sym is_sum) ∙ o.misses b has sees.1

    left_sums : (i : ℕ) → v i ≡ sum_of_words rows (without_row words t) kept_picks i
    left_sums i =
        (w.whole v (fewer l m seen new b sees v o)).1 i
        ∙ odd_below-same (λ r. kept_picks r && words r i) (λ r. kept_picks r && without_row words t r i) rows
        (λ r less. elim (cases_eq r t) [
          | inl same ↦ (let off : kept_picks r ≡ false = ap kept_picks same ∙ not_picked in ap (λ x. x && words r i) off ∙ sym (ap (λ x. x && without_row words t r i) off))
          | inr other ↦ ap (λ x. kept_picks r && x) (sym (kept_row r i other))
        ])

pub ends_word : EndsWord
ends_word l m seen new rows words b t has sees inside here others w = record {
  each = left_row l m seen new rows words b t has sees inside here others w;
  whole = λ v o. (kept_picks l m seen new rows words b t has sees inside here others w v o, left_sums l m seen new rows words b t has sees inside here others w v o);
}

-- ---- a word is added to others

module _ (l : Lattice) (m : ℕ) (seen : BlockId → Bool) (rows : ℕ) (words : ℕ → ℕ → Bool) (t : ℕ) (hit : ℕ → Bool)
    (inside : t < rows) (not_itself : hit t ≡ false) (w : AreWords l m seen rows words) where
  added_row : (r : ℕ) → r < rows → IsOpen l m seen (with_added words t hit r)
  added_row r less = open_differ l m seen (words r) (λ i. hit r && words t i) (w.each r less) (open_and l m seen (hit r) (words t) (w.each t inside))

  module _ (v : ℕ → Bool) (o : IsOpen l m seen v) where
    abbrev p : ℕ → Bool
    p = (w.whole v o).0

    abbrev hits : Bool
    hits = odd_below (λ r. p r && hit r) rows

    abbrev q : ℕ → Bool
    q r = differ (p r) ((r == t) && hits)

    same_hit : (r : ℕ) → (q r && hit r) ≡ (p r && hit r)
    same_hit r = elim (cases_eq r t) [
      | inl same ↦ (let off : hit r ≡ false = ap hit same ∙ not_itself in ap (λ x. q r && x) off ∙ and-false (q r) ∙ sym (ap (λ x. p r && x) off ∙ and-false (p r)))
      | inr other ↦ ap (λ x. differ (p r) (x && hits) && hit r) (ne_eqb r t other) ∙ ap (λ x. x && hit r) (differ-false_r (p r))
    ]

    and-assoc : (a b c : Bool) → (a && (b && c)) ≡ ((a && b) && c)
    and-assoc true b c = refl
    and-assoc false b c = refl

    and-over : (a b c : Bool) → (a && differ b c) ≡ differ (a && b) (a && c)
    and-over true b c = refl
    and-over false b c = refl

    first_part : (i : ℕ) → odd_below (λ r. q r && words r i) rows ≡ differ (v i) (hits && words t i)
    first_part i =
        odd_below-same (λ r. q r && words r i) (λ r. differ (p r && words r i) (((r == t) && hits) && words r i)) rows
        (λ r less. differ-and (p r) ((r == t) && hits) (words r i))
        ∙ odd_below-differ (λ r. p r && words r i) (λ r. ((r == t) && hits) && words r i) rows
        ∙ ap (λ x. differ x (odd_below (λ r. ((r == t) && hits) && words r i) rows)) (sym ((w.whole v o).1 i))
        ∙ ap (differ (v i))
        (odd_below-one (λ r. ((r == t) && hits) && words r i) rows t inside (λ r less other. ap (λ x. (x && hits) && words r i) (ne_eqb r t other))
        ∙ ap (λ x. (x && hits) && words t i) (eq-eqb t t refl))

    second_part : (i : ℕ) → odd_below (λ r. q r && (hit r && words t i)) rows ≡ (hits && words t i)
    second_part i =
        odd_below-same (λ r. q r && (hit r && words t i)) (λ r. (p r && hit r) && words t i) rows
        (λ r less. and-assoc (q r) (hit r) (words t i) ∙ ap (λ x. x && words t i) (same_hit r))
        ∙ odd_below-and_r (λ r. p r && hit r) (words t i) rows

    added_sums : (i : ℕ) → v i ≡ sum_of_words rows (with_added words t hit) q i
    added_sums i =
        sym
        (odd_below-same (λ r. q r && with_added words t hit r i) (λ r. differ (q r && words r i) (q r && (hit r && words t i))) rows
        (λ r less. and-over (q r) (words r i) (hit r && words t i))
        ∙ odd_below-differ (λ r. q r && words r i) (λ r. q r && (hit r && words t i)) rows
        ∙ ap (λ x. differ x (odd_below (λ r. q r && (hit r && words t i)) rows)) (first_part i)
        ∙ ap (differ (differ (v i) (hits && words t i))) (second_part i)
        ∙ added_twice (v i) (hits && words t i))

pub adds_word : AddsWord
adds_word l m seen rows words t hit inside not_itself w = record {
  each = added_row l m seen rows words t hit inside not_itself w;
  whole = λ v o. (q l m seen rows words t hit inside not_itself w v o, added_sums l m seen rows words t hit inside not_itself w v o);
}
