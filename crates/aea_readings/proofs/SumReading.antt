-- A row whose least column is a block and that has no further block gives the block's listed equations.
use Rattle.std.proofs.Common.{◌≡◌, ℕ, ◌<◌, Bool, true, false, not, ◌&&◌, get_or, refl, sym, ◌∙◌, ap, subst, arith, inl, inr}
use Rattle.std.proofs.lemmas.Bool.{cases_Bool, cases_lt, cases_eq, and_parts, and_from, true≢false, false≢true}
use Rattle.aea_lattice.specs.declared.blocks.BlockId.{BlockId}
use Rattle.aea_lattice.specs.declared.blocks.EqId.{EqId}
use Rattle.aea_lattice.specs.declared.grid.Lattice.{Lattice}
use Rattle.aea_lattice.specs.Blocks.{HasBlock, number_of, blocks_count, block_at}
use Rattle.aea_lattice.specs.Equations.{HasEquation, equation_of, is_in_equation, equations_of, adds_up_to}
use Rattle.aea_lattice.proofs.Equations.{number_below, number_equal}
use Rattle.aea_lattice.specs.Lists.{same_equation, is_listed}
use Rattle.aea_lattice.proofs.Odd.{Each-more, odd-same}
use Rattle.aea_lattice.specs.declared.blocks.Class.TheVariants.{Datum}
use Rattle.aea_lattice.proofs.Once.{each-equations_of}
use Rattle.aea_lattice.proofs.BlockAt.{block_at-number, block_at-inside}
use Rattle.aea_gauss_words.specs.Matrices.{IsLead, IsReduction}
use Rattle.aea_fates.proofs.Listing.{equations_same, equation_listed}
use Rattle.aea_fates.specs.Sums.{IsSpare, IsSum}
use Rattle.aea_fates.specs.Live.{is_live, live_equations}
use Rattle.aea_readings.specs.Starts.{equation_column, columns, start, rows_of}
use Rattle.aea_readings.specs.Readings.{equations_in, IsRowOf}
use Rattle.aea_fates.proofs.Kept.{any-filter, filter-ordered}
use Rattle.aea_gauss_words.proofs.Reduced.{lead_of_sum, lead_unique, HasLead}
use Rattle.aea_fates.proofs.Listing.{output_below}
use Rattle.aea_readings.proofs.Standing.{column_high, column_below, stands_reduced, sum_of_set, set_low, set_entry, set_high}

pub listed_in : (l : Lattice) (row : ℕ → Bool) (e : EqId) → HasEquation l e → is_listed (equations_in l row) e ≡ row (equation_column l e)
listed_in l row e has =
    any-filter same_equation equations_same (λ f. row (equation_column l f)) e (equations_of l) (equation_listed l e has)

-- sets that agree on the equations of the lattice add up to the same
adds_same : (l : Lattice) (s t : EqId → Bool) → ((e : EqId) → HasEquation l e → s e ≡ t e) → (d : BlockId) → adds_up_to l s d ≡ adds_up_to l t d
adds_same l s t h d =
    odd-same (λ e. s e && is_in_equation l e d) (λ e. t e && is_in_equation l e d) (equations_of l)
    (Each-more (HasEquation l) (λ e. (s e && is_in_equation l e d) ≡ (t e && is_in_equation l e d)) (equations_of l)
    (λ e has. ap (λ b. b && is_in_equation l e d) (h e has)) (each-equations_of l))

module _ (l : Lattice) (known : BlockId → Bool) (m : ℕ → ℕ → Bool) (reduction : IsReduction (rows_of l known) (columns l) (start l known) m) where
  -- at an unknown block a row has what its equations add up to
  pub row_adds : (i : ℕ) → i < rows_of l known → (d : BlockId) → HasBlock l d
      → m i (number_of l d) ≡ (not (known d) && adds_up_to l (is_listed (equations_in l (m i))) d)
  row_adds i less d has =
      let s = stands_reduced l known m reduction i less in
      s.low (number_of l d) (number_below l d has)
      ∙ ap (λ c. not (known c) && adds_up_to l s.set c) (block_at-number l d has)
      ∙ ap (λ b. not (known d) && b)
      (adds_same l s.set (is_listed (equations_in l (m i))) (λ e he. sym (s.entry e he) ∙ sym (listed_in l (m i) e he)) d)

  -- a spare equation that has an unknown block is the least column of a row
  spare_lead : (e : EqId) → HasEquation l e → is_live l known e ≡ true → IsSpare l known e → HasLead (rows_of l known) (columns l) m (equation_column l e)
  spare_lead e has live spare =
      let q = spare.0 in
      let s = spare.1 in
      lead_of_sum (rows_of l known) (columns l) m reduction.reduced (sum_of_set l known q)
      ((reduction.same_sums (sum_of_set l known q)).0 (λ i. q (get_or (live_equations l known) i (equation_of 0 Datum)), λ k less. refl))
      (equation_column l e) (column_below l e has)
      (set_entry l known q e has ∙ and_from (is_live l known e) (q e) live s.contains)
      (λ k less. elim (cases_lt k (blocks_count l)) [
        | inl low ↦
            set_low l known q k low
            ∙ only_known_false (known (block_at l k)) (adds_up_to l q (block_at l k)) (s.only_known (block_at l k) (block_at-inside l k low))
        | inr high ↦ elim (cases_Bool (sum_of_set l known q k)) [
          | inl here ↦
              (let below : k < columns l = (let c = column_below l e has in omega arith) in
              let f = set_high l known q k high below here in
              let both = and_parts (is_live l known f.0) (q f.0) (sym (set_entry l known q f.0 f.1) ∙ ap (sum_of_set l known q) (sym f.2) ∙ here) in
              let order = s.greatest f.0 f.1 both.1 in
              let column = f.2 in
              let e_below = output_below l e has in
              absurd (omega arith))
          | inr not_here ↦ not_here
        ]
      ])
    where
      only_known_false : (a b : Bool) → (b ≡ true → a ≡ true) → (not a && b) ≡ false
      only_known_false true b h = refl
      only_known_false false true h = absurd (false≢true (h refl))
      only_known_false false false h = refl

  -- Such a row gives the listed equations of its block.
  pub row_gives : (b : BlockId) → HasBlock l b → (i : ℕ) → i < rows_of l known → IsRowOf l (m i) b → IsSum l known b (equations_in l (m i))
  row_gives b inside i less row = record {
    gives = record {
      contains = (and_parts (not (known b)) (adds_up_to l (is_listed (equations_in l (m i))) b) (sym (row_adds i less b inside) ∙ row.lead.here)).1;
      others = λ d has added other.
          elim (cases_Bool (known d)) [
            | inl is_known ↦ is_known
            | inr unknown ↦
                absurd (true≢false
                (sym (row_adds i less d has ∙ ap (λ a. not a && adds_up_to l (is_listed (equations_in l (m i))) d) unknown ∙ added)
                ∙ row.single (number_of l d) (number_below l d has) (λ same. other (number_equal l d b has inside same))))
          ];
    };
    no_spare = λ e has listed spare.
        (let s = stands_reduced l known m reduction i less in
        let here : m i (equation_column l e) ≡ true = sym (listed_in l (m i) e has) ∙ listed in
        let lead = spare_lead e has (s.live e has (sym (s.entry e has) ∙ here)) spare in
        elim (cases_eq lead.row i) [
          | inl same ↦
              (let one : number_of l b ≡ equation_column l e = lead_unique (columns l) (m i) (number_of l b) (equation_column l e) row.lead (subst (λ j. IsLead (columns l) (m j) (equation_column l e)) same lead.lead) in
              let low = number_below l b inside in
              let high = column_high l e in
              absurd (omega arith))
          | inr apart ↦ true≢false (sym here ∙ reduction.reduced lead.row i (equation_column l e) lead.below less apart lead.lead)
        ]);
    ordered = filter-ordered same_equation equations_same (λ e. m i (equation_column l e)) (equations_of l);
  }
