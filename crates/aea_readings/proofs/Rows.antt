-- The three fates that are read off a reduced matrix.
use Rattle.std.proofs.Common.{◌≡◌, ℕ, ◌+◌, ◌<◌, ◌≤◌, inl, inr, Bool, true, false, cond, List, [], ◌∷◌, filter, length, refl, sym, ◌∙◌, ap, subst, arith}
use Rattle.std.proofs.lemmas.Bool.{cases_Bool, cases_lt, true≢false}
use Rattle.aea_lattice.specs.declared.blocks.BlockId.{BlockId}
use Rattle.aea_lattice.specs.declared.blocks.EqId.{EqId}
use Rattle.aea_lattice.specs.declared.grid.Lattice.{Lattice}
use Rattle.aea_lattice.specs.Blocks.{HasBlock, number_of, blocks_count, block_at}
use Rattle.aea_lattice.specs.Equations.{HasEquation, equations_of}
use Rattle.aea_lattice.proofs.Odd.{Each, Each-more}
use Rattle.aea_lattice.proofs.Once.{each-equations_of}
use Rattle.aea_lattice.proofs.BlockAt.{block_at-inside, number-block_at}
use Rattle.aea_gauss_words.specs.Matrices.{IsLead, IsReduction}
use Rattle.aea_lattice.specs.LeastWord.{IsWord}
use Rattle.aea_fates.specs.Sums.{IsSum}
use Rattle.aea_fates.specs.Live.{is_live, live_equations}
use Rattle.aea_readings.specs.Starts.{equation_column, columns, rows_of, start}
use Rattle.aea_readings.specs.Readings.{IsFree, nodes_in, IsRowOf, IsRowWith}
use Rattle.aea_readings.proofs.Standing.{stands_reduced}
use Rattle.aea_readings.proofs.SumReading.{row_gives}
use Rattle.aea_readings.proofs.WordReading.{free_word, row_word_of}

filter_within : (p q : EqId → Bool) (xs : List EqId) → Each (λ e. p e ≡ true → q e ≡ true) xs → filter p (filter q xs) ≡ filter p xs
filter_within p q [] h = refl
filter_within p q (x ∷ xs) h =
    elim (cases_Bool (q x)) [
      | inl yes' ↦ rw yes' (ap (λ ys. cond (p x) (x ∷ ys) ys) (filter_within p q xs h.1))
      | inr no' ↦ elim (cases_Bool (p x)) [
        | inl passes ↦ absurd (true≢false (sym (h.0 passes) ∙ no'))
        | inr fails ↦ rw (no', fails) (filter_within p q xs h.1)
      ]
    ]

module _ (l : Lattice) (known : BlockId → Bool) (m : ℕ → ℕ → Bool) (live : List EqId) (live_is : live ≡ live_equations l known)
    (reduction : IsReduction (length live) (columns l) (start l known) m) where
  whole : IsReduction (rows_of l known) (columns l) (start l known) m
  whole = subst (λ es. IsReduction (length es) (columns l) (start l known) m) live_is reduction

  -- in a reduction, an unknown block of the lattice that is the least column of no row has the nodes of its own word
  pub fate_free : (b : BlockId) → HasBlock l b → known b ≡ false → IsFree (length live) (columns l) m (number_of l b)
      → IsWord l known b (nodes_in l (length live) m (number_of l b))
  fate_free b has unknown =
      subst (λ es. IsFree (length es) (columns l) m (number_of l b) → IsWord l known b (nodes_in l (length es) m (number_of l b))) (sym live_is)
      (free_word l known m whole b has unknown)

  -- in a reduction, a block that is the least column of a row, whose next column f is also a block, has the nodes
  -- of the word of f
  pub fate_with : (b : BlockId) (f i : ℕ) → HasBlock l b → i < length live → IsLead (columns l) (m i) (number_of l b)
      → number_of l b < f → f < blocks_count l → m i f ≡ true → ((k : ℕ) → number_of l b < k → k < f → m i k ≡ false)
      → IsWord l known b (nodes_in l (length live) m f)
  fate_with b f i has less lead after f_less here between =
      let number : number_of l (block_at l f) ≡ f = number-block_at l f f_less in
      let row : IsRowWith l (m i) b (block_at l f) = record {
        lead = lead;
        after = omega arith;
        next = ap (m i) number ∙ here;
        between = λ k low high. between k low (omega arith);
      } in
      let below : i < rows_of l known = subst (λ es. i < length es) live_is less in
      subst (λ es. IsWord l known b (nodes_in l (length es) m f)) (sym live_is)
      (subst (λ c. IsWord l known b (nodes_in l (rows_of l known) m c)) number
      (row_word_of l known m whole b (block_at l f) has (block_at-inside l f f_less) i below row))

  -- in a reduction, a block that is the least column of a row without a further block has that row's equations
  pub fate_sum : (b : BlockId) (i : ℕ) → HasBlock l b → i < length live → IsLead (columns l) (m i) (number_of l b)
      → ((k : ℕ) → number_of l b + 1 ≤ k → k < blocks_count l → m i k ≡ false)
      → IsSum l known b (filter (λ e. m i (equation_column l e)) live)
  fate_sum b i has less lead after =
      let below : i < rows_of l known = subst (λ es. i < length es) live_is less in
      let row : IsRowOf l (m i) b = record {
        lead = lead;
        single = λ k k_less other. elim (cases_lt k (number_of l b)) [
          | inl before ↦ lead.least k before
          | inr past ↦ after k (omega arith) k_less
        ];
      } in
      let s = stands_reduced l known m whole i below in
      subst (IsSum l known b)
      (sym
      (ap (filter (λ e. m i (equation_column l e))) live_is
      ∙ filter_within (λ e. m i (equation_column l e)) (is_live l known) (equations_of l)
      (Each-more (HasEquation l) (λ e. m i (equation_column l e) ≡ true → is_live l known e ≡ true) (equations_of l)
      (λ e e_has here. s.live e e_has (sym (s.entry e e_has) ∙ here)) (each-equations_of l))))
      (row_gives l known m whole b has i below row)
