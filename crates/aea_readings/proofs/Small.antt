-- The fates that are read off reduced rows over the columns that are used.
use Rattle.std.proofs.Common.{◌≡◌, ℕ, ◌+◌, ◌-◌, ◌<◌, ◌≤◌, Bool, true, false, not, ◌&&◌, ◌||◌, ◌==◌, List, filter, length, Option, Some, None, refl, sym, ◌∙◌, ap, subst, arith, inl, inr}
use Rattle.std.proofs.lemmas.List.Sums.{length-filter, count_by-le-length}
use Rattle.std.proofs.lemmas.Bool.{cases_Bool, cases_lt, cases_eq, eq-eqb, ne_eqb, true≢false, not-true, false_from_ne_true}
use Rattle.aea_lattice.specs.declared.blocks.Class.TheVariants.{Datum}
use Rattle.aea_lattice.specs.declared.blocks.BlockId.{BlockId}
use Rattle.aea_lattice.specs.declared.blocks.EqId.{EqId}
use Rattle.aea_lattice.specs.declared.grid.Lattice.{Lattice}
use Rattle.aea_lattice.specs.Blocks.{block_of, HasBlock, number_of, blocks_of}
use Rattle.aea_lattice.specs.Strands.{nodes_to}
use Rattle.aea_lattice.specs.Equations.{equation_of}
use Rattle.aea_lattice.specs.LeastWord.{IsWord}
use Rattle.aea_lattice.proofs.Odd.{filter_each}
use Rattle.aea_lattice.proofs.Once.{each-blocks_of}
use Rattle.aea_lattice.proofs.Numbers.{one_to_three, length-blocks_of}
use Rattle.std.proofs.Common.{◌⊎◌, ◌*◌}
use Rattle.aea_gauss_laws.specs.Parities.{odd_below}
use Rattle.aea_gauss_laws.proofs.Columns.{odd_below-same, odd_below-none}
use Rattle.aea_gauss_words.specs.Matrices.{IsLead, IsReduction}
use Rattle.aea_fates.specs.Sums.{IsSum}
use Rattle.aea_readings.specs.Starts.{columns, equation_column, start}
use Rattle.aea_readings.specs.Readings.{has_none_below, is_lead, IsFree, word_at, nodes_in}
use Rattle.aea_readings.specs.Small.{unknown_blocks, own_column, small_start, nodes_at, equations_at, RevealSmall, SmallRowsRevealFates, UnknownAreListed}
use Rattle.aea_readings.proofs.Standing.{column_high}
use Rattle.aea_readings.proofs.Leads.{each-nodes_to, lead_test, test_lead}
use Rattle.aea_readings.proofs.Rows.{fate_free, fate_with, fate_sum}
use Rattle.aea_readings.proofs.Compact.{compact, at_place, expand, expanded}
use Rattle.aea_readings.proofs.Used.{each-kept, each-place, nodes_at-filter, equations_at-filter, data_nodes, reduction_from, us, es, u, e, block, equation, block_facts, block_rise, used, used_low, used_high, used_own, place, block_below, Found, found, inside, rising, placed, are_used, known_not_placed, empty, small_entry}

module _ (l : Lattice) (known : BlockId → Bool) (m : ℕ → ℕ → Bool)
    (reduction : IsReduction (e l known) (u l known + e l known) (small_start l (us l known) (es l known)) m) where
  abbrev big : ℕ → ℕ → Bool
  big = expand (place l known) m

  whole : IsReduction (e l known) (columns l) (start l known) big
  whole =
      expanded (e l known) (u l known + e l known) (columns l) (used l known) (place l known) (are_used l known) (start l known) m (empty l known)
      (reduction_from (e l known) (u l known + e l known) (compact (used l known) (start l known)) (small_start l (us l known) (es l known)) m
      (small_entry l known) reduction)

  abbrev n : ℕ
  n = u l known + e l known

  -- an entry at a column that is not used
  big_none : (r k : ℕ) → place l known k ≡ None → big r k ≡ false
  big_none r k none = ap (at_place (m r)) none

  big_used : (r a : ℕ) → a < n → big r (used l known a) ≡ m r a
  big_used r a less = ap (at_place (m r)) (placed l known a less)

  -- the entry at a column, by its place
  big_cases : (r k : ℕ) (x : Bool) → (place l known k ≡ None → false ≡ x) → ((a : ℕ) → Found l known k a → m r a ≡ x) → big r k ≡ x
  big_cases r k x none some = at (place l known k) refl
    where
      at : (o : Option ℕ) → place l known k ≡ o → at_place (m r) (place l known k) ≡ x
      at None is = ap (at_place (m r)) is ∙ none is
      at (Some a) is = ap (at_place (m r)) is ∙ some a (found l known k a is)

  used_less : (a b : ℕ) → a < n → used l known a < used l known b → a < b
  used_less a b a_less less = elim (cases_lt a b) [
    | inl h ↦ h
    | inr ge ↦ elim (cases_eq a b) [
      | inl same ↦ (let eq : used l known a ≡ used l known b = ap (used l known) same in absurd (omega arith))
      | inr other ↦ (let up = rising l known b a (omega arith) a_less in absurd (omega arith))
    ]
  ]

  lead_up : (i a : ℕ) → IsLead n (m i) a → IsLead (columns l) (big i) (used l known a)
  lead_up i a lead = record {
    below = inside l known a lead.below;
    here = big_used i a lead.below ∙ lead.here;
    least = λ k less. big_cases i k false (λ none. refl)
        (λ b f. lead.least b (let below = f.below in used_less b a below (let is = f.is in omega arith)));
  }

  lead_down : (i a : ℕ) → a < n → IsLead (columns l) (big i) (used l known a) → IsLead n (m i) a
  lead_down i a less lead = record {
    below = less;
    here = sym (big_used i a less) ∙ lead.here;
    least = λ b before. sym (big_used i b (omega arith)) ∙ lead.least (used l known b) (rising l known b a before less);
  }

  free_up : (a : ℕ) → a < n → IsFree (e l known) n m a → IsFree (e l known) (columns l) big (used l known a)
  free_up a less free i i_less lead = free i i_less (lead_down i a less lead)

  is_lead_same : (i a : ℕ) → a < n → is_lead (big i) (used l known a) ≡ is_lead (m i) a
  is_lead_same i a less =
      elim (cases_Bool (is_lead (m i) a)) [
        | inl yes' ↦ lead_test (columns l) (big i) (used l known a) (lead_up i a (test_lead n (m i) a less yes')) ∙ sym yes'
        | inr no' ↦
            false_from_ne_true (is_lead (big i) (used l known a))
            (λ h. true≢false (sym (lead_test n (m i) a (lead_down i a less (test_lead (columns l) (big i) (used l known a) (inside l known a less) h))) ∙ no'))
            ∙ sym no'
      ]

  same_place : (a f : ℕ) → a < n → f < n → (used l known a == used l known f) ≡ (a == f)
  same_place a f a_less f_less =
      elim (cases_eq a f) [
        | inl same ↦ eq-eqb (used l known a) (used l known f) (ap (used l known) same) ∙ sym (eq-eqb a f same)
        | inr other ↦
            ne_eqb (used l known a) (used l known f)
            (λ same. elim (cases_lt a f) [
              | inl before ↦ (let up = rising l known a f before f_less in omega arith)
              | inr after ↦ (let up = rising l known f a (let apart = other in omega arith) a_less in omega arith)
            ])
            ∙ sym (ne_eqb a f other)
      ]

  word_same : (f a : ℕ) → f < n → a < n → word_at (e l known) big (used l known f) (used l known a) ≡ word_at (e l known) m f a
  word_same f a f_less a_less =
      ap (λ x. x || odd_below (λ i. is_lead (big i) (used l known a) && big i (used l known f)) (e l known)) (same_place a f a_less f_less)
      ∙ ap (λ x. a == f || x)
      (odd_below-same (λ i. is_lead (big i) (used l known a) && big i (used l known f)) (λ i. is_lead (m i) a && m i f) (e l known)
      (λ i less. ap (λ x. x && big i (used l known f)) (is_lead_same i a a_less) ∙ ap (λ x. is_lead (m i) a && x) (big_used i f f_less)))

  -- the word of a column has no known block
  word_unknown : (f : ℕ) → f < u l known → (d : BlockId) → HasBlock l d → known d ≡ true → word_at (e l known) big (used l known f) (number_of l d) ≡ false
  word_unknown f less d has is_known =
      let none = known_not_placed l known d has is_known in
      let other : (number_of l d == used l known f) ≡ false =
      ne_eqb (number_of l d) (used l known f)
      (λ same. (let at : place l known (number_of l d) ≡ Some f = ap (place l known) same ∙ placed l known f (omega arith) in
      let no : ◌≡◌ {A = Option ℕ} None (Some f) = sym none ∙ at in cc)) in
      ap (λ x. x || odd_below (λ i. is_lead (big i) (number_of l d) && big i (used l known f)) (e l known)) other
      ∙ odd_below-none (λ i. is_lead (big i) (number_of l d) && big i (used l known f)) (e l known)
      (λ i i_less. ap (λ x. (x && has_none_below (big i) (number_of l d)) && big i (used l known f)) (big_none i (number_of l d) none))

  -- the nodes that are read
  nodes_same : (f : ℕ) → f < u l known → nodes_at (word_at (e l known) m f) (us l known) ≡ nodes_in l (e l known) big (used l known f)
  nodes_same f less =
      let q : BlockId → Bool = λ b. word_at (e l known) big (used l known f) (number_of l b) in
      nodes_at-filter (word_at (e l known) m f) q (us l known) (block_of 0 Datum)
      (λ a a_less. sym (ap (word_at (e l known) big (used l known f)) (sym (used_low l known a a_less)) ∙ word_same f a (omega arith) (omega arith)))
      ∙ data_nodes l q (λ b. not (known b)) l.n
      ∙ filter_each (λ j. not (known (block_of j Datum)) && q (block_of j Datum)) (λ j. q (block_of j Datum)) (nodes_to l.n)
      (each-nodes_to l.n (λ j. (not (known (block_of j Datum)) && q (block_of j Datum)) ≡ q (block_of j Datum))
      (λ j first last. elim (cases_Bool (known (block_of j Datum))) [
        | inl is_known ↦
            ap (λ x. not x && q (block_of j Datum)) is_known
            ∙ sym (word_unknown f less (block_of j Datum) (record { first = first; last = last; used = omega arith }) is_known)
        | inr unknown ↦ ap (λ x. not x && q (block_of j Datum)) unknown
      ]))

  equations_same : (i : ℕ) → equations_at (λ j. m i (own_column (u l known) (e l known) j)) (es l known) ≡ filter (λ f. big i (equation_column l f)) (es l known)
  equations_same i =
      equations_at-filter (λ j. m i (own_column (u l known) (e l known) j)) (λ f. big i (equation_column l f)) (es l known) (equation_of 0 Datum)
      (λ j less.
      sym (ap (big i) (sym (used_own l known j less)) ∙ big_used i (own_column (u l known) (e l known) j) (omega arith)))

  reveal : RevealSmall l known (us l known) (es l known) m
  reveal = record {
    free = λ a less free.
        (let facts = block_facts l known a less in
        let low = used_low l known a less in
        subst (IsWord l known (block l known a)) (sym (nodes_same a less))
        (subst (λ k. IsWord l known (block l known a) (nodes_in l (e l known) big k)) (sym low)
        (fate_free l known big (es l known) refl whole (block l known a) facts.0 (not-true (known (block l known a)) facts.1)
        (subst (IsFree (e l known) (columns l) big) low (free_up a (omega arith) free)))));
    next = λ a f i less i_less lead after f_less here between.
        (let facts = block_facts l known a less in
        let low = used_low l known a less in
        let f_low = used_low l known f f_less in
        let rise = block_rise l known a f after f_less in
        subst (IsWord l known (block l known a)) (sym (nodes_same f f_less))
        (subst (λ k. IsWord l known (block l known a) (nodes_in l (e l known) big k)) (sym f_low)
        (fate_with l known big (es l known) refl whole (block l known a) (number_of l (block l known f)) i facts.0 i_less
        (subst (IsLead (columns l) (big i)) low (lead_up i a lead)) rise (block_below l known f f_less)
        (ap (big i) (sym f_low) ∙ big_used i f (omega arith) ∙ here)
        (λ k from to. big_cases i k false (λ none. refl)
        (λ b found'.
        (let is = found'.is in
        let b_less = found'.below in
        between b (used_less a b (omega arith) (omega arith)) (used_less b f b_less (omega arith))))))));
    sum = λ a i less i_less lead after.
        (let facts = block_facts l known a less in
        let low = used_low l known a less in
        subst (IsSum l known (block l known a)) (sym (equations_same i))
        (fate_sum l known big (es l known) refl whole (block l known a) i facts.0 i_less
        (subst (IsLead (columns l) (big i)) low (lead_up i a lead))
        (λ k from below. big_cases i k false (λ none. refl)
        (λ b found'.
        (let is = found'.is in
        let b_less = found'.below in
        elim (cases_lt b (u l known)) [
          | inl b_low ↦ after b (used_less a b (omega arith) (omega arith)) b_low
          | inr b_high ↦ (let x = used_high l known b b_high in let y = column_high l (equation l known (u l known + e l known - 1 - b)) in absurd (omega arith))
        ])))));
  }

-- each reduction of the rows over the used columns shows the fates
pub small-rows : SmallRowsRevealFates
small-rows l known blocks equations m blocks_are equations_are reduction =
    let P : List BlockId → List EqId → Type 0 = λ bs fs. IsReduction (length fs) (length bs + length fs) (small_start l bs fs) m → RevealSmall l known bs fs m in
    let at : P blocks equations = subst (λ bs. P bs equations) (sym blocks_are) (subst (P (unknown_blocks l known)) (sym equations_are) (λ h. reveal l known m h)) in
    at reduction

-- the blocks that are not known are blocks of the lattice in number order, and fewer than 2^23
pub unknown-listed : UnknownAreListed
unknown-listed l known = record {
  inside = λ k b less.
      (let facts = each-place (λ b. HasBlock l b × (not (known b) ≡ true)) (unknown_blocks l known) b
      (each-kept (HasBlock l) (λ b. not (known b)) (blocks_of l) (each-blocks_of l)) k less in
      facts.0);
  rise = block_rise l known;
  few =
      (let kept = length-filter (λ b. not (known b)) (blocks_of l) in
      let most = count_by-le-length (λ b. not (known b)) (blocks_of l) in
      let long = length-blocks_of l in
      let nodes : l.n ≤ 1048576 = l.in_range in
      few_blocks l.alpha l.n (length (blocks_of l)) (one_to_three l) nodes long (omega arith));
}
  where
    few_blocks : (alpha n k : ℕ) → (alpha ≡ 1) ⊎ ((alpha ≡ 2) ⊎ (alpha ≡ 3)) → n ≤ 1048576 → k ≡ n * (1 + alpha) → length (unknown_blocks l known) ≤ k
        → length (unknown_blocks l known) < 8388608
    few_blocks alpha n k (inl e) nodes long most = (let e2 : n * (1 + alpha) ≡ n * 2 = ap (λ a. n * (1 + a)) e in omega arith)
    few_blocks alpha n k (inr (inl e)) nodes long most = (let e2 : n * (1 + alpha) ≡ n * 3 = ap (λ a. n * (1 + a)) e in omega arith)
    few_blocks alpha n k (inr (inr e)) nodes long most = (let e2 : n * (1 + alpha) ≡ n * 4 = ap (λ a. n * (1 + a)) e in omega arith)
