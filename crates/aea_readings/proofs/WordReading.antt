-- The word of a free column is a codeword, its column is an end, and the free columns are the ends.
use Rattle.std.proofs.Common.{◌≡◌, ◌≢◌, ℕ, suc, ◌<◌, ◌≤◌, Bool, true, false, not, ◌&&◌, ◌||◌, ◌==◌, List, [], ◌∷◌, filter, get_or, length, refl, sym, ◌∙◌, ap, subst, arith, inl, inr, IsTrue}
use Rattle.std.specs.List.{list_any}
use Rattle.std.proofs.lemmas.Bool.{cases_Bool, cases_lt, cases_eq, and_parts, and_from, or_cases, eq-eqb, ne_eqb, true≢false, false≢true, not-true, or_parts}
use Rattle.aea_lattice.specs.declared.blocks.Class.TheVariants.{Datum}
use Rattle.aea_lattice.specs.declared.blocks.BlockId.{BlockId}
use Rattle.aea_lattice.specs.declared.blocks.EqId.{EqId}
use Rattle.aea_lattice.specs.declared.grid.Lattice.{Lattice}
use Rattle.aea_lattice.specs.Blocks.{block_of, same_block, HasBlock, number_of, blocks_count, blocks_of, block_at}
use Rattle.aea_lattice.specs.Strands.{nodes_to}
use Rattle.aea_lattice.specs.Equations.{HasEquation, equation_of, equation_blocks, equations_of, adds_up_to, is_in_codeword}
use Rattle.aea_lattice.specs.Facts.{MeetsEvenly, Misses}
use Rattle.aea_lattice.proofs.Codewords.{even-codeword, codeword-even, data_of}
use Rattle.aea_lattice.proofs.Equations.{number_below, number_equal, same_block-equal, same_block-refl}
use Rattle.aea_lattice.specs.Parity.{differ}
use Rattle.aea_gauss_laws.specs.Parities.{odd_below}
use Rattle.aea_lattice.specs.Lists.{same_equation, is_listed, has_node}
use Rattle.aea_lattice.proofs.Odd.{Each-more, odd-same, differ-self}
use Rattle.aea_lattice.proofs.Once.{each-blocks_of, odd-at, same_equation-equal}
use Rattle.aea_lattice.proofs.Even.{sums_even}
use Rattle.aea_gauss_laws.proofs.Given.{odd_below-blocks, row-meets, row_of, set_at, and-no}
use Rattle.aea_lattice.proofs.BlockAt.{block_at-number, block_at-inside, number-block_at}
use Rattle.aea_gauss_laws.proofs.Columns.{odd_below-none, odd_below-one, odd_below-same, meets}
use Rattle.aea_gauss_words.specs.Matrices.{sum_of_rows, IsLead, IsReduction}
use Rattle.aea_lattice.specs.LeastWord.{IsEndOf, IsEnd, IsWordOfEnd, IsWord}
use Rattle.aea_fates.specs.Live.{is_live, live_equations}
use Rattle.aea_readings.specs.Starts.{columns, row_at, start, rows_of}
use Rattle.aea_readings.specs.Readings.{has_none_below, is_lead, equations_in, IsFree, word_at, nodes_in, IsRowWith}
use Rattle.aea_fates.proofs.Kept.{any-filter, filter-ordered}
use Rattle.aea_gauss_words.proofs.Reduced.{least, nothing, find_least, lead_unique, odd_some, odd_other, not_same, row_is_sum_of_rows, meets_sum}
use Rattle.aea_readings.proofs.Standing.{row_low}
use Rattle.aea_fates.proofs.Listing.{equation_listed, equations_same}
use Rattle.aea_readings.proofs.SumReading.{row_adds}
use Rattle.aea_readings.proofs.Leads.{lead_test, test_lead, codeword_same, same_node, nodes_kept, meets_at, meets-differ}

-- ---- the word of a free column

module _ (l : Lattice) (known : BlockId → Bool) (m : ℕ → ℕ → Bool) (reduction : IsReduction (rows_of l known) (columns l) (start l known) m) where
  abbrev rows : ℕ
  rows = rows_of l known

  -- the rows that have f and whose lead is k
  abbrev led : ℕ → ℕ → Bool
  led f k = odd_below (λ i. is_lead (m i) k && m i f) rows

  led_row : (f k i : ℕ) → i < rows → IsLead (columns l) (m i) k → led f k ≡ m i f
  led_row f k i less lead =
      odd_below-one (λ j. is_lead (m j) k && m j f) rows i less
      (λ j j_less other. elim (cases_Bool (is_lead (m j) k)) [
        | inl yes' ↦ absurd (true≢false (sym (and_parts (m j k) (has_none_below (m j) k) yes').0 ∙ reduction.reduced i j k less j_less (λ e. other (sym e)) lead))
        | inr no' ↦ ap (λ b. b && m j f) no'
      ])
      ∙ ap (λ b. b && m i f) (lead_test (columns l) (m i) k lead)

  led_some : (f k : ℕ) → k < columns l → led f k ≡ true → (i : ℕ) × (i < rows) × IsLead (columns l) (m i) k × (m i f ≡ true)
  led_some f k k_less h =
      let some = odd_some (λ i. is_lead (m i) k && m i f) rows h in
      let both = and_parts (is_lead (m some.place) k) (m some.place f) some.here in
      (some.place, some.below, test_lead (columns l) (m some.place) k k_less both.0, both.1)

  led_free : (f k : ℕ) → k < columns l → IsFree rows (columns l) m k → led f k ≡ false
  led_free f k k_less free =
      elim (cases_Bool (led f k)) [
        | inl h ↦ let some = led_some f k k_less h in absurd (free some.0 some.1 some.2)
        | inr no' ↦ no'
      ]

  -- a row and the rows' leads meet in the row's own lead
  row_led : (f i : ℕ) → i < rows → (c : ℕ) → c < blocks_count l → IsLead (columns l) (m i) c → meets (m i) (led f) (blocks_count l) ≡ m i f
  row_led f i less c c_less lead =
      odd_below-one (λ k. m i k && led f k) (blocks_count l) c c_less
      (λ k k_less other. elim (cases_Bool (m i k)) [
        | inl here ↦ ap (λ b. m i k && b) (led_free f k (omega arith) (λ j j_less j_lead.
            elim (cases_eq j i) [
              | inl same ↦ other (lead_unique (columns l) (m i) k c (subst (λ x. IsLead (columns l) (m x) k) same j_lead) lead)
              | inr apart ↦ true≢false (sym here ∙ reduction.reduced j i k j_less less apart j_lead)
            ])) ∙ and-no (m i k)
        | inr not_here ↦ ap (λ b. b && led f k) not_here
      ])
      ∙ ap (λ b. b && led f c) lead.here
      ∙ led_row f c i less lead

  -- f itself, and the leads of the rows that have f
  abbrev word : ℕ → ℕ → Bool
  word f k = differ (k == f) (led f k)

  -- each row meets the word evenly
  row_word : (f : ℕ) → f < blocks_count l → (i : ℕ) → i < rows → meets (m i) (word f) (blocks_count l) ≡ false
  row_word f f_less i less =
      elim (find_least (m i) (blocks_count l)) [
        | least c c_less here below ↦
            (let lead : IsLead (columns l) (m i) c = record { below = omega arith; here = here; least = below } in
            meets-differ (m i) (λ k. k == f) (led f) (blocks_count l)
            ∙ ap (λ b. differ b (meets (m i) (led f) (blocks_count l))) (meets_at (m i) f (blocks_count l) f_less)
            ∙ ap (differ (m i f)) (row_led f i less c c_less lead)
            ∙ differ-self (m i f))
        | nothing all ↦ odd_below-none (λ k. m i k && word f k) (blocks_count l) (λ k k_less. ap (λ b. b && word f k) (all k k_less))
      ]

  -- so does each row of the matrix at first
  start_word : (f : ℕ) → f < blocks_count l → (i : ℕ) → i < rows → meets (start l known i) (word f) (blocks_count l) ≡ false
  start_word f f_less i less =
      let sum = (reduction.same_sums (start l known i)).0 (row_is_sum_of_rows rows (columns l) (start l known) i less) in
      odd_below-same (λ k. start l known i k && word f k) (λ k. sum_of_rows rows m sum.0 k && word f k) (blocks_count l)
      (λ k k_less. ap (λ b. b && word f k) (sum.1 k (omega arith)))
      ∙ meets_sum m sum.0 (word f) rows (blocks_count l)
      ∙ odd_below-none (λ j. sum.0 j && meets (m j) (word f) (blocks_count l)) rows
      (λ j j_less. ap (λ b. sum.0 j && b) (row_word f f_less j j_less) ∙ and-no (sum.0 j))

  -- each equation of the lattice: one with an unknown block has a row
  equation_row : (e : EqId) → HasEquation l e → is_live l known e ≡ true → (i : ℕ) × (i < rows) × (get_or (live_equations l known) i (equation_of 0 Datum) ≡ e)
  equation_row e has live = place_of e (live_equations l known) (any-filter same_equation equations_same (is_live l known) e (equations_of l) (equation_listed l e has) ∙ live)
    where
      place_of : (e : EqId) (es : List EqId) → list_any (same_equation e) es ≡ true → (i : ℕ) × (i < length es) × (get_or es i (equation_of 0 Datum) ≡ e)
      place_of e [] h = absurd (false≢true h)
      place_of e (f ∷ es) h =
          elim (or_cases (same_equation e f) (list_any (same_equation e) es) h) [
            | inl here ↦ (0, omega arith, sym (same_equation-equal e f here))
            | inr there ↦ (let rest = place_of e es there in (suc rest.0, (let less = rest.1 in omega arith), rest.2))
          ]

  equation_word : (f : ℕ) → f < blocks_count l → (e : EqId) → HasEquation l e → meets (row_of l known e) (word f) (blocks_count l) ≡ false
  equation_word f f_less e has =
      elim (cases_Bool (is_live l known e)) [
        | inl live ↦
            (let row = equation_row e has live in
            odd_below-same (λ k. row_of l known e k && word f k) (λ k. start l known row.0 k && word f k) (blocks_count l)
            (λ k k_less. ap (λ b. b && word f k) (sym (row_low l known e k k_less) ∙ ap (λ d. row_at l known d k) (sym row.2)))
            ∙ start_word f f_less row.0 row.1)
        | inr dead ↦ odd_below-none (λ k. row_of l known e k && word f k) (blocks_count l) (λ k k_less. ap (λ b. b && word f k) (dead_row e k dead))
      ]
    where
      dead_any : (d : BlockId) (bs : List BlockId) → list_any (λ b. not (known b)) bs ≡ false → (not (known d) && list_any (same_block d) bs) ≡ false
      dead_any d [] h = and-no (not (known d))
      dead_any d (b ∷ bs) h =
          let both = or_parts (not (known b)) (list_any (λ c. not (known c)) bs) h in
          elim (cases_Bool (same_block d b)) [
            | inl same ↦ ap (λ c. not (known c) && list_any (same_block d) (b ∷ bs)) (same_block-equal d b same) ∙ ap (λ a. a && list_any (same_block d) (b ∷ bs)) both.0
            | inr other ↦ ap (λ a. not (known d) && (a || list_any (same_block d) bs)) other ∙ dead_any d bs both.1
          ]

      dead_row : (e : EqId) (k : ℕ) → is_live l known e ≡ false → row_of l known e k ≡ false
      dead_row e k dead = dead_any (block_at l k) (equation_blocks l e) dead

  word_even : (f : ℕ) → f < blocks_count l → MeetsEvenly l (set_at l known (word f))
  word_even f f_less e has = sym (row-meets l known (word f) e has) ∙ equation_word f f_less e has

  -- the word of a free column is the one that is read
  word_read : (f k : ℕ) → f < columns l → IsFree rows (columns l) m f → word f k ≡ word_at rows m f k
  word_read f k f_less free =
      elim (cases_eq k f) [
        | inl same ↦
            (let at : (k == f) ≡ true = eq-eqb k f same in
            let none : led f k ≡ false = ap (led f) same ∙ led_free f f f_less free in
            rw (at, none) refl)
        | inr other ↦ (let apart : (k == f) ≡ false = ne_eqb k f other in rw apart refl)
      ]

  -- a lead is a column of an unknown block or of an equation
  lead_unknown : (d : BlockId) → HasBlock l d → (i : ℕ) → i < rows → m i (number_of l d) ≡ true → known d ≡ false
  lead_unknown d has i less here = not-true (known d) (and_parts (not (known d)) (adds_up_to l (is_listed (equations_in l (m i))) d) (sym (row_adds l known m reduction i less d has) ∙ here)).0

  -- what a block that is free has for nodes
  abbrev nodes : BlockId → ℕ → Bool
  nodes f = data_of (set_at l known (word (number_of l f)))

  nodes_word : (f : BlockId) → HasBlock l f → (d : BlockId) → HasBlock l d → set_at l known (word (number_of l f)) d ≡ is_in_codeword l (nodes f) d
  nodes_word f has d d_has = even-codeword l (set_at l known (word (number_of l f))) (word_even (number_of l f) (number_below l f has)) d d_has

  -- a free unknown block is an end, and its nodes contain it
  free_contains : (f : BlockId) → HasBlock l f → known f ≡ false → IsFree rows (columns l) m (number_of l f) → is_in_codeword l (nodes f) f ≡ true
  free_contains f has unknown free =
      let below = number_below l f has in
      sym (nodes_word f has f has)
      ∙ ap (λ a. not a && word (number_of l f) (number_of l f)) unknown
      ∙ ap (λ a. differ a (led (number_of l f) (number_of l f))) (eq-eqb (number_of l f) (number_of l f) refl)
      ∙ ap not (led_free (number_of l f) (number_of l f) (omega arith) free)

  nodes_miss : (f : BlockId) → HasBlock l f → Misses l known (nodes f)
  nodes_miss f has d d_has is_known = sym (nodes_word f has d d_has) ∙ ap (λ a. not a && word (number_of l f) (number_of l d)) is_known

  -- what the word of a block contains: the block itself, or the lead of a row that has it
  data Contained (f d : BlockId) : Type 0 where
    itself : number_of l d ≡ number_of l f → Contained f d
    lead : (i : ℕ) → i < rows → IsLead (columns l) (m i) (number_of l d) → m i (number_of l f) ≡ true → Contained f d

  contained : (f d : BlockId) → HasBlock l f → HasBlock l d → is_in_codeword l (nodes f) d ≡ true → Contained f d
  contained f d has d_has h =
      let in_word = (and_parts (not (known d)) (word (number_of l f) (number_of l d)) (nodes_word f has d d_has ∙ h)).1 in
      let below = number_below l d d_has in
      elim (cases_eq (number_of l d) (number_of l f)) [
        | inl same ↦ itself same
        | inr other ↦
            (let some = led_some (number_of l f) (number_of l d) (omega arith)
            (sym (ap (λ a. differ a (led (number_of l f) (number_of l d))) (ne_eqb (number_of l d) (number_of l f) other)) ∙ in_word) in
            lead some.0 some.1 some.2 some.3)
      ]

  lead_before : (r : ℕ → Bool) (c f : ℕ) → IsLead (columns l) r c → r f ≡ true → c ≤ f
  lead_before r c f is here =
      elim (cases_lt f c) [
        | inl before ↦ absurd (true≢false (sym here ∙ is.least f before))
        | inr after ↦ after
      ]

  pub free_end : (f : BlockId) → HasBlock l f → known f ≡ false → IsFree rows (columns l) m (number_of l f) → IsEndOf l known (nodes f) f
  free_end f has unknown free = record {
    block = has;
    misses = nodes_miss f has;
    contains = free_contains f has unknown free;
    greatest = λ d d_has h. elim (contained f d has d_has h) [
      | itself same ↦ omega arith
      | lead i less is here ↦ lead_before (m i) (number_of l d) (number_of l f) is here
    ];
  }

  -- an end is free
  end_sum : (e : BlockId) (set : ℕ → Bool) → IsEndOf l known set e → (i : ℕ) → i < rows → IsLead (columns l) (m i) (number_of l e)
      → (d : BlockId) → HasBlock l d
      → (adds_up_to l (is_listed (equations_in l (m i))) d && is_in_codeword l set d) ≡ (same_block e d && is_in_codeword l set d)
  end_sum e set is i less lead_is d d_has =
      elim (cases_Bool (is_in_codeword l set d)) [
        | inr missed ↦ ap (λ b. adds_up_to l (is_listed (equations_in l (m i))) d && b) missed ∙ and-no (adds_up_to l (is_listed (equations_in l (m i))) d) ∙ sym (and-no (same_block e d)) ∙ ap (λ b. same_block e d && b) (sym missed)
        | inl here ↦
            (let unknown : known d ≡ false = not_known d (is_in_codeword l set d) here (λ is_known. is.misses d d_has is_known) in
            let added : m i (number_of l d) ≡ adds_up_to l (is_listed (equations_in l (m i))) d =
            row_adds l known m reduction i less d d_has ∙ ap (λ a. not a && adds_up_to l (is_listed (equations_in l (m i))) d) unknown in
            let order = is.greatest d d_has here in
            ap (λ b. b && is_in_codeword l set d)
            (elim (cases_Bool (same_block e d)) [
              | inl same ↦ sym added ∙ ap (λ c. m i (number_of l c)) (sym (same_block-equal e d same)) ∙ lead_is.here ∙ sym same
              | inr other ↦
                  sym added
                  ∙ lead_is.least (number_of l d)
                  (strictly (number_of l d) (number_of l e) order
                  (λ same. true≢false (sym (same_block-refl e) ∙ ap (same_block e) (number_equal l e d is.block d_has (sym same)) ∙ other)))
                  ∙ sym other
            ]))
      ]
    where
      not_known : (d : BlockId) (b : Bool) → b ≡ true → (known d ≡ true → b ≡ false) → known d ≡ false
      not_known d b here missed = elim (cases_Bool (known d)) [ inl is_known ↦ absurd (true≢false (sym here ∙ missed is_known)) | inr unknown ↦ unknown ]

      strictly : (a b : ℕ) → a ≤ b → a ≢ b → a < b
      strictly a b le ne = elim (cases_eq a b) [ inl e ↦ absurd (ne e) | inr n ↦ omega arith ]

  codeword_even : (set : ℕ → Bool) → MeetsEvenly l (is_in_codeword l set)
  codeword_even set = codeword-even l set (is_in_codeword l set) (λ b has. refl)

  pub end_free : (e : BlockId) → IsEnd l known e → IsFree rows (columns l) m (number_of l e)
  end_free e some i less lead_is =
      let set = some.0 in
      let is = some.1 in
      true≢false
      (sym is.contains
      ∙ sym (odd-at l e (is_in_codeword l set) is.block)
      ∙ sym (odd-same (λ d. adds_up_to l (is_listed (equations_in l (m i))) d && is_in_codeword l set d) (λ d. same_block e d && is_in_codeword l set d) (blocks_of l)
      (Each-more (HasBlock l) (λ d. (adds_up_to l (is_listed (equations_in l (m i))) d && is_in_codeword l set d) ≡ (same_block e d && is_in_codeword l set d)) (blocks_of l)
      (λ d d_has. end_sum e set is i less lead_is d d_has) (each-blocks_of l)))
      ∙ sums_even l (is_listed (equations_in l (m i))) (is_in_codeword l set) (codeword_even set))

  -- ---- the nodes that are read

  read_nodes : (f : BlockId) → HasBlock l f → known f ≡ false → IsFree rows (columns l) m (number_of l f)
      → (i : ℕ) → 1 ≤ i → i ≤ l.n → has_node (nodes_in l rows m (number_of l f)) i ≡ nodes f i
  read_nodes f has unknown free i first most =
      let datum : HasBlock l (block_of i Datum) = record { first = first; last = most; used = omega arith } in
      let below = number_below l f has in
      let d_below = number_below l (block_of i Datum) datum in
      nodes_kept (λ k. word_at rows m (number_of l f) (number_of l (block_of k Datum))) l.n i first most
      ∙ sym (word_read (number_of l f) (number_of l (block_of i Datum)) (omega arith) free)
      ∙ elim (cases_Bool (known (block_of i Datum))) [
        | inl is_known ↦ elim (cases_Bool (word (number_of l f) (number_of l (block_of i Datum)))) [
          | inl here ↦ absurd (true≢false (sym is_known ∙ word_unknown f (block_of i Datum) has datum unknown here))
          | inr not_here ↦ not_here ∙ sym (ap (λ a. not a && word (number_of l f) (number_of l (block_of i Datum))) is_known)
        ]
        | inr is_unknown ↦ sym (ap (λ a. not a && word (number_of l f) (number_of l (block_of i Datum))) is_unknown)
      ]
    where
      word_unknown : (f d : BlockId) → HasBlock l f → HasBlock l d → known f ≡ false → word (number_of l f) (number_of l d) ≡ true → known d ≡ false
      word_unknown f d has d_has unknown here =
          let d_below = number_below l d d_has in
          elim (cases_eq (number_of l d) (number_of l f)) [
            | inl same ↦ ap known (number_equal l d f d_has has same) ∙ unknown
            | inr other ↦
                (let some = led_some (number_of l f) (number_of l d) (omega arith)
                (sym (ap (λ a. differ a (led (number_of l f) (number_of l d))) (ne_eqb (number_of l d) (number_of l f) other)) ∙ here) in
                lead_unknown d d_has some.0 some.1 some.2.here)
          ]

  -- the nodes that are read have the codeword of the block's word
  read_word : (f : BlockId) → HasBlock l f → known f ≡ false → IsFree rows (columns l) m (number_of l f)
      → (d : BlockId) → HasBlock l d → is_in_codeword l (has_node (nodes_in l rows m (number_of l f))) d ≡ is_in_codeword l (nodes f) d
  read_word f has unknown free = codeword_same l (has_node (nodes_in l rows m (number_of l f))) (nodes f) (read_nodes f has unknown free)

  word_of_end : (f : BlockId) → HasBlock l f → known f ≡ false → IsFree rows (columns l) m (number_of l f)
      → IsWordOfEnd l known f (has_node (nodes_in l rows m (number_of l f)))
  word_of_end f has unknown free = record {
    is_end = (nodes f, free_end f has unknown free);
    misses = λ d d_has is_known. read_word f has unknown free d d_has ∙ nodes_miss f has d d_has is_known;
    contains = read_word f has unknown free f has ∙ free_contains f has unknown free;
    alone = λ d d_end h.
        (let d_has = d_end.1.block in
        elim (contained f d has d_has (sym (read_word f has unknown free d d_has) ∙ h)) [
          | itself same ↦ number_equal l d f d_has has same
          | lead i less is here ↦ absurd (end_free d d_end i less is)
        ]);
  }

  read_ordered : (f : ℕ) → nodes_in l rows m f ≡ filter (has_node (nodes_in l rows m f)) (nodes_to l.n)
  read_ordered f = filter-ordered (λ (i k : ℕ). i == k) same_node (λ i. word_at rows m f (number_of l (block_of i Datum))) (nodes_to l.n)

  -- The nodes of a free block are those of its own end.
  pub free_word : (b : BlockId) → HasBlock l b → known b ≡ false → IsFree rows (columns l) m (number_of l b)
      → IsWord l known b (nodes_in l rows m (number_of l b))
  free_word b has unknown free = record {
    chosen = (
      b,
      record {
        word = word_of_end b has unknown free;
        contains = (word_of_end b has unknown free).contains;
        least = λ d others word_is h. (let same : b ≡ d = word_is.alone b (nodes b, free_end b has unknown free) h in omega (arith, ap (number_of l) same));
      },
    );
    ordered = read_ordered (number_of l b);
  }

  -- the column after the lead is free
  with_free : (b f : BlockId) (i : ℕ) → i < rows → IsLead (columns l) (m i) (number_of l b) → number_of l b ≢ number_of l f → m i (number_of l f) ≡ true
      → IsFree rows (columns l) m (number_of l f)
  with_free b f i less lead_is other here j j_less j_lead =
      elim (cases_eq j i) [
        | inl same ↦ other (lead_unique (columns l) (m i) (number_of l b) (number_of l f) lead_is (subst (λ x. IsLead (columns l) (m x) (number_of l f)) same j_lead))
        | inr apart ↦ true≢false (sym here ∙ reduction.reduced j i (number_of l f) j_less less apart j_lead)
      ]

  with_contains : (b f : BlockId) → HasBlock l b → HasBlock l f → (i : ℕ) → i < rows → IsRowWith l (m i) b f → is_in_codeword l (nodes f) b ≡ true
  with_contains b f has f_has i less row =
      let after = row.after in
      sym (nodes_word f f_has b has)
      ∙ ap (λ a. not a && word (number_of l f) (number_of l b)) (lead_unknown b has i less row.lead.here)
      ∙ ap (λ a. differ a (led (number_of l f) (number_of l b))) (ne_eqb (number_of l b) (number_of l f) (λ same. omega arith))
      ∙ led_row (number_of l f) (number_of l b) i less row.lead
      ∙ row.next

  with_least : (b f : BlockId) → HasBlock l b → HasBlock l f → (i : ℕ) → i < rows → IsRowWith l (m i) b f
      → (d : BlockId) (others : ℕ → Bool) → IsWordOfEnd l known d others → IsTrue (is_in_codeword l others b) → number_of l f ≤ number_of l d
  with_least b f has f_has i less row d others word_is h =
      let sums = is_listed (equations_in l (m i)) in
      let both_at : ℕ → Bool = λ k. adds_up_to l sums (block_at l k) && is_in_codeword l others (block_at l k) in
      let even : odd_below both_at (blocks_count l) ≡ false =
      odd_below-blocks l (λ c. adds_up_to l sums c && is_in_codeword l others c) ∙ sums_even l sums (is_in_codeword l others) (codeword_even others) in
      let b_added : adds_up_to l sums b ≡ true = (and_parts (not (known b)) (adds_up_to l sums b) (sym (row_adds l known m reduction i less b has) ∙ row.lead.here)).1 in
      let b_here : both_at (number_of l b) ≡ true = ap (λ c. adds_up_to l sums c && is_in_codeword l others c) (block_at-number l b has) ∙ and_from (adds_up_to l sums b) (is_in_codeword l others b) b_added h in
      let other = odd_other both_at (blocks_count l) (number_of l b) even (number_below l b has) b_here in
      let k = other.place in
      let k_below = other.below in
      let split = and_parts (both_at k) (not_same k (number_of l b)) other.here in
      let parts = and_parts (adds_up_to l sums (block_at l k)) (is_in_codeword l others (block_at l k)) split.0 in
      let g = block_at l k in
      let g_has : HasBlock l g = block_at-inside l k k_below in
      let g_number : number_of l g ≡ k = number-block_at l k k_below in
      let g_unknown : known g ≡ false = missed_unknown (known g) (is_in_codeword l others g) parts.1 (word_is.misses g g_has) in
      let g_here : m i (number_of l g) ≡ true = row_adds l known m reduction i less g g_has ∙ ap (λ a. not a && adds_up_to l sums g) g_unknown ∙ parts.0 in
      let apart : number_of l b ≢ number_of l g = λ same. true≢false (sym split.1 ∙ ap not (eq-eqb k (number_of l b) (sym g_number ∙ sym same))) in
      let g_free = with_free b g i less row.lead apart g_here in
      let same_end : g ≡ d = word_is.alone g (nodes g, free_end g g_has g_unknown g_free) parts.1 in
      let same_number : number_of l g ≡ number_of l d = ap (number_of l) same_end in
      let b_first : number_of l b ≤ number_of l g = lead_before (m i) (number_of l b) (number_of l g) row.lead g_here in
      elim (cases_lt (number_of l g) (number_of l f)) [
        | inl before ↦ absurd (true≢false (sym g_here ∙ row.between (number_of l g) (strict (number_of l b) (number_of l g) b_first apart) before))
        | inr after ↦ omega arith
      ]
    where
      missed_unknown : (a x : Bool) → x ≡ true → (a ≡ true → x ≡ false) → a ≡ false
      missed_unknown true x here missed = absurd (true≢false (sym here ∙ missed refl))
      missed_unknown false x here missed = refl

      strict : (a b : ℕ) → a ≤ b → a ≢ b → a < b
      strict a b le ne = elim (cases_eq a b) [ inl e ↦ absurd (ne e) | inr n ↦ omega arith ]

  -- The nodes of a lost block that leads a row are those of the next column of the row.
  pub row_word_of : (b f : BlockId) → HasBlock l b → HasBlock l f → (i : ℕ) → i < rows → IsRowWith l (m i) b f
      → IsWord l known b (nodes_in l rows m (number_of l f))
  row_word_of b f has f_has i less row =
      let unknown = lead_unknown f f_has i less row.next in
      let after = row.after in
      let free = with_free b f i less row.lead (λ same. omega arith) row.next in
      record {
        chosen = (
          f,
          record {
            word = word_of_end f f_has unknown free;
            contains = read_word f f_has unknown free b has ∙ with_contains b f has f_has i less row;
            least = with_least b f has f_has i less row;
          },
        );
        ordered = read_ordered (number_of l f);
      }
