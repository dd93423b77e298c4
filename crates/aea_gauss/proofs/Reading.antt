-- What is read off reduced rows, by the rows that the columns lead.
use Rattle.std.proofs.Common.{◌≡◌, ◌≢◌, ℕ, zero, suc, ◌+◌, ◌*◌, ◌<◌, ◌≤◌, inl, inr, Bool, true, false, ◌&&◌, ◌||◌, ◌==◌, cond, List, [], ◌∷◌, ◌++◌, take, length, get_or, Option, Some, None, MatchOption, refl, sym, ◌∙◌, ap, subst, arith}
use Rattle.std.proofs.Math.ListN.{set}
use Rattle.std.specs.Prelude.{nat_lt}
use Rattle.std.proofs.lemmas.Bool.{cases_Bool, cases_lt, cases_eq, and_parts, eq-eqb, ne_eqb, le-ltb, cond-false, true≢false}
use Rattle.std.proofs.lemmas.List.{get_or-set_same, get_or-set_other, length-set}
use Rattle.aea_lattice.specs.declared.blocks.BlockId.{BlockId}
use Rattle.aea_lattice.specs.declared.blocks.EqId.{EqId}
use Rattle.aea_lattice.specs.declared.grid.Lattice.{Lattice}
use Rattle.aea_lattice.specs.Blocks.{class_number}
use Rattle.aea_lattice.specs.Equations.{is_in_equation}
use Rattle.aea_gauss_laws.specs.Parities.{odd_below}
use Rattle.aea_gauss_laws.proofs.Columns.{odd_below-one, odd_below-none, odd_below-same}
use Rattle.aea_gauss_words.specs.Matrices.{IsSumOfRows, IsLead, IsReduced, IsReduction}
use Rattle.aea_gauss_words.specs.Words.{words_for, bit_matrix, IsPadded}
use Rattle.aea_gauss_words.proofs.Reduced.{lead_unique}
use Rattle.aea_readings.specs.Readings.{has_none_below, is_lead, IsFree, word_at}
use Rattle.aea_readings.specs.Small.{block_in, equation_in, own_column, small_start, nodes_at, equations_at}
use Rattle.aea_readings.proofs.Leads.{lead_test, test_lead}
use Rattle.aea_gauss.specs.Revealed.{AreLeads}

-- ---- leads over more columns

-- the least column of a row is its least one over any other number of columns that is above it
pub lead_narrow : (cols big : ℕ) (r : ℕ → Bool) (c : ℕ) → c < cols → IsLead big r c → IsLead cols r c
lead_narrow cols big r c less h = record { below = less; here = h.here; least = h.least }

lead_wide : (cols big : ℕ) (r : ℕ → Bool) (c : ℕ) → cols ≤ big → IsLead cols r c → IsLead big r c
lead_wide cols big r c le h = record { below = (let b = h.below in omega arith); here = h.here; least = h.least }

-- a column that is the least of no row over some columns is that of none over fewer
pub free_narrow : (rows cols big : ℕ) (m : ℕ → ℕ → Bool) (c : ℕ) → cols ≤ big → IsFree rows big m c → IsFree rows cols m c
free_narrow rows cols big m c le free i less h = free i less (lead_wide cols big (m i) c le h)

-- rows whose further columns are empty are reduced over these too
pub reduced_wide : (rows cols big : ℕ) (m : ℕ → ℕ → Bool) → ((i k : ℕ) → i < rows → cols ≤ k → k < big → m i k ≡ false) → IsReduced rows cols m → IsReduced rows big m
reduced_wide rows cols big m past reduced i j c i_less j_less other lead = elim (cases_lt c cols) [
  | inl low ↦ reduced i j c i_less j_less other (lead_narrow cols big (m i) c low lead)
  | inr high ↦ absurd (true≢false (sym lead.here ∙ past i c i_less high lead.below))
]

-- ---- the table of leads

-- at a place within a list the default does not matter
pub same_default : {A : Type 0} → (xs : List A) (k : ℕ) (a b : A) → k < length xs → get_or xs k a ≡ get_or xs k b
same_default [] k a b less = absurd (omega arith)
same_default (x ∷ xs) zero a b less = refl
same_default (x ∷ xs) (suc k) a b less = same_default xs k a b (omega arith)

-- the entry of a column
pub entry_of : (rows cols : ℕ) (m : ℕ → ℕ → Bool) (leads : List (Option ℕ)) (k : ℕ) (x d : Option ℕ) → AreLeads rows cols m leads → k < length leads → x ≡ get_or leads k d
    → MatchOption x (IsFree rows cols m k) (λ i. (i < rows) × IsLead cols (m i) k)
entry_of rows cols m leads k x d are less is =
    subst (λ o. MatchOption o (IsFree rows cols m k) (λ i. (i < rows) × IsLead cols (m i) k)) (sym (is ∙ same_default leads k d None less)) (are k less)

-- where an optional number is none, what is said for none holds
pub at_none : (x : Option ℕ) (P : Type 0) (Q : ℕ → Type 0) → MatchOption x P Q → x ≡ None → P
at_none None P Q h is = h
at_none (Some i) P Q h is = absurd (cc)

-- where an optional number is some i, what is said for some holds of i
pub at_some : (x : Option ℕ) (P : Type 0) (Q : ℕ → Type 0) (i : ℕ) → MatchOption x P Q → x ≡ Some i → Q i
at_some None P Q i h is = absurd (cc)
at_some (Some j) P Q i h is = let same : j ≡ i = cc in subst Q same h

more_rows : (rows cols : ℕ) (m : ℕ → ℕ → Bool) (a : ℕ) (o : Option ℕ) → (IsLead cols (m rows) a → ⊥)
    → MatchOption o (IsFree rows cols m a) (λ i. (i < rows) × IsLead cols (m i) a)
    → MatchOption o (IsFree (rows + 1) cols m a) (λ i. (i < rows + 1) × IsLead cols (m i) a)
more_rows rows cols m a None other free = λ i less lead. elim (cases_lt i rows) [
  | inl before ↦ free i before lead
  | inr here ↦ (let same : i ≡ rows = omega arith in other (subst (λ j. IsLead cols (m j) a) same lead))
]
more_rows rows cols m a (Some i) other h = ((let less = h.0 in omega arith), h.1)

pub leads_same : (rows cols : ℕ) (m : ℕ → ℕ → Bool) (leads : List (Option ℕ)) → AreLeads rows cols m leads
    → ((a : ℕ) → a < length leads → IsLead cols (m rows) a → ⊥) → AreLeads (rows + 1) cols m leads
leads_same rows cols m leads are none a less = more_rows rows cols m a (get_or leads a None) (none a less) (are a less)

pub leads_set : (rows cols : ℕ) (m : ℕ → ℕ → Bool) (leads : List (Option ℕ)) (c : ℕ) → AreLeads rows cols m leads → c < length leads → IsLead cols (m rows) c
    → AreLeads (rows + 1) cols m (set leads c (Some rows))
leads_set rows cols m leads c are less lead a a_less =
    let inside : a < length leads = (let long = length-set leads c (Some rows) in omega arith) in
    elim (cases_eq a c) [
      | inl same ↦
          subst (λ o. MatchOption o (IsFree (rows + 1) cols m a) (λ i. (i < rows + 1) × IsLead cols (m i) a))
          (sym (ap (λ k. get_or (set leads c (Some rows)) k None) same ∙ get_or-set_same leads c (Some rows) None less))
          ((omega arith, subst (IsLead cols (m rows)) (sym same) lead))
      | inr other ↦
          subst (λ o. MatchOption o (IsFree (rows + 1) cols m a) (λ i. (i < rows + 1) × IsLead cols (m i) a))
          (sym (get_or-set_other leads c a (Some rows) None (λ e. other (omega arith))))
          (more_rows rows cols m a (get_or leads a None) (λ h. other (lead_unique cols (m rows) a c h lead)) (are a inside))
    ]

-- a table without entries
pub leads_begin : (cols : ℕ) (m : ℕ → ℕ → Bool) (leads : List (Option ℕ)) → ((a : ℕ) → a < length leads → get_or leads a None ≡ None) → AreLeads 0 cols m leads
leads_begin cols m leads none a less =
    subst (λ o. MatchOption o (IsFree 0 cols m a) (λ i. (i < 0) × IsLead cols (m i) a)) (sym (none a less)) (λ i i_less. absurd (omega arith))

-- ---- the word of a column

pub word_itself : (rows : ℕ) (m : ℕ → ℕ → Bool) (f k : ℕ) → k ≡ f → true ≡ word_at rows m f k
word_itself rows m f k same = sym (ap (λ b. b || odd_below (λ i. is_lead (m i) k && m i f) rows) (eq-eqb k f same))

-- in reduced rows the word of f has another column k that leads a row exactly where that row has f
pub word_led : (rows cols : ℕ) (m : ℕ → ℕ → Bool) (f k i : ℕ) → IsReduced rows cols m → k ≢ f → i < rows → IsLead cols (m i) k → m i f ≡ word_at rows m f k
word_led rows cols m f k i reduced other less lead =
    sym
    (ap (λ b. b || odd_below (λ j. is_lead (m j) k && m j f) rows) (ne_eqb k f other)
    ∙ odd_below-one (λ j. is_lead (m j) k && m j f) rows i less
    (λ j j_less apart. elim (cases_Bool (is_lead (m j) k)) [
      | inl yes' ↦ absurd (true≢false (sym (and_parts (m j k) (has_none_below (m j) k) yes').0 ∙ reduced i j k less j_less (λ e. apart (sym e)) lead))
      | inr no' ↦ ap (λ b. b && m j f) no'
    ])
    ∙ ap (λ b. b && m i f) (lead_test cols (m i) k lead))

-- the word of f has no column, besides f, that is the least of no row
pub word_free : (rows cols : ℕ) (m : ℕ → ℕ → Bool) (f k : ℕ) → k ≢ f → k < cols → IsFree rows cols m k → false ≡ word_at rows m f k
word_free rows cols m f k other less free =
    sym
    (ap (λ b. b || odd_below (λ j. is_lead (m j) k && m j f) rows) (ne_eqb k f other)
    ∙ odd_below-none (λ j. is_lead (m j) k && m j f) rows
    (λ j j_less. elim (cases_Bool (is_lead (m j) k)) [
      | inl yes' ↦ absurd (free j j_less (test_lead cols (m j) k less yes'))
      | inr no' ↦ ap (λ b. b && m j f) no'
    ]))

-- ---- lists that are read one place after another

-- the nodes read off the first k + 1 blocks are those of the first k, and that of block k where it is a datum
-- and its place passes
pub nodes-more : (p : ℕ → Bool) (bs : List BlockId) (k : ℕ) (d : BlockId) → k < length bs
    → nodes_at p (take (k + 1) bs) ≡ nodes_at p (take k bs) ++ cond (p k && class_number (get_or bs k d).class == 0) ((get_or bs k d).node ∷ []) []
nodes-more p [] k d less = absurd (omega arith)
nodes-more p (b ∷ bs) zero d less = nodes-first p b bs
  where
    nodes-first : (p : ℕ → Bool) (b : BlockId) (bs : List BlockId) → nodes_at p (take 1 (b ∷ bs)) ≡ cond (p 0 && class_number b.class == 0) (b.node ∷ []) []
    nodes-first p b bs = refl
nodes-more p (b ∷ bs) (suc k) d less =
    let rest = nodes-more (λ j. p (suc j)) bs k d (omega arith) in
    let next : suc k + 1 ≡ suc (k + 1) = omega arith in
    ap (λ n. nodes_at p (take n (b ∷ bs))) next
    ∙ elim (cases_Bool (p 0 && class_number b.class == 0)) [
      | inl yes' ↦ rw yes' (ap (λ ns. b.node ∷ ns) rest)
      | inr no' ↦ rw no' rest
    ]

-- the equations read off the first k + 1 are those of the first k, and equation k where its place passes
pub equations-more : (p : ℕ → Bool) (es : List EqId) (k : ℕ) (d : EqId) → k < length es
    → equations_at p (take (k + 1) es) ≡ equations_at p (take k es) ++ cond (p k) (get_or es k d ∷ []) []
equations-more p [] k d less = absurd (omega arith)
equations-more p (e ∷ es) zero d less = refl
equations-more p (e ∷ es) (suc k) d less =
    let rest = equations-more (λ j. p (suc j)) es k d (omega arith) in
    let next : suc k + 1 ≡ suc (k + 1) = omega arith in
    ap (λ n. equations_at p (take n (e ∷ es))) next
    ∙ elim (cases_Bool (p 0)) [
      | inl yes' ↦ rw yes' (ap (λ xs. e ∷ xs) rest)
      | inr no' ↦ rw no' rest
    ]

take-snoc : {A : Type 0} → (xs : List A) (k : ℕ) (d : A) → k < length xs → take (k + 1) xs ≡ take k xs ++ get_or xs k d ∷ []
take-snoc [] k d less = absurd (omega arith)
take-snoc (x ∷ xs) zero d less = refl
take-snoc (x ∷ xs) (suc k) d less =
    let next : suc k + 1 ≡ suc (k + 1) = omega arith in
    ap (λ n. take n (x ∷ xs)) next ∙ ap (λ ys. x ∷ ys) (take-snoc xs k d (omega arith))

-- ---- rows as they were filled

start_sums : (rows cols : ℕ) (old now : ℕ → ℕ → Bool) → ((i k : ℕ) → i < rows → k < cols → now i k ≡ old i k) → (v : ℕ → Bool) → IsSumOfRows rows cols old v → IsSumOfRows rows cols now v
start_sums rows cols old now same v sum =
    (sum.0, λ k less. sum.1 k less ∙ odd_below-same (λ i. sum.0 i && old i k) (λ i. sum.0 i && now i k) rows (λ i i_less. ap (λ b. sum.0 i && b) (sym (same i k i_less less))))

pub reduction_from : (rows cols : ℕ) (old now new : ℕ → ℕ → Bool) → ((i k : ℕ) → i < rows → k < cols → now i k ≡ old i k) → IsReduction rows cols now new → IsReduction rows cols old new
reduction_from rows cols old now new same reduction = record {
  same_sums = λ v. (
    λ h. (reduction.same_sums v).0 (start_sums rows cols old now same v h),
    λ h. start_sums rows cols now old (λ i k i_less less. sym (same i k i_less less)) v ((reduction.same_sums v).1 h),
  );
  reduced = reduction.reduced;
}

-- the first columns alone have bits
pub start_padded : (l : Lattice) (blocks : List BlockId) (equations : List EqId) (cols rows wide : ℕ) (words : List ℕ) → cols ≡ length blocks + length equations
    → rows ≡ length equations → wide ≡ words_for cols
    → ((i k : ℕ) → i < length equations → k < 64 * wide → bit_matrix wide words i k ≡ small_start l blocks equations i k)
    → IsPadded cols rows words
start_padded l blocks equations cols rows wide words ec er ew filled i k i_less high less =
    let own = own_column (length blocks) (length equations) i in
    ap (λ w. bit_matrix w words i k) (sym ew)
    ∙ filled i k (omega arith) (omega arith)
    ∙ cond-false (nat_lt k (length blocks)) (is_in_equation l (equation_in equations i) (block_in blocks k)) (k == own) (le-ltb k (length blocks) (omega arith))
    ∙ ne_eqb k own (λ same. omega arith)

-- what elimination leaves of them
pub record Left (l : Lattice) (blocks : List BlockId) (equations : List EqId) (wide : ℕ) (words : List ℕ) : Type 0 where
  pub reduction : IsReduction (length equations) (length blocks + length equations) (small_start l blocks equations) (bit_matrix wide words)
  pub reduced : IsReduced (length equations) (64 * wide) (bit_matrix wide words)

-- where the rows were filled as at first and then reduced, with bits past the columns 0, the words are what
-- elimination leaves
pub left_by : (l : Lattice) (blocks : List BlockId) (equations : List EqId) (cols rows wide : ℕ) (first lent last back : List ℕ) → cols ≡ length blocks + length equations
    → rows ≡ length equations → wide ≡ words_for cols → lent ≡ first → back ≡ last
    → ((i k : ℕ) → i < length equations → k < 64 * wide → bit_matrix wide first i k ≡ small_start l blocks equations i k)
    → IsReduction rows cols (bit_matrix (words_for cols) lent) (bit_matrix (words_for cols) last) → IsPadded cols rows last
    → Left l blocks equations wide back
left_by l blocks equations cols rows wide first lent last back ec er ew elent eback filled reduction padded =
    let r1 : IsReduction rows cols (bit_matrix wide first) (bit_matrix wide back) =
    subst (λ w. IsReduction rows cols (bit_matrix w first) (bit_matrix w back)) (sym ew)
    (subst (λ x. IsReduction rows cols (bit_matrix (words_for cols) x) (bit_matrix (words_for cols) back)) elent
    (subst (λ x. IsReduction rows cols (bit_matrix (words_for cols) lent) (bit_matrix (words_for cols) x)) (sym eback) reduction)) in
    let r2 : IsReduction (length equations) (length blocks + length equations) (bit_matrix wide first) (bit_matrix wide back) =
    subst (λ c. IsReduction (length equations) c (bit_matrix wide first) (bit_matrix wide back)) ec
    (subst (λ n. IsReduction n cols (bit_matrix wide first) (bit_matrix wide back)) er r1) in
    record {
      reduction =
          reduction_from (length equations) (length blocks + length equations) (small_start l blocks equations) (bit_matrix wide first) (bit_matrix wide back)
          (λ i k i_less k_less. filled i k i_less (omega arith)) r2;
      reduced =
          reduced_wide (length equations) (length blocks + length equations) (64 * wide) (bit_matrix wide back)
          (λ i k i_less high less.
          ap (λ x. bit_matrix wide x i k) eback ∙ ap (λ w. bit_matrix w last i k) ew ∙ padded i k (omega arith) (omega arith) (omega arith))
          r2.reduced;
    }
