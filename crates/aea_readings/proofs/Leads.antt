-- The test for a lead, codewords of nodes that agree, nodes as a list, and what a row and a word have in common.
use Rattle.std.proofs.Common.{◌≡◌, ◌≢◌, ℕ, zero, suc, ◌<◌, ◌≤◌, Bool, true, false, not, ◌&&◌, ◌==◌, List, [], ◌∷◌, ◌++◌, filter, refl, sym, ◌∙◌, ap, arith, inl, inr}
use Rattle.std.specs.List.{list_any}
use Rattle.std.proofs.lemmas.Bool.{cases_Bool, cases_lt, cases_eq, and_parts, and_from, or_cases, or_left, or_right, eq-eqb, ne_eqb, eqb-true, false≢true, not-true}
use Rattle.aea_lattice.specs.declared.blocks.Class.{Class}
use Rattle.aea_lattice.specs.declared.blocks.Class.TheVariants.{Datum, Horiz, Right, Left}
use Rattle.aea_lattice.specs.declared.blocks.BlockId.{BlockId}
use Rattle.aea_lattice.specs.declared.grid.Lattice.{Lattice}
use Rattle.aea_lattice.specs.Blocks.{HasBlock}
use Rattle.aea_lattice.specs.Strands.{strand_of, is_on, prefix, nodes_to}
use Rattle.aea_lattice.specs.Equations.{is_odd_count, codeword_at, is_in_codeword}
use Rattle.aea_lattice.specs.Parity.{differ}
use Rattle.aea_lattice.specs.Lists.{has_node}
use Rattle.aea_lattice.proofs.Odd.{Each, Each-append, odd-same}
use Rattle.aea_gauss_laws.proofs.Given.{and-no}
use Rattle.aea_gauss_laws.proofs.Columns.{odd_below-one, odd_below-same, odd_below-differ, and-true, meets}
use Rattle.aea_gauss_words.specs.Matrices.{IsLead}
use Rattle.aea_readings.specs.Readings.{has_none_below, is_lead}
use Rattle.aea_fates.proofs.Kept.{IsSame, any-filter}
use Rattle.aea_gauss_words.proofs.Reduced.{least}

-- ---- the test for a lead

none_below : (r : ℕ → Bool) (c : ℕ) → has_none_below r c ≡ true → (k : ℕ) → k < c → r k ≡ false
none_below r zero h k less = absurd (omega arith)
none_below r (suc c) h k less =
    let both = and_parts (has_none_below r c) (not (r c)) h in
    elim (cases_lt k c) [
      | inl lt ↦ none_below r c both.0 k lt
      | inr ge ↦ let same : c ≡ k = omega arith in ap r (sym same) ∙ not-true (r c) both.1
    ]

below_none : (r : ℕ → Bool) (c : ℕ) → ((k : ℕ) → k < c → r k ≡ false) → has_none_below r c ≡ true
below_none r zero h = refl
below_none r (suc c) h = and_from (has_none_below r c) (not (r c)) (below_none r c (λ k less. h k (omega arith))) (ap not (h c (omega arith)))

-- the least column of a row passes the test for it
pub lead_test : (cols : ℕ) (r : ℕ → Bool) (c : ℕ) → IsLead cols r c → is_lead r c ≡ true
lead_test cols r c lead = and_from (r c) (has_none_below r c) lead.here (below_none r c lead.least)

-- a column below `cols` that passes the test is the least column of the row
pub test_lead : (cols : ℕ) (r : ℕ → Bool) (c : ℕ) → c < cols → is_lead r c ≡ true → IsLead cols r c
test_lead cols r c less h =
    let both = and_parts (r c) (has_none_below r c) h in
    record { below = less; here = both.0; least = none_below r c both.1 }

-- ---- codewords of nodes that agree on the nodes of the lattice

-- what holds of each number from 1 to i holds of each node up to i
pub each-nodes_to : (i : ℕ) (P : ℕ → Type 0) → ((k : ℕ) → 1 ≤ k → k ≤ i → P k) → Each P (nodes_to i)
each-nodes_to zero P h = tt
each-nodes_to (suc i) P h = Each-append P (nodes_to i) (suc i ∷ []) (each-nodes_to i P (λ k first most. h k first (omega arith))) (h (suc i) (omega arith) (omega arith), tt)

each-filter : {A : Type 0} → (P : A → Type 0) (p : A → Bool) (xs : List A) → Each P xs → Each P (filter p xs)
each-filter P p [] h = tt
each-filter P p (x ∷ xs) h =
    elim (cases_Bool (p x)) [
      | inl yes' ↦ rw yes' (h.0, each-filter P p xs h.1)
      | inr no' ↦ rw no' (each-filter P p xs h.1)
    ]

prefix_same : (l : Lattice) (s t : ℕ → Bool) (c : Class) (i : ℕ) → ((k : ℕ) → 1 ≤ k → k ≤ i → s k ≡ t k) → is_odd_count s (prefix l c i) ≡ is_odd_count t (prefix l c i)
prefix_same l s t c i h = odd-same s t (prefix l c i) (each-filter (λ k. s k ≡ t k) (is_on l c (strand_of l c i) i) (nodes_to i) (each-nodes_to i (λ k. s k ≡ t k) h))

codeword_class : (l : Lattice) (s t : ℕ → Bool) (i : ℕ) (c : Class) → 1 ≤ i → ((k : ℕ) → 1 ≤ k → k ≤ i → s k ≡ t k) → codeword_at l s i c ≡ codeword_at l t i c
codeword_class l s t i Datum first h = h i first (omega arith)
codeword_class l s t i Horiz first h = prefix_same l s t Horiz i h
codeword_class l s t i Right first h = prefix_same l s t Right i h
codeword_class l s t i Left first h = prefix_same l s t Left i h

pub codeword_same : (l : Lattice) (s t : ℕ → Bool) → ((k : ℕ) → 1 ≤ k → k ≤ l.n → s k ≡ t k) → (b : BlockId) → HasBlock l b → is_in_codeword l s b ≡ is_in_codeword l t b
codeword_same l s t h b has = codeword_class l s t b.node b.class has.first (λ k first most. h k first (let last = has.last in omega arith))

-- ---- nodes as a list

pub same_node : IsSame (λ (i k : ℕ). i == k)
same_node = record { itself = λ k. eq-eqb k k refl; equal = λ i k h. eqb-true i k h }

any-append : (p : ℕ → Bool) (xs ys : List ℕ) → list_any p ys ≡ true → list_any p (xs ++ ys) ≡ true
any-append p [] ys h = h
any-append p (x ∷ xs) ys h = or_right (p x) (list_any p (xs ++ ys)) (any-append p xs ys h)

any-append_left : (p : ℕ → Bool) (xs ys : List ℕ) → list_any p xs ≡ true → list_any p (xs ++ ys) ≡ true
any-append_left p [] ys h = absurd (false≢true h)
any-append_left p (x ∷ xs) ys h =
    elim (or_cases (p x) (list_any p xs) h) [
      | inl here ↦ or_left (p x) (list_any p (xs ++ ys)) here
      | inr there ↦ or_right (p x) (list_any p (xs ++ ys)) (any-append_left p xs ys there)
    ]

node_listed : (i n : ℕ) → 1 ≤ i → i ≤ n → has_node (nodes_to n) i ≡ true
node_listed i zero first most = absurd (omega arith)
node_listed i (suc n) first most =
    elim (cases_eq i (suc n)) [
      | inl same ↦ any-append (λ k. i == k) (nodes_to n) (suc n ∷ []) (or_left (i == suc n) false (eq-eqb i (suc n) same))
      | inr other ↦ any-append_left (λ k. i == k) (nodes_to n) (suc n ∷ []) (node_listed i n first (omega arith))
    ]

pub nodes_kept : (p : ℕ → Bool) (n i : ℕ) → 1 ≤ i → i ≤ n → has_node (filter p (nodes_to n)) i ≡ p i
nodes_kept p n i first most = any-filter (λ (i k : ℕ). i == k) same_node p i (nodes_to n) (node_listed i n first most)

-- ---- what a row and a word have in common

pub meets_at : (r : ℕ → Bool) (f n : ℕ) → f < n → meets r (λ k. k == f) n ≡ r f
meets_at r f n less =
    odd_below-one (λ k. r k && (k == f)) n f less (λ k k_less other. ap (λ b. r k && b) (ne_eqb k f other) ∙ and-no (r k))
    ∙ ap (λ b. r f && b) (eq-eqb f f refl) ∙ and-true (r f)

pub meets-differ : (r x y : ℕ → Bool) (n : ℕ) → meets r (λ k. differ (x k) (y k)) n ≡ differ (meets r x n) (meets r y n)
meets-differ r x y n =
    odd_below-same (λ k. r k && differ (x k) (y k)) (λ k. differ (r k && x k) (r k && y k)) n (λ k less. and-over (r k) (x k) (y k))
    ∙ odd_below-differ (λ k. r k && x k) (λ k. r k && y k) n
  where
    and-over : (a b c : Bool) → (a && differ b c) ≡ differ (a && b) (a && c)
    and-over true b c = refl
    and-over false b c = refl
