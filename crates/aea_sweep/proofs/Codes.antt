-- Codewords of sums of words.
use Rattle.std.proofs.Common.{◌≡◌, ℕ, zero, suc, ◌≤◌, ◌⊎◌, inl, inr, Bool, true, false, ◌&&◌, List, [], ◌∷◌, filter, refl, sym, ◌∙◌, ap, arith}
use Rattle.std.proofs.lemmas.Bool.{cases_Bool}
use Rattle.aea_lattice.specs.declared.blocks.Class.{Class}
use Rattle.aea_lattice.specs.declared.blocks.Class.TheVariants.{Datum, Horiz, Right, Left}
use Rattle.aea_lattice.specs.declared.blocks.BlockId.{BlockId}
use Rattle.aea_lattice.specs.declared.grid.Lattice.{Lattice}
use Rattle.aea_lattice.specs.Blocks.{HasBlock}
use Rattle.aea_lattice.specs.Strands.{strand_of, is_on, prefix, nodes_to}
use Rattle.aea_lattice.specs.Equations.{is_odd_count, codeword_at, is_in_codeword}
use Rattle.aea_lattice.specs.Parity.{differ}
use Rattle.aea_gauss_laws.specs.Parities.{odd_below}
use Rattle.aea_lattice.proofs.Odd.{odd-differ, odd-none, odd-same, differ-and, differ-assoc, differ-self, differ-false_r, Each}
use Rattle.aea_readings.proofs.Leads.{each-nodes_to}
use Rattle.aea_sweep.specs.Sweep.{sum_of_words}

pub one_of : (a b : Bool) → differ a b ≡ true → (a ≡ true) ⊎ (b ≡ true)
one_of true b h = inl refl
one_of false b h = inr h

-- a bit that is added twice goes
pub added_twice : (a x : Bool) → differ (differ a x) x ≡ a
added_twice a x = differ-assoc a x x ∙ ap (differ a) (differ-self x) ∙ differ-false_r a

class_differ : (l : Lattice) (s t : ℕ → Bool) (i : ℕ) (c : Class) → codeword_at l (λ k. differ (s k) (t k)) i c ≡ differ (codeword_at l s i c) (codeword_at l t i c)
class_differ l s t i Datum = refl
class_differ l s t i Horiz = odd-differ s t (prefix l Horiz i)
class_differ l s t i Right = odd-differ s t (prefix l Right i)
class_differ l s t i Left = odd-differ s t (prefix l Left i)

pub codeword-differ : (l : Lattice) (s t : ℕ → Bool) (b : BlockId) → is_in_codeword l (λ k. differ (s k) (t k)) b ≡ differ (is_in_codeword l s b) (is_in_codeword l t b)
codeword-differ l s t b = class_differ l s t b.node b.class

class_none : (l : Lattice) (i : ℕ) (c : Class) → codeword_at l (λ k. false) i c ≡ false
class_none l i Datum = refl
class_none l i Horiz = odd-none (prefix l Horiz i)
class_none l i Right = odd-none (prefix l Right i)
class_none l i Left = odd-none (prefix l Left i)

pub codeword-none : (l : Lattice) (b : BlockId) → is_in_codeword l (λ k. false) b ≡ false
codeword-none l b = class_none l b.node b.class

pub codeword-and : (l : Lattice) (q : Bool) (f : ℕ → Bool) (b : BlockId) → is_in_codeword l (λ k. q && f k) b ≡ (q && is_in_codeword l f b)
codeword-and l true f b = refl
codeword-and l false f b = codeword-none l b

-- the codeword of a sum has a block exactly where an odd number of its words have it
pub codeword-sum : (l : Lattice) (words : ℕ → ℕ → Bool) (p : ℕ → Bool) (rows : ℕ) (b : BlockId)
    → is_in_codeword l (λ i. sum_of_words rows words p i) b ≡ odd_below (λ r. p r && is_in_codeword l (words r) b) rows
codeword-sum l words p zero b = codeword-none l b
codeword-sum l words p (suc rows) b =
    codeword-differ l (λ i. sum_of_words rows words p i) (λ i. p rows && words rows i) b
    ∙ ap (λ x. differ x (is_in_codeword l (λ i. p rows && words rows i) b)) (codeword-sum l words p rows b)
    ∙ ap (differ (odd_below (λ r. p r && is_in_codeword l (words r) b) rows)) (codeword-and l (p rows) (words rows) b)

each-filter : {A : Type 0} → (P : A → Type 0) (p : A → Bool) (xs : List A) → Each P xs → Each P (filter p xs)
each-filter P p [] h = tt
each-filter P p (x ∷ xs) h =
    elim (cases_Bool (p x)) [
      | inl yes' ↦ rw yes' (h.0, each-filter P p xs h.1)
      | inr no' ↦ rw no' (each-filter P p xs h.1)
    ]

prefix_same : (l : Lattice) (s t : ℕ → Bool) (c : Class) (i : ℕ) → ((k : ℕ) → 1 ≤ k → k ≤ i → s k ≡ t k) → is_odd_count s (prefix l c i) ≡ is_odd_count t (prefix l c i)
prefix_same l s t c i h = odd-same s t (prefix l c i) (each-filter (λ k. s k ≡ t k) (is_on l c (strand_of l c i) i) (nodes_to i) (each-nodes_to i (λ k. s k ≡ t k) h))

pub class_same : (l : Lattice) (s t : ℕ → Bool) (i : ℕ) (c : Class) → 1 ≤ i → ((k : ℕ) → 1 ≤ k → k ≤ i → s k ≡ t k) → codeword_at l s i c ≡ codeword_at l t i c
class_same l s t i Datum first h = h i first (omega arith)
class_same l s t i Horiz first h = prefix_same l s t Horiz i h
class_same l s t i Right first h = prefix_same l s t Right i h
class_same l s t i Left first h = prefix_same l s t Left i h

-- nodes after a block do not matter for it
pub codeword-late : (l : Lattice) (s : ℕ → Bool) (b : BlockId) → HasBlock l b → ((k : ℕ) → 1 ≤ k → k ≤ b.node → s k ≡ false) → is_in_codeword l s b ≡ false
codeword-late l s b has h = class_same l s (λ k. false) b.node b.class has.first h ∙ codeword-none l b

-- one condition for all
pub odd_below-and_r : (f : ℕ → Bool) (b : Bool) (m : ℕ) → odd_below (λ k. f k && b) m ≡ (odd_below f m && b)
odd_below-and_r f b zero = refl
odd_below-and_r f b (suc m) = ap (λ x. differ x (f m && b)) (odd_below-and_r f b m) ∙ sym (differ-and (odd_below f m) (f m) b)
