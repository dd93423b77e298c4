-- Nodes along a strand, and what one node more changes in a codeword.
use Rattle.std.proofs.Common.{◌≡◌, ◌≢◌, ℕ, zero, suc, ◌<◌, ◌≤◌, inl, inr, Bool, true, false, not, ◌&&◌, ◌==◌, refl, sym, ◌∙◌, ap, arith}
use Rattle.std.specs.Prelude.{nat_le}
use Rattle.std.proofs.lemmas.Bool.{cases_Bool, cases_eq, cases_lt, eq-eqb, eqb-true, ne_eqb, true≢false, and_parts, le-leb, lt-leb, leb-true}
use Rattle.aea_lattice.specs.declared.blocks.Class.{Class}
use Rattle.aea_lattice.specs.declared.blocks.Class.TheVariants.{Datum, Horiz, Right, Left}
use Rattle.aea_lattice.specs.declared.grid.Lattice.{Lattice}
use Rattle.aea_lattice.specs.Blocks.{class_number}
use Rattle.aea_lattice.specs.Fences.{is_parted}
use Rattle.aea_lattice.specs.Strands.{strand_of, is_on, prefix, nodes_to}
use Rattle.aea_lattice.specs.Equations.{is_odd_count, codeword_at}
use Rattle.aea_lattice.specs.Parity.{differ}
use Rattle.aea_lattice.proofs.Codewords.{codeword-parity}
use Rattle.aea_lattice.proofs.Odd.{odd-snoc, odd-filter, odd-differ, odd-none, differ-false_r}
use Rattle.aea_walk.specs.Stretches.{is_along}

-- node x is on the strand of a, at a or after it, and no fence parts them
pub record Along (l : Lattice) (c : Class) (a x : ℕ) : Type 0 where
  pub from : a ≤ x
  pub strand : strand_of l c a ≡ strand_of l c x
  pub joined : is_parted l.fences a x ≡ false

not_true : (b : Bool) → not b ≡ true → b ≡ false
not_true true h = absurd (true≢false (sym h))
not_true false h = refl

pub along_parts : (l : Lattice) (c : Class) (a x : ℕ) → is_along l c a x ≡ true → Along l c a x
along_parts l c a x is =
    let both = and_parts (nat_le a x) (is_on l c (strand_of l c x) x a) is in
    let on = and_parts (strand_of l c a == strand_of l c x) (not (is_parted l.fences a x)) both.1 in
    record { from = leb-true a x both.0; strand = eqb-true (strand_of l c a) (strand_of l c x) on.0; joined = not_true (is_parted l.fences a x) on.1 }

pub along_make : (l : Lattice) (c : Class) (a x : ℕ) → Along l c a x → is_along l c a x ≡ true
along_make l c a x h =
    ap (λ b. b && is_on l c (strand_of l c x) x a) (le-leb a x h.from)
    ∙ ap (λ b. b && not (is_parted l.fences a x)) (eq-eqb (strand_of l c a) (strand_of l c x) h.strand)
    ∙ ap not h.joined

pub not_along : (l : Lattice) (c : Class) (a x : ℕ) → (Along l c a x → ⊥) → is_along l c a x ≡ false
not_along l c a x none = elim (cases_Bool (is_along l c a x)) [
  | inl along ↦ absurd (none (along_parts l c a x along))
  | inr out ↦ out
]

-- ---- codewords of sums of sets

pub codeword-differ : (l : Lattice) (s t : ℕ → Bool) (i : ℕ) (c : Class) → codeword_at l (λ k. differ (s k) (t k)) i c ≡ differ (codeword_at l s i c) (codeword_at l t i c)
codeword-differ l s t i Datum = refl
codeword-differ l s t i Horiz = odd-differ s t (prefix l Horiz i)
codeword-differ l s t i Right = odd-differ s t (prefix l Right i)
codeword-differ l s t i Left = odd-differ s t (prefix l Left i)

pub codeword-none : (l : Lattice) (i : ℕ) (c : Class) → codeword_at l (λ k. false) i c ≡ false
codeword-none l i Datum = refl
codeword-none l i Horiz = odd-none (prefix l Horiz i)
codeword-none l i Right = odd-none (prefix l Right i)
codeword-none l i Left = odd-none (prefix l Left i)

-- one node among the first m
one_node : (p : ℕ → Bool) (k : ℕ) → 1 ≤ k → (m : ℕ) → is_odd_count (λ n. p n && (n == k)) (nodes_to m) ≡ (nat_le k m && p k)
one_node p k first zero = sym (ap (λ b. b && p k) (lt-leb k zero first))
one_node p k first (suc m) =
    odd-snoc (λ n. p n && (n == k)) (nodes_to m) (suc m)
    ∙ ap (λ (b : Bool). differ b (p (suc m) && (suc m == k))) (one_node p k first m)
    ∙ elim (cases_lt m k) [
      | inl above ↦ elim (cases_eq (suc m) k) [
        | inl here ↦
            (let le : k ≤ suc m = omega arith in
            ap (λ b. differ (b && p k) (p (suc m) && (suc m == k))) (lt-leb k m above)
            ∙ ap (λ b. p (suc m) && b) (eq-eqb (suc m) k here) ∙ and-true (p (suc m)) ∙ ap p here
            ∙ sym (ap (λ b. b && p k) (le-leb k (suc m) le)))
        | inr other ↦
            (let past : suc m < k = omega arith in
            ap (λ b. differ (b && p k) (p (suc m) && (suc m == k))) (lt-leb k m above)
            ∙ ap (λ b. p (suc m) && b) (ne_eqb (suc m) k other) ∙ and-false (p (suc m))
            ∙ sym (ap (λ b. b && p k) (lt-leb k (suc m) past)))
      ]
      | inr below ↦
          (let le : k ≤ suc m = omega arith in
          let other : suc m ≢ k = omega arith in
          ap (λ b. differ (b && p k) (p (suc m) && (suc m == k))) (le-leb k m below)
          ∙ ap (λ b. differ (p k) (p (suc m) && b)) (ne_eqb (suc m) k other)
          ∙ ap (differ (p k)) (and-false (p (suc m))) ∙ differ-false_r (p k)
          ∙ sym (ap (λ b. b && p k) (le-leb k (suc m) le)))
    ]
  where
    and-true : (b : Bool) → (b && true) ≡ b
    and-true true = refl
    and-true false = refl

    and-false : (b : Bool) → (b && false) ≡ false
    and-false true = refl
    and-false false = refl

-- the codeword of one node has the parities along its strand from there on
pub codeword-one : (l : Lattice) (c : Class) (k x : ℕ) → 1 ≤ k → 1 ≤ class_number c → codeword_at l (λ n. n == k) x c ≡ is_along l c k x
codeword-one l c k x first parity =
    codeword-parity l (λ n. n == k) x c parity
    ∙ odd-filter (is_on l c (strand_of l c x) x) (λ n. n == k) (nodes_to x)
    ∙ one_node (is_on l c (strand_of l c x) x) k first x

-- A block is in the codeword of some nodes and one more exactly where it is in that of the nodes and not along the strand of
-- the other, or the other way round: so a codeword has a parity exactly where an odd number of its nodes have it along
-- their strand.
pub codeword-more : (l : Lattice) (c : Class) (taken : ℕ → Bool) (k x : ℕ) → 1 ≤ k → 1 ≤ class_number c
    → codeword_at l (λ n. differ (taken n) (n == k)) x c ≡ differ (codeword_at l taken x c) (is_along l c k x)
codeword-more l c taken k x first parity =
    codeword-differ l taken (λ n. n == k) x c ∙ ap (differ (codeword_at l taken x c)) (codeword-one l c k x first parity)
