-- What a node more changes in a codeword, and where the blocks of a stretch that was open get their labels.
use Rattle.std.proofs.Common.{◌≡◌, ◌≢◌, ◌⊎◌, ℕ, zero, suc, ◌<◌, ◌≤◌, inl, inr, Bool, true, false, cond, ◌&&◌, ◌==◌, List, refl, sym, ◌∙◌, ap, arith}
use Rattle.std.specs.Prelude.{nat_le, nat_lt}
use Rattle.std.proofs.lemmas.Bool.{cases_Bool, cases_eq, cases_lt, eq-eqb, eqb-true, ne_eqb, and_parts, le-leb}
use Rattle.std.proofs.lemmas.Bool.Decides.{nat_tests}
use Rattle.aea_lattice.specs.declared.blocks.Class.{Class}
use Rattle.aea_lattice.specs.declared.blocks.BlockId.{BlockId}
use Rattle.aea_lattice.specs.declared.grid.Lattice.{Lattice}
use Rattle.aea_lattice.specs.Blocks.{HasBlock, block_of, class_number}
use Rattle.aea_lattice.specs.Strands.{strand_of, is_on, nodes_to}
use Rattle.aea_lattice.specs.Equations.{is_odd_count, codeword_at, is_in_codeword}
use Rattle.aea_lattice.specs.Parity.{differ}
use Rattle.aea_lattice.proofs.Equations.{class_number-equal}
use Rattle.aea_lattice.proofs.Codewords.{codeword-parity}
use Rattle.aea_lattice.proofs.Odd.{odd-snoc, odd-filter, differ-false_r}
use Rattle.aea_sweep.specs.Labels.{is_along, is_stretch, label_of, Labels}
use Rattle.aea_sweep.specs.Stretches.{IsOpenFrom, AreEnding}
use Rattle.aea_sweep.proofs.Codes.{codeword-differ, class_same}
use Rattle.aea_sweep.proofs.Labelling.{stays, kept}

-- one node among the first m
pub one_node : (p : ℕ → Bool) (k : ℕ) → 1 ≤ k → (m : ℕ) → is_odd_count (λ n. p n && (n == k)) (nodes_to m) ≡ (nat_le k m && p k)
one_node p k first zero = let e : nat_le k zero ≡ false = grind (arith, nat_tests) in sym (ap (λ b. b && p k) e)
one_node p k first (suc m) =
    odd-snoc (λ n. p n && (n == k)) (nodes_to m) (suc m)
    ∙ ap (λ (b : Bool). differ b (p (suc m) && (suc m == k))) (one_node p k first m)
    ∙ elim (cases_lt m k) [
      | inl above ↦ elim (cases_eq (suc m) k) [
        | inl here ↦
            (let low : nat_le k m ≡ false = grind (arith, nat_tests) in
            let le : k ≤ suc m = omega arith in
            ap (λ b. differ (b && p k) (p (suc m) && (suc m == k))) low
            ∙ ap (λ b. p (suc m) && b) (eq-eqb (suc m) k here) ∙ and-true (p (suc m)) ∙ ap p here
            ∙ sym (ap (λ b. b && p k) (le-leb k (suc m) le)))
        | inr other ↦
            (let low : nat_le k m ≡ false = grind (arith, nat_tests) in
            let past : suc m < k = omega arith in
            let high : nat_le k (suc m) ≡ false = grind (arith, nat_tests) in
            ap (λ b. differ (b && p k) (p (suc m) && (suc m == k))) low
            ∙ ap (λ b. p (suc m) && b) (ne_eqb (suc m) k other) ∙ and-false (p (suc m))
            ∙ sym (ap (λ b. b && p k) high))
      ]
      | inr below ↦
          (let le : k ≤ suc m = omega arith in
          let other : suc m ≢ k = omega arith in
          ap (λ b. differ (b && p k) (p (suc m) && (suc m == k))) (le-leb k m below)
          ∙ ap (λ b. differ (p k) (p (suc m) && b)) (ne_eqb (suc m) k other)
          ∙ ap (differ (p k)) (and-false (p (suc m))) ∙ differ-false_r (p k)
          ∙ sym (ap (λ b. b && p k) (le-leb k (suc m) le)))
    ]
  where
    and-true : (b : Bool) → (b && true) ≡ b
    and-true true = refl
    and-true false = refl

    and-false : (b : Bool) → (b && false) ≡ false
    and-false true = refl
    and-false false = refl

-- the codeword of one node has the parities along its strand from there on
codeword-one : (l : Lattice) (c : Class) (k x : ℕ) → 1 ≤ k → 1 ≤ class_number c → codeword_at l (λ n. n == k) x c ≡ is_along l c k x
codeword-one l c k x first parity =
    codeword-parity l (λ n. n == k) x c parity
    ∙ odd-filter (is_on l c (strand_of l c x) x) (λ n. n == k) (nodes_to x)
    ∙ one_node (is_on l c (strand_of l c x) x) k first x

pub codeword-more : (l : Lattice) (c : Class) (taken : ℕ → Bool) (k x : ℕ) → 1 ≤ k → 1 ≤ class_number c
    → codeword_at l (λ n. differ (taken n) (n == k)) x c ≡ differ (codeword_at l taken x c) (is_along l c k x)
codeword-more l c taken k x first parity =
    codeword-differ l taken (λ n. n == k) (block_of x c) ∙ ap (differ (codeword_at l taken x c)) (codeword-one l c k x first parity)

pub less_true : (a b : ℕ) → a < b → nat_lt a b ≡ true
less_true a b h = grind (arith, nat_tests)

true_less : (a b : ℕ) → nat_lt a b ≡ true → a < b
true_less a b h = grind (arith, nat_tests)

pub class_true : (c d : Class) → (class_number c == class_number d) ≡ true → c ≡ d
class_true c d is = class_number-equal c d (eqb-true (class_number c) (class_number d) is)

-- a block of a stretch that was open is in the codeword of all nodes
pub stretch_only : (l : Lattice) (c : Class) (taken nodes : ℕ → Bool) (label : ℕ) (labels mid new opens : List ℕ) (a limit : ℕ) → label ≢ 0 → IsOpenFrom l c taken (strand_of l c a) a
    → ((n : ℕ) → n < limit → nodes n ≡ taken n) → Labels l (is_stretch l c a limit) label mid new → AreEnding l c taken nodes label labels mid opens
    → (b : BlockId) → HasBlock l b
    → (label_of l new b ≡ label_of l labels b)
    ⊎ ((label_of l labels b ≡ 0) × (label_of l new b ≡ label) × (class_number b.class ≡ class_number c) × (is_in_codeword l nodes b ≡ true))
stretch_only l c taken nodes label labels mid new opens a limit some from agree are e b hb = elim (cases_Bool (is_stretch l c a limit b)) [
  | inr out ↦ elim (e.only b hb) [
    | inl old ↦ inl (kept l (is_stretch l c a limit) label mid new are b hb out ∙ old)
    | inr put ↦ inr (put.0, kept l (is_stretch l c a limit) label mid new are b hb out ∙ put.1, put.2, put.3)
  ]
  | inl inside ↦ elim (e.only b hb) [
    | inr put ↦ inr (put.0, stays l (is_stretch l c a limit) label mid new are b hb (λ h. some (sym put.1 ∙ h)) ∙ put.1, put.2, put.3)
    | inl old ↦ elim (cases_eq (label_of l mid b) 0) [
      | inr had ↦ inl (stays l (is_stretch l c a limit) label mid new are b hb had ∙ old)
      | inl zero' ↦
          (let both = and_parts (class_number b.class == class_number c) (is_along l c a b.node && nat_lt b.node limit) inside in
          let rest = and_parts (is_along l c a b.node) (nat_lt b.node limit) both.1 in
          let class = class_true b.class c both.0 in
          let less = true_less b.node limit rest.1 in
          inr (
            sym old ∙ zero',
            are b hb ∙ ap (λ x. cond (x && label_of l mid b == 0) label (label_of l mid b)) inside ∙ ap (λ x. cond x label (label_of l mid b)) (eq-eqb (label_of l mid b) 0 zero'),
            ap class_number class,
            class_same l nodes taken b.node b.class hb.first (λ n first last. agree n (omega arith))
                ∙ ap (codeword_at l taken b.node) class ∙ from.has b.node hb.last rest.0,
          ))
    ]
  ]
]
