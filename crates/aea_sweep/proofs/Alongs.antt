-- Nodes along a strand.
use Rattle.std.proofs.Common.{◌≡◌, ℕ, zero, suc, ◌+◌, ◌-◌, ◌<◌, ◌≤◌, inl, inr, Bool, true, false, not, cond, ◌&&◌, ◌==◌, Option, Some, None, refl, sym, ◌∙◌, ap, arith}
use Rattle.std.specs.Prelude.{nat_le}
use Rattle.std.proofs.lemmas.Bool.{cases_Bool, cases_eq, cases_lt, eq-eqb, eqb-true, true≢false, and_parts, le-leb, leb-true}
use Rattle.aea_lattice.specs.declared.blocks.Class.{Class}
use Rattle.aea_lattice.specs.declared.grid.Lattice.{Lattice}
use Rattle.aea_lattice.specs.Fences.{is_parted}
use Rattle.aea_lattice.specs.Strands.{strand_of, is_on, previous, IsNext}
use Rattle.aea_lattice.specs.Neighbours.{neighbour}
use Rattle.aea_lattice.proofs.Parted.{parted-less, parted-more, parted-nearer, parted-above}
use Rattle.aea_lattice.proofs.Strands.{last_node, IsLastNode-last_node}
use Rattle.aea_lattice.proofs.Runs.{previous-last, previous-neighbour, joined_is}
use Rattle.aea_sweep.specs.Labels.{is_along, IsBehind}
use Rattle.aea_sweep.proofs.Passing.{just_before}

-- the node x is on the strand of a, at a or after it, and no fence parts them
pub record Along (l : Lattice) (c : Class) (a x : ℕ) : Type 0 where
  pub from : a ≤ x
  pub strand : strand_of l c a ≡ strand_of l c x
  pub joined : is_parted l.fences a x ≡ false

not_true : (b : Bool) → not b ≡ true → b ≡ false
not_true true h = absurd (true≢false (sym h))
not_true false h = refl

pub along_parts : (l : Lattice) (c : Class) (a x : ℕ) → is_along l c a x ≡ true → Along l c a x
along_parts l c a x is =
    let both = and_parts (nat_le a x) (is_on l c (strand_of l c x) x a) is in
    let on = and_parts (strand_of l c a == strand_of l c x) (not (is_parted l.fences a x)) both.1 in
    record { from = leb-true a x both.0; strand = eqb-true (strand_of l c a) (strand_of l c x) on.0; joined = not_true (is_parted l.fences a x) on.1 }

pub along_make : (l : Lattice) (c : Class) (a x : ℕ) → Along l c a x → is_along l c a x ≡ true
along_make l c a x h =
    ap (λ b. b && is_on l c (strand_of l c x) x a) (le-leb a x h.from)
    ∙ ap (λ b. b && not (is_parted l.fences a x)) (eq-eqb (strand_of l c a) (strand_of l c x) h.strand)
    ∙ ap not h.joined

pub along_refl : (l : Lattice) (c : Class) (a : ℕ) → is_along l c a a ≡ true
along_refl l c a = along_make l c a a (record { from = omega arith; strand = refl; joined = parted-above l.fences a a (omega arith) })

pub along_trans : (l : Lattice) (c : Class) (a x y : ℕ) → is_along l c a x ≡ true → is_along l c x y ≡ true → is_along l c a y ≡ true
along_trans l c a x y first second =
    let f = along_parts l c a x first in
    let s = along_parts l c x y second in
    let low = f.from in
    let high = s.from in
    along_make l c a y (record {
      from = omega arith;
      strand = f.strand ∙ s.strand;
      joined = parted-less l.fences a x y f.from s.from s.joined ∙ f.joined;
    })

pub along_split : (l : Lattice) (c : Class) (a x y : ℕ) → is_along l c a x ≡ true → is_along l c a y ≡ true → x ≤ y → is_along l c x y ≡ true
along_split l c a x y first second le =
    let f = along_parts l c a x first in
    let s = along_parts l c a y second in
    along_make l c x y (record {
      from = le;
      strand = sym f.strand ∙ s.strand;
      joined = elim (cases_Bool (is_parted l.fences x y)) [
        | inl parted ↦ absurd (true≢false (sym (parted-more l.fences a x y f.from parted) ∙ s.joined))
        | inr whole ↦ whole
      ];
    })

last_none : (p : ℕ → Bool) (m : ℕ) → last_node p m ≡ None → (k : ℕ) → 1 ≤ k → k ≤ m → p k ≡ false
last_none p zero h k first last = absurd (omega arith)
last_none p (suc m) h k first last = elim (cases_Bool (p (suc m))) [
  | inl yes' ↦ (let e : Some (suc m) ≡ None = sym (ap (λ b. cond b (Some (suc m)) (last_node p m)) yes') ∙ h in absurd (some_none (suc m) e))
  | inr lacks ↦ elim (cases_eq k (suc m)) [
    | inl same ↦ ap p same ∙ lacks
    | inr other ↦ last_none p m (sym (ap (λ b. cond b (Some (suc m)) (last_node p m)) lacks) ∙ h) k first (omega arith)
  ]
]
  where
    some_none : (n : ℕ) → Some n ≡ None → ⊥
    some_none n e = cc

on_true : (l : Lattice) (c : Class) (a x : ℕ) → is_along l c a x ≡ true → is_on l c (strand_of l c x) x a ≡ true
on_true l c a x is = (and_parts (nat_le a x) (is_on l c (strand_of l c x) x a) is).1

-- after a node without a next one no node is along
no_later : (l : Lattice) (c : Class) (node : ℕ) → 1 ≤ node → IsNext l c node None → (k x : ℕ) → x ≤ k → node < x → x ≤ l.n → is_along l c node x ≡ true
    → (p : Option ℕ) → previous l c x ≡ p → ⊥
no_later l c node first ended zero x le less last along p was = omega arith
no_later l c node first ended (suc k) x le less last along None was =
    true≢false (sym (on_true l c node x along) ∙ last_none (is_on l c (strand_of l c x) x) (x - 1) (sym (previous-last l c x) ∙ was) node first (omega arith))
no_later l c node first ended (suc k) x le less last along (Some g) was =
    let found = IsLastNode-last_node (is_on l c (strand_of l c x) x) (x - 1) g (sym (previous-last l c x) ∙ was) in
    let before = found.most in
    elim (cases_lt g node) [
      | inl earlier ↦ true≢false (sym (on_true l c node x along) ∙ found.none node earlier (omega arith))
      | inr from ↦ elim (cases_eq g node) [
        | inl same ↦ (let e : None ≡ Some x = (ended x).1 (last, was ∙ ap (λ (n : ℕ). Some n) same) in none_some x e)
        | inr later ↦
            (let whole = along_parts l c node x along in
            let on = and_parts (strand_of l c g == strand_of l c x) (not (is_parted l.fences g x)) found.passes in
            no_later l c node first ended k g (omega arith) (omega arith) (omega arith)
            (along_make l c node g (record {
              from = from;
              strand = whole.strand ∙ sym (eqb-true (strand_of l c g) (strand_of l c x) on.0);
              joined = parted-nearer l.fences node g x (omega arith) whole.joined;
            }))
            (previous l c g) refl)
      ]
    ]
  where
    none_some : (n : ℕ) → None ≡ Some n → ⊥
    none_some n e = cc

pub behind_some : (l : Lattice) (c : Class) (node e : ℕ) → e ≤ l.n → previous l c e ≡ Some node → IsBehind l c node e
behind_some l c node e last was =
    let just = just_before l c e node was in
    record {
      later = just.before;
      none = λ x inside along less. elim (cases_eq x node) [
        | inl same ↦ same
        | inr other ↦
            (let parts = along_parts l c node x along in
            let from = parts.from in
            absurd (just.none_between x (omega arith) less (sym parts.strand ∙ just.same)))
      ];
      goes_on = λ inside.
          along_make l c node e (record {
            from = (let h = just.before in omega arith);
            strand = just.same;
            joined = (joined_is l e node (neighbour l c e) (sym (previous-neighbour l c e) ∙ was)).1;
          });
    }

pub behind_none : (l : Lattice) (c : Class) (node : ℕ) → 1 ≤ node → node ≤ l.n → IsNext l c node None → IsBehind l c node (l.n + 1)
behind_none l c node first last ended = record {
  later = omega arith;
  none = λ x inside along less. elim (cases_eq x node) [
    | inl same ↦ same
    | inr other ↦
        (let parts = along_parts l c node x along in
        let from = parts.from in
        absurd (no_later l c node first ended x x (omega arith) (omega arith) inside along (previous l c x) refl))
  ];
  goes_on = λ inside. absurd (omega arith);
}
