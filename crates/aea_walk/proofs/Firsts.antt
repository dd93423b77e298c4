-- The first intact datum of some nodes, and the first block of the four classes.
use Rattle.std.proofs.Common.{◌≡◌, ◌⊎◌, ℕ, ◌+◌, ◌<◌, ◌≤◌, inl, inr, Bool, true, false, ◌==◌, Some, None, List, length, get_or, take, refl, sym, ◌∙◌, ap, arith}
use Rattle.std.specs.Prelude.{nat_le}
use Rattle.std.proofs.lemmas.Bool.{cases_Bool, and_parts, and_from, or_cases, or_left, or_right, eq-eqb, eqb-true, le-leb, true≢false, false≢true}
use Rattle.aea_lattice.specs.declared.blocks.Class.{Class}
use Rattle.aea_lattice.specs.declared.blocks.Class.TheVariants.{Datum, Horiz, Right, Left}
use Rattle.aea_lattice.specs.declared.blocks.BlockId.{BlockId}
use Rattle.aea_lattice.specs.declared.grid.Lattice.{Lattice}
use Rattle.aea_lattice.specs.Blocks.{HasNode, block_of, class_number}
use Rattle.aea_lattice.specs.Lists.{has_node}
use Rattle.aea_walk.specs.Codewords.{AreRising, is_touched, touched}
use Rattle.aea_walk.specs.Stretches.{is_touched_at, IsFirstOn}
use Rattle.aea_walk.proofs.Taken.{node-inside, has-more, taken-all}
use Rattle.aea_walk.proofs.Touched.{untouched-block, first-touched, nothing-touched}

-- ---- data

-- `first` is the first of the nodes whose datum is intact
pub record IsFirstDatum (l : Lattice) (intact : BlockId → Bool) (taken : ℕ → Bool) (first : ℕ) : Type 0 where
  pub most : first ≤ l.n + 1
  pub listed : first ≤ l.n → (1 ≤ first) × (taken first ≡ true)
  pub whole : first ≤ l.n → intact (block_of first Datum) ≡ true
  pub least : (x : ℕ) → taken x ≡ true → intact (block_of x Datum) ≡ true → first ≤ x

pub datum-none : (l : Lattice) (intact : BlockId → Bool) (first : ℕ) → first ≡ l.n + 1 → IsFirstDatum l intact (λ _. false) first
datum-none l intact first end = record {
  most = omega arith;
  listed = λ most. absurd (omega arith);
  whole = λ most. absurd (omega arith);
  least = λ x is _. absurd (false≢true is);
}

-- one node more
pub datum-marked : (l : Lattice) (intact : BlockId → Bool) (nodes : List ℕ) (q first new : ℕ) → AreRising l nodes → q < length nodes → intact (block_of (get_or nodes q 0) Datum) ≡ true
    → new ≤ first → new ≤ get_or nodes q 0 → (new ≡ first) ⊎ (new ≡ get_or nodes q 0) → IsFirstDatum l intact (has_node (take q nodes)) first
    → IsFirstDatum l intact (has_node (take (q + 1) nodes)) new
datum-marked l intact nodes q first new rising less whole low low' one e =
    let has = node-inside l nodes q rising less in
    let last = has.last in
    record {
      most = omega arith;
      listed = λ most. elim one [
        | inl same ↦
            (let was = e.listed (omega arith) in
            let h = was.0 in
            (omega arith, has-more nodes q new less ∙ or_left (has_node (take q nodes) new) (new == get_or nodes q 0) (ap (has_node (take q nodes)) same ∙ was.1)))
        | inr same ↦
            (let h = has.first in
            (omega arith, has-more nodes q new less ∙ or_right (has_node (take q nodes) new) (new == get_or nodes q 0) (eq-eqb new (get_or nodes q 0) same)))
      ];
      whole = λ most. elim one [
        | inl same ↦ ap (λ j. intact (block_of j Datum)) same ∙ e.whole (omega arith)
        | inr same ↦ ap (λ j. intact (block_of j Datum)) same ∙ whole
      ];
      least = λ x is well. elim (or_cases (has_node (take q nodes) x) (x == get_or nodes q 0) (sym (has-more nodes q x less) ∙ is)) [
        | inl before ↦ (let h = e.least x before well in omega arith)
        | inr here ↦ (let h : x ≡ get_or nodes q 0 = eqb-true x (get_or nodes q 0) here in omega arith)
      ];
    }

pub datum-unmarked : (l : Lattice) (intact : BlockId → Bool) (nodes : List ℕ) (q first : ℕ) → AreRising l nodes → q < length nodes → intact (block_of (get_or nodes q 0) Datum) ≡ false
    → IsFirstDatum l intact (has_node (take q nodes)) first → IsFirstDatum l intact (has_node (take (q + 1) nodes)) first
datum-unmarked l intact nodes q first rising less gone e = record {
  most = e.most;
  listed = λ most. (let was = e.listed most in (was.0, has-more nodes q first less ∙ or_left (has_node (take q nodes) first) (first == get_or nodes q 0) was.1));
  whole = e.whole;
  least = λ x is well. elim (or_cases (has_node (take q nodes) x) (x == get_or nodes q 0) (sym (has-more nodes q x less) ∙ is)) [
    | inl before ↦ e.least x before well
    | inr here ↦
        (let h : x ≡ get_or nodes q 0 = eqb-true x (get_or nodes q 0) here in
        absurd (true≢false (sym well ∙ ap (λ j. intact (block_of j Datum)) h ∙ gone)))
  ];
}

pub datum-all : (l : Lattice) (intact : BlockId → Bool) (nodes : List ℕ) (q first : ℕ) → length nodes ≤ q → IsFirstDatum l intact (has_node (take q nodes)) first → IsFirstOn l intact nodes Datum first
datum-all l intact nodes q first all e = record {
  node = λ most. (e.listed most).0;
  touched = λ most.
      and_from (nat_le 0 l.alpha) (is_touched l intact nodes (block_of first Datum)) (le-leb 0 l.alpha (omega arith))
      (and_from (intact (block_of first Datum)) (has_node nodes first) (e.whole most)
      (ap (λ (xs : List ℕ). has_node xs first) (sym (taken-all nodes q all)) ∙ (e.listed most).1));
  least = λ x has is.
      (let both = and_parts (nat_le 0 l.alpha) (is_touched l intact nodes (block_of x Datum)) is in
      let two = and_parts (intact (block_of x Datum)) (has_node nodes x) both.1 in
      e.least x (ap (λ (xs : List ℕ). has_node xs x) (taken-all nodes q all) ∙ two.1) two.0);
}

-- ---- the four classes

-- the block of the least node is the first one, where no class before it has that node
pub first-is : (l : Lattice) (intact : BlockId → Bool) (nodes : List ℕ) (i v : ℕ) (c : Class) → v ≡ i → i ≤ l.n → IsFirstOn l intact nodes c v
    → ((d : Class) → class_number d < class_number c → (w : ℕ) × (IsFirstOn l intact nodes d w) × (i < w))
    → ((d : Class) → (w : ℕ) × (IsFirstOn l intact nodes d w) × (i ≤ w)) → touched l intact nodes ≡ Some (block_of i c)
first-is l intact nodes i v c same most here before all =
    let low = here.node (omega arith) in
    let has : HasNode l i = record { first = omega arith; last = most } in
    first-touched l intact nodes i c
    (record {
      touched = ap (λ j. is_touched_at l intact nodes j c) (sym same) ∙ here.touched (omega arith);
      before = λ d less. elim (cases_Bool (is_touched_at l intact nodes i d)) [
        | inr out ↦ out
        | inl is ↦ (let w = before d less in let le = w.1.least i has is in let gt = w.2 in absurd (omega arith))
      ];
    })
    (omega arith) most
    (λ d has_d less. untouched-block l intact nodes d.node d has_d refl (elim (cases_Bool (is_touched_at l intact nodes d.node d.class)) [
      | inr out ↦ out
      | inl is ↦
          (let w = all d.class in
          let le = w.1.least d.node (record { first = has_d.first; last = has_d.last }) is in
          let ge = w.2 in absurd (omega arith))
    ]))

pub none-is : (l : Lattice) (intact : BlockId → Bool) (nodes : List ℕ) → ((d : Class) → (w : ℕ) × (IsFirstOn l intact nodes d w) × (l.n + 1 ≤ w)) → touched l intact nodes ≡ None
none-is l intact nodes all =
    nothing-touched l intact nodes
    (λ d has_d. untouched-block l intact nodes d.node d has_d refl (elim (cases_Bool (is_touched_at l intact nodes d.node d.class)) [
      | inr out ↦ out
      | inl is ↦
          (let w = all d.class in
          let last = has_d.last in
          let le = w.1.least d.node (record { first = has_d.first; last = has_d.last }) is in
          let ge = w.2 in absurd (omega arith))
    ]))

-- four nodes, one of each class
pub record AreFirstOn (l : Lattice) (intact : BlockId → Bool) (nodes : List ℕ) (datum horiz right left : ℕ) : Type 0 where
  pub first : IsFirstOn l intact nodes Datum datum
  pub second : IsFirstOn l intact nodes Horiz horiz
  pub third : IsFirstOn l intact nodes Right right
  pub fourth : IsFirstOn l intact nodes Left left

-- where all four are at a node or past it
pub all-from : (l : Lattice) (intact : BlockId → Bool) (nodes : List ℕ) (datum horiz right left i : ℕ) → AreFirstOn l intact nodes datum horiz right left
    → i ≤ datum → i ≤ horiz → i ≤ right → i ≤ left → (d : Class) → (w : ℕ) × (IsFirstOn l intact nodes d w) × (i ≤ w)
all-from l intact nodes datum horiz right left i are a b c e Datum = (datum, are.first, a)
all-from l intact nodes datum horiz right left i are a b c e Horiz = (horiz, are.second, b)
all-from l intact nodes datum horiz right left i are a b c e Right = (right, are.third, c)
all-from l intact nodes datum horiz right left i are a b c e Left = (left, are.fourth, e)

-- where those before a class are past it
pub before-datum : (l : Lattice) (intact : BlockId → Bool) (nodes : List ℕ) (i : ℕ) → (d : Class) → class_number d < 0 → (w : ℕ) × (IsFirstOn l intact nodes d w) × (i < w)
before-datum l intact nodes i d less = absurd (omega arith)

pub before-horiz : (l : Lattice) (intact : BlockId → Bool) (nodes : List ℕ) (datum horiz right left i : ℕ) → AreFirstOn l intact nodes datum horiz right left
    → i < datum → (d : Class) → class_number d < 1 → (w : ℕ) × (IsFirstOn l intact nodes d w) × (i < w)
before-horiz l intact nodes datum horiz right left i are a Datum less = (datum, are.first, a)
before-horiz l intact nodes datum horiz right left i are a Horiz less = absurd (omega arith)
before-horiz l intact nodes datum horiz right left i are a Right less = absurd (omega arith)
before-horiz l intact nodes datum horiz right left i are a Left less = absurd (omega arith)

pub before-right : (l : Lattice) (intact : BlockId → Bool) (nodes : List ℕ) (datum horiz right left i : ℕ) → AreFirstOn l intact nodes datum horiz right left
    → i < datum → i < horiz → (d : Class) → class_number d < 2 → (w : ℕ) × (IsFirstOn l intact nodes d w) × (i < w)
before-right l intact nodes datum horiz right left i are a b Datum less = (datum, are.first, a)
before-right l intact nodes datum horiz right left i are a b Horiz less = (horiz, are.second, b)
before-right l intact nodes datum horiz right left i are a b Right less = absurd (omega arith)
before-right l intact nodes datum horiz right left i are a b Left less = absurd (omega arith)

pub before-left : (l : Lattice) (intact : BlockId → Bool) (nodes : List ℕ) (datum horiz right left i : ℕ) → AreFirstOn l intact nodes datum horiz right left
    → i < datum → i < horiz → i < right → (d : Class) → class_number d < 3 → (w : ℕ) × (IsFirstOn l intact nodes d w) × (i < w)
before-left l intact nodes datum horiz right left i are a b c Datum less = (datum, are.first, a)
before-left l intact nodes datum horiz right left i are a b c Horiz less = (horiz, are.second, b)
before-left l intact nodes datum horiz right left i are a b c Right less = (right, are.third, c)
before-left l intact nodes datum horiz right left i are a b c Left less = absurd (omega arith)
