-- The first nodes of a rising list.
use Rattle.std.proofs.Common.{◌≡◌, ℕ, zero, suc, ◌+◌, ◌<◌, ◌≤◌, inl, inr, Bool, true, false, ◌||◌, ◌==◌, List, length, get_or, take, refl, sym, ◌∙◌, ap, arith}
use Rattle.std.proofs.lemmas.Bool.{or_cases, eqb-true, false≢true}
use Rattle.std.proofs.lemmas.List.{take_all}
use Rattle.std.proofs.lemmas.List.Elements.{All-get_or}
use Rattle.std.proofs.lemmas.List.Folds.{list_any_more}
use Rattle.aea_lattice.specs.declared.blocks.Class.{Class}
use Rattle.aea_lattice.specs.declared.grid.Lattice.{Lattice}
use Rattle.aea_lattice.specs.Blocks.{HasNode}
use Rattle.aea_lattice.specs.Equations.{codeword_at}
use Rattle.aea_lattice.specs.Lists.{has_node}
use Rattle.aea_lattice.specs.Parity.{differ}
use Rattle.aea_lattice.proofs.Odd.{same_test}
use Rattle.aea_walk.specs.Codewords.{AreRising}
use Rattle.aea_walk.proofs.Along.{codeword-differ}

-- each item is a node of the lattice
pub node-inside : (l : Lattice) (nodes : List ℕ) (q : ℕ) → AreRising l nodes → q < length nodes → HasNode l (get_or nodes q 0)
node-inside l nodes q rising less = All-get_or (HasNode l) nodes q 0 less rising.inside

-- one item more
pub has-more : (nodes : List ℕ) (q i : ℕ) → q < length nodes → has_node (take (q + 1) nodes) i ≡ (has_node (take q nodes) i || i == get_or nodes q 0)
has-more nodes q i less = list_any_more (λ k. i == k) nodes q 0 less

-- the first items are below each later one
pub taken-below : (l : Lattice) (nodes : List ℕ) → AreRising l nodes → (q m i : ℕ) → q ≤ m → m < length nodes → has_node (take q nodes) i ≡ true → i < get_or nodes m 0
taken-below l nodes rising zero m i le less is = absurd (false≢true is)
taken-below l nodes rising (suc q) m i le less is =
    let e : q + 1 ≡ suc q = omega arith in
    let has : has_node (take (q + 1) nodes) i ≡ true = ap (λ j. has_node (take j nodes) i) e ∙ is in
    elim (or_cases (has_node (take q nodes) i) (i == get_or nodes q 0) (sym (has-more nodes q i (omega arith)) ∙ has)) [
      | inl before ↦ taken-below l nodes rising q m i (omega arith) less before
      | inr here ↦
          (let same : i ≡ get_or nodes q 0 = eqb-true i (get_or nodes q 0) here in
          let up : get_or nodes q 0 < get_or nodes m 0 = rising.rising q m (omega arith) less in
          omega arith)
    ]

or_differ : (a b : Bool) → (a ≡ true → b ≡ true → ⊥) → (a || b) ≡ differ a b
or_differ true true both = absurd (both refl refl)
or_differ true false both = refl
or_differ false b both = refl

-- so an item more turns the set of the first ones at one node
pub taken-more : (l : Lattice) (nodes : List ℕ) (q : ℕ) → AreRising l nodes → q < length nodes
    → ◌≡◌ {A = ℕ → Bool} (has_node (take (q + 1) nodes)) (λ i. differ (has_node (take q nodes) i) (i == get_or nodes q 0))
taken-more l nodes q rising less =
    same_test (has_node (take (q + 1) nodes)) (λ i. differ (has_node (take q nodes) i) (i == get_or nodes q 0))
    (λ i. has-more nodes q i less
    ∙ or_differ (has_node (take q nodes) i) (i == get_or nodes q 0)
    (λ was is.
    let below : i < get_or nodes q 0 = taken-below l nodes rising q q i (omega arith) less was in
    let same : i ≡ get_or nodes q 0 = eqb-true i (get_or nodes q 0) is in
    omega arith))

-- all of them
pub taken-all : (nodes : List ℕ) (q : ℕ) → length nodes ≤ q → take q nodes ≡ nodes
taken-all nodes q most = take_all q nodes most

-- the codeword of one node more
pub codeword-taken : (l : Lattice) (nodes : List ℕ) (q x : ℕ) (c : Class) → AreRising l nodes → q < length nodes
    → codeword_at l (has_node (take (q + 1) nodes)) x c ≡ differ (codeword_at l (has_node (take q nodes)) x c) (codeword_at l (λ n. n == get_or nodes q 0) x c)
codeword-taken l nodes q x c rising less =
    ap (λ (t : ℕ → Bool). codeword_at l t x c) (taken-more l nodes q rising less)
    ∙ codeword-differ l (has_node (take q nodes)) (λ n. n == get_or nodes q 0) x c
