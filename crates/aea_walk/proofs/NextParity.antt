-- The table of the next intact parities, from node to node backward, and a stretch's first intact parity by it.
use Rattle.std.proofs.Common.{◌≡◌, ◌≢◌, ℕ, ◌+◌, ◌<◌, ◌≤◌, inl, inr, Bool, true, false, List, length, get_or, refl, sym, ◌∙◌, ap, subst, arith}
use Rattle.std.specs.Prelude.{slice_set}
use Rattle.std.proofs.lemmas.Bool.{cases_Bool, cases_eq, true≢false}
use Rattle.std.proofs.lemmas.List.{get_or-set_same, get_or-set_other}
use Rattle.aea_lattice.specs.declared.blocks.Class.{Class}
use Rattle.aea_lattice.specs.declared.blocks.BlockId.{BlockId}
use Rattle.aea_lattice.specs.declared.grid.Lattice.{Lattice}
use Rattle.aea_lattice.specs.Blocks.{HasNode, block_of}
use Rattle.aea_lattice.specs.Fences.{is_parted}
use Rattle.aea_lattice.specs.Strands.{strand_of}
use Rattle.aea_lattice.proofs.Parted.{parted-nearer}
use Rattle.aea_walk.specs.Stretches.{IsNextIntact, AreNextOn, AreNextFrom, IsFirstIn}
use Rattle.aea_walk.proofs.Along.{along_parts, along_make}

-- no node is after the last one
pub next-none : (l : Lattice) (intact : BlockId → Bool) (c : Class) (next ends : List ℕ) (from : ℕ) → from ≡ l.n + 1 → ((t : ℕ) → t < 64 → get_or ends t 0 ≡ l.n + 1)
    → AreNextFrom l intact c from next ends
next-none l intact c next ends from last none = record {
  strands = λ t few. (let end : get_or ends t 0 ≡ l.n + 1 = none t few in record {
    later = omega arith;
    on = λ most. absurd (omega arith);
    whole = λ most. absurd (omega arith);
    least = λ x low high _ _. absurd (omega arith);
  });
  has = λ x low high. absurd (omega arith);
}

-- all nodes are from the first one on
pub next-all : (l : Lattice) (intact : BlockId → Bool) (c : Class) (next ends : List ℕ) (from : ℕ) → from ≤ 1 → length next ≡ l.n + 1
    → AreNextFrom l intact c from next ends → AreNextOn l intact c next
next-all l intact c next ends from first long are = record {
  long = long;
  has = λ x has. (let low = has.first in are.has x (omega arith) has.last);
}

module _ (l : Lattice) (intact : BlockId → Bool) (c : Class) (next ends : List ℕ) (node v : ℕ) (has : HasNode l node) (long : length next ≡ l.n + 1)
    (strands : length ends ≡ 64) (few : strand_of l c node < 64) (here : intact (block_of node c) ≡ true → v ≡ node)
    (other : intact (block_of node c) ≡ false → v ≡ get_or ends (strand_of l c node) 0) (are : AreNextFrom l intact c (node + 1) next ends) where
  abbrev strand : ℕ
  strand = strand_of l c node

  -- the node itself, or the next one
  at_node : IsNextIntact l intact c strand node v
  at_node = elim (cases_Bool (intact (block_of node c))) [
    | inl is ↦
        subst (λ (w : ℕ). IsNextIntact l intact c strand node w) (sym (here is))
        (record {
          later = omega arith;
          on = λ _. refl;
          whole = λ _. is;
          least = λ x low high _ _. low;
        })
    | inr out ↦
        (let was : IsNextIntact l intact c strand (node + 1) (get_or ends strand 0) = are.strands strand few in
        let later = was.later in
        subst (λ (w : ℕ). IsNextIntact l intact c strand node w) (sym (other out))
        (record {
          later = omega arith;
          on = was.on;
          whole = was.whole;
          least = λ x low high on is. elim (cases_eq x node) [
            | inl same ↦ absurd (true≢false (sym is ∙ ap (λ j. intact (block_of j c)) same ∙ out))
            | inr more ↦ was.least x (omega arith) high on is
          ];
        }))
  ]

  -- the other strands
  at_other : (t w : ℕ) → t ≢ strand → IsNextIntact l intact c t (node + 1) w → IsNextIntact l intact c t node w
  at_other t w apart was = let later = was.later in record {
    later = omega arith;
    on = was.on;
    whole = was.whole;
    least = λ x low high on is. elim (cases_eq x node) [
      | inl same ↦ absurd (apart (sym on ∙ ap (strand_of l c) same))
      | inr more ↦ was.least x (omega arith) high on is
    ];
  }

  -- one node more
  pub next-more : AreNextFrom l intact c node (slice_set next node v) (slice_set ends strand v)
  next-more = record {
    strands = λ t less. elim (cases_eq t strand) [
      | inl same ↦
          subst (λ (s : ℕ). IsNextIntact l intact c s node (get_or (slice_set ends strand v) s 0)) (sym same)
          (subst (λ (w : ℕ). IsNextIntact l intact c strand node w) (sym (get_or-set_same ends strand v 0 (omega arith))) at_node)
      | inr apart ↦
          subst (λ (w : ℕ). IsNextIntact l intact c t node w) (sym (get_or-set_other ends strand t v 0 apart))
          (at_other t (get_or ends t 0) apart (are.strands t less))
    ];
    has = λ x low high. elim (cases_eq x node) [
      | inl same ↦
          subst (λ (y : ℕ). IsNextIntact l intact c (strand_of l c y) y (get_or (slice_set next node v) y 0)) (sym same)
          (subst (λ (w : ℕ). IsNextIntact l intact c strand node w) (sym (get_or-set_same next node v 0 (let last = has.last in omega arith))) at_node)
      | inr apart ↦
          subst (λ (w : ℕ). IsNextIntact l intact c (strand_of l c x) x w) (sym (get_or-set_other next node x v 0 apart))
          (are.has x (omega arith) high)
    ];
  }

-- ---- the first intact parity of a stretch

pub first-closed : (l : Lattice) (intact : BlockId → Bool) (c : Class) (from limit end : ℕ) → l.n < from → end ≡ l.n + 1 → IsFirstIn l intact c from limit end
first-closed l intact c from limit end past is = record {
  along = λ most. absurd (omega arith);
  before = λ most. absurd (omega arith);
  whole = λ most. absurd (omega arith);
  least = λ x high along _ _. (let low = (along_parts l c from x along).from in absurd (omega arith));
}

pub first-found : (l : Lattice) (intact : BlockId → Bool) (c : Class) (from limit v : ℕ) → IsNextIntact l intact c (strand_of l c from) from v → v < limit → is_parted l.fences from v ≡ false
    → IsFirstIn l intact c from limit v
first-found l intact c from limit v is less joined = record {
  along = λ most. along_make l c from v (record { from = is.later; strand = sym (is.on most); joined = joined });
  before = λ _. less;
  whole = is.whole;
  least = λ x high along _ whole. (let parts = along_parts l c from x along in is.least x parts.from high (sym parts.strand) whole);
}

pub first-beyond : (l : Lattice) (intact : BlockId → Bool) (c : Class) (from limit v end : ℕ) → IsNextIntact l intact c (strand_of l c from) from v → (v < limit → is_parted l.fences from v ≡ true) → end ≡ l.n + 1
    → IsFirstIn l intact c from limit end
first-beyond l intact c from limit v end is parted last = record {
  along = λ most. absurd (omega arith);
  before = λ most. absurd (omega arith);
  whole = λ most. absurd (omega arith);
  least = λ x high along less whole.
      (let parts = along_parts l c from x along in
      let le : v ≤ x = is.least x parts.from high (sym parts.strand) whole in
      absurd (true≢false (sym (parted (omega arith)) ∙ parted-nearer l.fences from v x le parts.joined)));
}
