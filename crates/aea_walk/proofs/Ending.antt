-- The stretches that no node ends are ended after all of them.
use Rattle.std.proofs.Common.{◌≡◌, ◌⊎◌, ℕ, ◌+◌, ◌<◌, ◌≤◌, inl, inr, Bool, true, false, ◌||◌, ◌==◌, List, length, get_or, take, refl, sym, ◌∙◌, ap, arith}
use Rattle.std.specs.Prelude.{nat_le}
use Rattle.std.proofs.lemmas.Bool.{cases_eq, and_parts, and_from, le-leb, leb-true, ne_eqb, true≢false}
use Rattle.aea_lattice.specs.declared.blocks.Class.{Class}
use Rattle.aea_lattice.specs.declared.blocks.BlockId.{BlockId}
use Rattle.aea_lattice.specs.declared.grid.Lattice.{Lattice}
use Rattle.aea_lattice.specs.Blocks.{HasNode, HasParity, block_of, class_number}
use Rattle.aea_lattice.specs.Strands.{strand_of}
use Rattle.aea_lattice.specs.Equations.{codeword_at}
use Rattle.aea_lattice.specs.Lists.{has_node}
use Rattle.aea_walk.specs.Codewords.{is_touched}
use Rattle.aea_walk.specs.Stretches.{is_along, is_open, IsFirstIn, IsOpenAt, ArePassed, is_touched_at, IsFirstOn}
use Rattle.aea_walk.proofs.Along.{along_parts}
use Rattle.aea_walk.proofs.Taken.{has-more, taken-all}

-- `first` is the first node whose parity is intact and in the codeword, but for those of stretches that begin at none of the
-- nodes of `ended`
pub record AreEnded (l : Lattice) (intact : BlockId → Bool) (c : Class) (nodes opens : List ℕ) (ended : ℕ → Bool) (first : ℕ) : Type 0 where
  pub node : first ≤ l.n → 1 ≤ first
  pub whole : first ≤ l.n → intact (block_of first c) ≡ true
  pub touched : first ≤ l.n → codeword_at l (has_node nodes) first c ≡ true
  pub least : (x : ℕ) → HasNode l x → intact (block_of x c) ≡ true → codeword_at l (has_node nodes) x c ≡ true
      → (first ≤ x) ⊎ ((is_open l c opens x ≡ true) × (ended (get_or opens (strand_of l c x) 0) ≡ false))

pub ended-none : (l : Lattice) (intact : BlockId → Bool) (c : Class) (nodes opens : List ℕ) (first : ℕ) → ArePassed l intact c (has_node nodes) opens first
    → AreEnded l intact c nodes opens (λ _. false) first
ended-none l intact c nodes opens first p = record {
  node = p.node;
  whole = p.whole;
  touched = p.touched;
  least = λ x has whole is. elim (p.least x has whole is) [
    | inl le ↦ inl le
    | inr open' ↦ inr (open', refl)
  ];
}

neither : (a b : Bool) → a ≡ false → b ≡ false → (a || b) ≡ false
neither a b ha hb = rw (ha) hb

-- the stretch on the strand of one node more
pub ended-more : (l : Lattice) (intact : BlockId → Bool) (c : Class) (nodes opens : List ℕ) (q passed first v new : ℕ) → HasParity l c → ((x : ℕ) → strand_of l c x < 64)
    → q < length nodes → ArePassed l intact c (has_node nodes) opens passed
    → AreEnded l intact c nodes opens (has_node (take q nodes)) first
    → IsFirstIn l intact c (get_or opens (strand_of l c (get_or nodes q 0)) 0) (l.n + 1) v
    → new ≤ first → new ≤ v → (new ≡ first) ⊎ (new ≡ v) → AreEnded l intact c nodes opens (has_node (take (q + 1) nodes)) new
ended-more l intact c nodes opens q passed first v new hc few less p e ends low low' one = record {
  node = λ most. elim one [
    | inl same ↦ (let h = e.node (omega arith) in omega arith)
    | inr same ↦ (let h = (at (omega arith)).1 in omega arith)
  ];
  whole = λ most. elim one [
    | inl same ↦ ap (λ j. intact (block_of j c)) same ∙ e.whole (omega arith)
    | inr same ↦ ap (λ j. intact (block_of j c)) same ∙ ends.whole (omega arith)
  ];
  touched = λ most. elim one [
    | inl same ↦ ap (λ j. codeword_at l (has_node nodes) j c) same ∙ e.touched (omega arith)
    | inr same ↦
        (let inside : v ≤ l.n = omega arith in
        let is = at inside in
        ap (λ j. codeword_at l (has_node nodes) j c) same
        ∙ p.inside v (record { first = is.1; last = inside }) (ap (λ s. is_along l c (get_or opens s 0) v) is.0 ∙ ends.along inside))
  ];
  least = λ x has whole is. elim (e.least x has whole is) [
    | inl le ↦ inl (omega arith)
    | inr open' ↦ elim (cases_eq (get_or opens (strand_of l c x) 0) k) [
      | inr other ↦
          inr (
            open'.0,
            has-more nodes q (get_or opens (strand_of l c x) 0) less
                ∙ neither (has_node (take q nodes) (get_or opens (strand_of l c x) 0)) (get_or opens (strand_of l c x) 0 == k) open'.1 (ne_eqb (get_or opens (strand_of l c x) 0) k other),
          )
      | inl same ↦
          (let low'' = (along_parts l c (get_or opens (strand_of l c x) 0) x open'.0).from in
          let last = has.last in
          let was : IsOpenAt l c (has_node nodes) (strand_of l c x) (get_or opens (strand_of l c x) 0) = p.some (strand_of l c x) (few x) (omega arith) in
          let here : strand_of l c x ≡ strand_of l c k = sym was.strand ∙ ap (strand_of l c) same in
          let le : v ≤ x = ends.least x last (ap (λ s. is_along l c (get_or opens s 0) x) (sym here) ∙ open'.0) (omega arith) whole in
          inl (omega arith))
    ]
  ];
}
  where
    k : ℕ
    k = get_or nodes q 0

    at : v ≤ l.n → (strand_of l c v ≡ strand_of l c k) × (1 ≤ v)
    at most =
        let parts = along_parts l c (get_or opens (strand_of l c k) 0) v (ends.along most) in
        let early = parts.from in
        let was : IsOpenAt l c (has_node nodes) (strand_of l c k) (get_or opens (strand_of l c k) 0) = p.some (strand_of l c k) (few k) (omega arith) in
        let node = was.node in
        let low = node.first in
        (sym parts.strand ∙ was.strand, omega arith)

-- whether a parity of a class of the lattice is touched
touched_parity : (l : Lattice) (intact : BlockId → Bool) (nodes : List ℕ) (x : ℕ) (c : Class) → HasParity l c → intact (block_of x c) ≡ true → codeword_at l (has_node nodes) x c ≡ true
    → is_touched_at l intact nodes x c ≡ true
touched_parity l intact nodes x c hc whole is =
    and_from (nat_le (class_number c) l.alpha) (is_touched l intact nodes (block_of x c)) (le-leb (class_number c) l.alpha hc.used)
    (and_from (intact (block_of x c)) (codeword_at l (has_node nodes) x c) whole is)

pub ended-all : (l : Lattice) (intact : BlockId → Bool) (c : Class) (nodes opens : List ℕ) (q passed first : ℕ) → HasParity l c → ((x : ℕ) → strand_of l c x < 64) → length nodes ≤ q
    → ArePassed l intact c (has_node nodes) opens passed → AreEnded l intact c nodes opens (has_node (take q nodes)) first → IsFirstOn l intact nodes c first
ended-all l intact c nodes opens q passed first hc few all p e = record {
  node = e.node;
  touched = λ most. touched_parity l intact nodes first c hc (e.whole most) (e.touched most);
  least = λ x has is.
      (let both = and_parts (nat_le (class_number c) l.alpha) (is_touched l intact nodes (block_of x c)) is in
      let two = and_parts (intact (block_of x c)) (codeword_at l (has_node nodes) x c) both.1 in
      elim (e.least x has two.0 two.1) [
        | inl le ↦ le
        | inr open' ↦
            (let low = (along_parts l c (get_or opens (strand_of l c x) 0) x open'.0).from in
            let last = has.last in
            let was : IsOpenAt l c (has_node nodes) (strand_of l c x) (get_or opens (strand_of l c x) 0) = p.some (strand_of l c x) (few x) (omega arith) in
            absurd (true≢false (sym was.passed ∙ ap (λ (xs : List ℕ). has_node xs (get_or opens (strand_of l c x) 0)) (sym (taken-all nodes q all)) ∙ open'.1)))
      ]);
}

-- a class that the lattice has not
pub first-unused : (l : Lattice) (intact : BlockId → Bool) (c : Class) (nodes : List ℕ) (v : ℕ) → l.alpha < class_number c → v ≡ l.n + 1 → IsFirstOn l intact nodes c v
first-unused l intact c nodes v past end = record {
  node = λ most. absurd (omega arith);
  touched = λ most. absurd (omega arith);
  least = λ x has is.
      (let both = and_parts (nat_le (class_number c) l.alpha) (is_touched l intact nodes (block_of x c)) is in
      let used = leb-true (class_number c) l.alpha both.0 in absurd (omega arith));
}
