-- The pass goes over a datum.
use Rattle.std.proofs.Common.{◌≡◌, ◌≢◌, ◌⊎◌, ℕ, suc, ◌<◌, ◌≤◌, inl, inr, Bool, true, false, ◌&&◌, ◌||◌, ◌==◌, List, [], length, get_or, Option, Some, None, refl, sym, ◌∙◌, ap, subst, arith}
use Rattle.std.specs.Prelude.{nat_le, IsTrue}
use Rattle.std.proofs.lemmas.Bool.{cases_Bool, cases_eq, eq-eqb, eqb-true, true≢false, and_parts, le-leb, leb-true}
use Rattle.aea_lattice.specs.declared.blocks.Class.{Class}
use Rattle.aea_lattice.specs.declared.blocks.Class.TheVariants.{Datum, Horiz, Right, Left}
use Rattle.aea_lattice.specs.declared.blocks.BlockId.{BlockId}
use Rattle.aea_lattice.specs.declared.grid.Lattice.{Lattice}
use Rattle.aea_lattice.specs.Blocks.{HasBlock, HasParity, block_of, class_number}
use Rattle.aea_lattice.specs.Strands.{previous, strand_of}
use Rattle.aea_lattice.specs.Equations.{codeword_at, is_in_codeword}
use Rattle.aea_lattice.specs.Parity.{differ}
use Rattle.aea_lattice.proofs.Equations.{class_number-equal}
use Rattle.aea_lattice.proofs.Odd.{differ-false_r}
use Rattle.aea_lattice.proofs.Codewords.{codeword-after, codeword-begin}
use Rattle.aea_sweep.specs.declared.heads.Heads.{Heads}
use Rattle.aea_sweep.specs.Heads.{head_in}
use Rattle.aea_sweep.specs.Words.{word_in}
use Rattle.aea_sweep.specs.Sweep.{AreWords}
use Rattle.aea_sweep.proofs.StepLaws.{Sees}
use Rattle.aea_sweep.specs.States.{places_of, place_on, place_at, is_place_of, IsPassed, is_passed, seen_to, IsLive, AreHeads, AreClosed, AreSwept}
use Rattle.aea_sweep.proofs.Steps.{passes_datum}
use Rattle.aea_sweep.proofs.Merging.{rise-more}
use Rattle.aea_sweep.proofs.States.{place_few, one_class, one_strand}
use Rattle.aea_sweep.proofs.Passing.{just_before, passed_true, true_passed, none_above}

-- words serve where the same blocks of the lattice were seen
pub same_seen : (l : Lattice) (m : ℕ) (seen new : BlockId → Bool) (rows : ℕ) (words : ℕ → ℕ → Bool) → ((d : BlockId) → HasBlock l d → seen d ≡ new d)
    → AreWords l m seen rows words → AreWords l m new rows words
same_seen l m seen new rows words same w = record {
  each = λ r less. record {
    first = (w.each r less).first;
    last = (w.each r less).last;
    misses = λ d has is. (w.each r less).misses d has (same d has ∙ is);
  };
  whole = λ nodes o. w.whole nodes (record { first = o.first; last = o.last; misses = λ d has is. o.misses d has (sym (same d has) ∙ is) });
}

datum_is : (d : BlockId) (i : ℕ) → d.node ≡ i → class_number d.class ≤ 0 → d ≡ block_of i Datum
datum_is d i node low = let same : d.class ≡ Datum = class_number-equal d.class Datum (omega arith) in λ k. record { node = node k; class = same k }

module _ (l : Lattice) (known : BlockId → Bool) (i : ℕ) where
  pub later_passed : (d : BlockId) → IsPassed i l.alpha d → IsPassed (suc i) 0 d
  later_passed d (inl before) = inl (omega arith)
  later_passed d (inr here) = inl (let h = here.0 in omega arith)

  earlier_passed : (d : BlockId) → HasBlock l d → IsPassed (suc i) 0 d → IsPassed i l.alpha d ⊎ (d ≡ block_of (suc i) Datum)
  earlier_passed d has (inl before) = elim (cases_eq d.node i) [
    | inl here ↦ inl (inr (here, has.used))
    | inr other ↦ inl (inl (omega arith))
  ]
  earlier_passed d has (inr here) = inr (datum_is d (suc i) here.0 here.1)

  seen_later : (d : BlockId) → IsTrue (seen_to known i l.alpha d) → IsTrue (seen_to known (suc i) 0 d)
  seen_later d seen =
      let both = and_parts (known d) (is_passed i l.alpha d) seen in
      ap (λ x. x && is_passed (suc i) 0 d) both.0 ∙ passed_true (suc i) 0 d (later_passed d (true_passed i l.alpha d both.1))

  seen_earlier : (d : BlockId) → HasBlock l d → IsTrue (seen_to known (suc i) 0 d) → IsTrue (seen_to known i l.alpha d) ⊎ (d ≡ block_of (suc i) Datum)
  seen_earlier d has seen =
      let both = and_parts (known d) (is_passed (suc i) 0 d) seen in
      elim (earlier_passed d has (true_passed (suc i) 0 d both.1)) [
        | inl before ↦ inl (ap (λ x. x && is_passed i l.alpha d) both.0 ∙ passed_true i l.alpha d before)
        | inr same ↦ inr same
      ]

  pub sees_datum : known (block_of (suc i) Datum) ≡ true → Sees l (seen_to known i l.alpha) (seen_to known (suc i) 0) (block_of (suc i) Datum)
  sees_datum is_known = (
    λ d has seen. seen_later d seen,
    ap (λ x. x && is_passed (suc i) 0 (block_of (suc i) Datum)) is_known ∙ passed_true (suc i) 0 (block_of (suc i) Datum) (inr (refl, omega arith)),
    λ d has seen. seen_earlier d has seen,
  )

  pub sees_none : known (block_of (suc i) Datum) ≡ false → (d : BlockId) → HasBlock l d → seen_to known i l.alpha d ≡ seen_to known (suc i) 0 d
  sees_none unknown d has = elim (cases_Bool (seen_to known i l.alpha d)) [
    | inl seen ↦ seen ∙ sym (seen_later d seen)
    | inr fresh ↦ elim (cases_Bool (seen_to known (suc i) 0 d)) [
      | inl then ↦ elim (seen_earlier d has then) [
        | inl before ↦ before ∙ sym then
        | inr same ↦ absurd (true≢false (sym (and_parts (known d) (is_passed (suc i) 0 d) then).0 ∙ ap known same ∙ unknown))
      ]
      | inr neither ↦ fresh ∙ sym neither
    ]
  ]

  pub seen_low : (d : BlockId) → IsTrue (seen_to known i l.alpha d) → d.node ≤ i
  seen_low d seen = low (true_passed i l.alpha d (and_parts (known d) (is_passed i l.alpha d) seen).1)
    where
      low : IsPassed i l.alpha d → d.node ≤ i
      low (inl before) = omega arith
      low (inr here) = let h = here.0 in omega arith

  -- a live parity of an earlier node does not have a strand of node i + 1, if that strand goes on after i + 1
  pub not_here : (d : BlockId) (j : ℕ) → d.node ≤ i → suc i < j → previous l d.class j ≡ Some d.node → strand_of l d.class d.node ≢ strand_of l d.class (suc i)
  not_here d j low later was same =
      let just = just_before l d.class j d.node was in
      just.none_between (suc i) (omega arith) later (sym same ∙ just.same)

  -- the heads of words without node i + 1 are those of the blocks of node i + 1
  module _ (slots : ℕ) (words heads : ℕ → ℕ → Bool) (are : AreHeads l i l.alpha slots words heads) (inside : suc i ≤ l.n) where
    goes_later : (d : BlockId) → IsLive l i l.alpha d → (j : ℕ) × (i < j) × (j ≤ l.n) × (previous l d.class j ≡ Some d.node)
    goes_later d live = elim live.goes_on [
      | inl later ↦ later
      | inr here ↦ let h = here.1 in let g = live.block.used in absurd (omega arith)
    ]

    head_none : (b : BlockId) → HasBlock l b → 1 ≤ class_number b.class → b.node ≡ suc i → previous l b.class (suc i) ≡ None → (r : ℕ) → r < slots
        → heads r (place_at l b) ≡ false
    head_none b has parity here begins r less = elim (cases_Bool (heads r (place_at l b))) [
      | inl own ↦
          (let d = are.only r (place_at l b) less (place_few l b has parity) own in
          let later = goes_later d.0 d.1 in
          let class = one_class l d.0 b d.1.block has d.1.parity parity d.2 in
          let strand = one_strand l d.0 b d.1.block has d.1.parity parity d.2 in
          elim (cases_eq later.0 (suc i)) [
            | inl next ↦
                (let was : previous l b.class (suc i) ≡ Some d.0.node =
                ap (previous l b.class) (sym next) ∙ subst (λ (c : Class). previous l c later.0 ≡ Some d.0.node) class later.3 in
                absurd (none_some d.0.node (sym begins ∙ was)))
            | inr further ↦
                absurd (not_here d.0 later.0 d.1.most (let h = later.1 in omega arith) later.3 (strand ∙ ap (strand_of l d.0.class) here))
          ])
      | inr lacks ↦ lacks
    ]
      where
        none_some : (g : ℕ) → None ≡ Some g → ⊥
        none_some g h = cc

    at_new : (b : BlockId) → HasBlock l b → 1 ≤ class_number b.class → b.node ≡ suc i → (r : ℕ) → r < slots → words r (suc i) ≡ false
        → (p : Option ℕ) → previous l b.class (suc i) ≡ p → heads r (place_at l b) ≡ codeword_at l (words r) (suc i) b.class
    at_new b has parity here r less lacks None was =
        head_none b has parity here was r less ∙ sym (codeword-begin l (words r) (suc i) b.class parity (omega arith) was ∙ lacks)
    at_new b has parity here r less lacks (Some g) was =
        let just = just_before l b.class (suc i) g was in
        let first = just.first in
        let before = just.before in
        let d = block_of g b.class in
        let live : IsLive l i l.alpha d =
        record { block = record { first = first; last = omega arith; used = has.used }; parity = parity; most = omega arith; goes_on = inl (suc i, omega arith, inside, was) } in
        ap (λ (t : ℕ). heads r (place_on l b.class t)) (ap (strand_of l b.class) here ∙ sym just.same)
        ∙ are.live d live r less
        ∙ sym (codeword-after l (words r) (suc i) g b.class parity was ∙ ap (differ (codeword_at l (words r) g b.class)) lacks
        ∙ differ-false_r (codeword_at l (words r) g b.class))

    later_live : (b : BlockId) → IsLive l (suc i) 0 b → (b.node ≡ suc i) ⊎ ((b.node ≤ i) × (j : ℕ) × (suc i < j) × (j ≤ l.n) × (previous l b.class j ≡ Some b.node))
    later_live b live = elim (cases_eq b.node (suc i)) [
      | inl here ↦ inl here
      | inr other ↦ elim live.goes_on [
        | inl later ↦ inr (let h = live.most in omega arith, later.0, later.1, later.2, later.3)
        | inr now ↦ absurd (other now.0)
      ]
    ]

    pub node_live : (b : BlockId) → IsLive l (suc i) 0 b → (r : ℕ) → r < slots → words r (suc i) ≡ false → heads r (place_at l b) ≡ is_in_codeword l (words r) b
    node_live b live r less lacks = elim (later_live b live) [
      | inl here ↦
          at_new b live.block live.parity here r less lacks (previous l b.class (suc i)) refl
          ∙ ap (λ (n : ℕ). codeword_at l (words r) n b.class) (sym here)
      | inr old ↦
          are.live b
          (record { block = live.block; parity = live.parity; most = old.0; goes_on = inl (old.1, let h = old.2 in omega arith, old.3, old.4) }) r less
    ]

    pub node_only : (r t : ℕ) → r < slots → t < 192 → heads r t ≡ true → (b : BlockId) × IsLive l (suc i) 0 b × (place_at l b ≡ t)
    node_only r t less in_t own =
        let d = are.only r t less in_t own in
        let later = goes_later d.0 d.1 in
        let just = just_before l d.0.class later.0 d.0.node later.3 in
        elim (cases_eq later.0 (suc i)) [
          | inl next ↦ (
            block_of (suc i) d.0.class,
            record {
              block = record { first = omega arith; last = inside; used = d.1.block.used };
              parity = d.1.parity;
              most = omega arith;
              goes_on = inr (refl, d.1.parity);
            },
            ap (place_on l d.0.class) (ap (strand_of l d.0.class) (sym next) ∙ sym just.same) ∙ d.2,
          )
          | inr further ↦ (
            d.0,
            record {
              block = d.1.block;
              parity = d.1.parity;
              most = (let h = d.1.most in omega arith);
              goes_on = inl (later.0, let h = later.1 in omega arith, later.2, later.3);
            },
            d.2,
          )
        ]

  pub closed_later : (slots rows : ℕ) (words : ℕ → ℕ → Bool) (ends : ℕ → BlockId) → AreClosed l known i l.alpha slots rows words ends → AreClosed l known (suc i) 0 slots rows words ends
  closed_later slots rows words ends c =
      record { end = c.end; passed = λ r past less. later_passed (ends r) (c.passed r past less); alone = c.alone; rise = c.rise }

  -- a known datum
  pub datum_known : (words : List (List ℕ)) (heads : List Heads) → suc i ≤ l.n → known (block_of (suc i) Datum) ≡ true
      → AreSwept l known i l.alpha words heads → AreSwept l known (suc i) 0 words heads
  datum_known words heads inside is_known s = record {
    are_open = record {
      slots = s.are_open.slots;
      rows = s.are_open.rows;
      rising = λ r. rise-more 1 (get_or words r []) (suc i) (suc (suc i)) (omega arith) (s.are_open.rising r);
      words_are =
          passes_datum l i (seen_to known i l.alpha) (seen_to known (suc i) 0) (length words) (word_in words) inside (sees_datum is_known) s.are_open.words_are;
      heads_are = record {
        live = λ b live r less.
            node_live (suc (places_of l)) (word_in words) (head_in heads) s.are_open.heads_are inside b live r less
            (none_above 1 (get_or words r []) (suc i) (suc i) (s.are_open.rising r) (omega arith));
        only = node_only (suc (places_of l)) (word_in words) (head_in heads) s.are_open.heads_are inside;
      };
      ends = s.are_open.ends;
      closed = closed_later (suc (places_of l)) (length words) (word_in words) s.are_open.ends s.are_open.closed;
    };
    pivots = s.pivots;
    spare = s.spare;
  }

and-one : (a b : Bool) → a ≡ true → (a && b) ≡ b
and-one a b h = ap (λ x. x && b) h

or_true : (a b : Bool) → (a || b) ≡ true → (a ≡ true) ⊎ (b ≡ true)
or_true true b h = inl refl
or_true false b h = inr h

or-one : (a b : Bool) → b ≡ true → (a || b) ≡ true
or-one true b h = refl
or-one false b h = h

-- a place of a strand of the node is one of a class
pub place_true : (l : Lattice) (node t : ℕ) → 1 ≤ l.alpha → is_place_of l node t ≡ true → (c : Class) × HasParity l c × (t ≡ place_on l c (strand_of l c node))
place_true l node t some is =
    elim (or_true ((t == place_on l Horiz (strand_of l Horiz node)) || (nat_le 2 l.alpha && t == place_on l Right (strand_of l Right node)))
    (nat_le 3 l.alpha && t == place_on l Left (strand_of l Left node)) is) [
      | inl first ↦ elim (or_true (t == place_on l Horiz (strand_of l Horiz node)) (nat_le 2 l.alpha && t == place_on l Right (strand_of l Right node)) first) [
        | inl horiz ↦ (Horiz, record { parity = omega arith; used = some }, eqb-true t (place_on l Horiz (strand_of l Horiz node)) horiz)
        | inr right ↦
            (let both = and_parts (nat_le 2 l.alpha) (t == place_on l Right (strand_of l Right node)) right in
            (Right, record { parity = omega arith; used = leb-true 2 l.alpha both.0 }, eqb-true t (place_on l Right (strand_of l Right node)) both.1))
      ]
      | inr left ↦
          (let both = and_parts (nat_le 3 l.alpha) (t == place_on l Left (strand_of l Left node)) left in
          (Left, record { parity = omega arith; used = leb-true 3 l.alpha both.0 }, eqb-true t (place_on l Left (strand_of l Left node)) both.1))
    ]

-- and those are places of strands of the node
pub place_is : (l : Lattice) (node : ℕ) (c : Class) → HasParity l c → is_place_of l node (place_on l c (strand_of l c node)) ≡ true
place_is l node Datum has = let h = has.parity in absurd (omega arith)
place_is l node Horiz has =
    let t = place_on l Horiz (strand_of l Horiz node) in
    ap (λ b. (b || (nat_le 2 l.alpha && t == place_on l Right (strand_of l Right node))) || (nat_le 3 l.alpha && t == place_on l Left (strand_of l Left node))) (eq-eqb t t refl)
place_is l node Right has =
    let t = place_on l Right (strand_of l Right node) in
    ap (λ b. b || (nat_le 3 l.alpha && t == place_on l Left (strand_of l Left node)))
    (or-one (t == place_on l Horiz (strand_of l Horiz node)) (nat_le 2 l.alpha && t == t) (and-one (nat_le 2 l.alpha) (t == t) (le-leb 2 l.alpha has.used) ∙ eq-eqb t t refl))
place_is l node Left has =
    let t = place_on l Left (strand_of l Left node) in
    or-one ((t == place_on l Horiz (strand_of l Horiz node)) || (nat_le 2 l.alpha && t == place_on l Right (strand_of l Right node))) (nat_le 3 l.alpha && t == t)
    (and-one (nat_le 3 l.alpha) (t == t) (le-leb 3 l.alpha has.used) ∙ eq-eqb t t refl)
