-- A datum that is not known: its node's word is the spare one.
use Rattle.std.proofs.Common.{◌≡◌, ◌≢◌, ℕ, suc, ◌<◌, ◌≤◌, inl, inr, Bool, true, false, cond, ◌==◌, List, [], ◌∷◌, ◌++◌, length, get_or, Option, Some, None, refl, sym, ◌∙◌, ap, subst, arith}
use Rattle.std.specs.Prelude.{slice_set}
use Rattle.std.proofs.lemmas.Bool.{cases_Bool, cases_eq, eq-eqb, ne_eqb}
use Rattle.std.proofs.lemmas.List.{get_or-set_same, get_or-set_other}
use Rattle.std.proofs.Math.ListN.{length-set, get_or-eq_default}
use Rattle.aea_lattice.specs.declared.blocks.Class.TheVariants.{Datum}
use Rattle.aea_lattice.specs.declared.blocks.BlockId.{BlockId}
use Rattle.aea_lattice.specs.declared.grid.Lattice.{Lattice}
use Rattle.aea_lattice.specs.Blocks.{HasBlock, block_of, class_number}
use Rattle.aea_lattice.specs.Strands.{previous}
use Rattle.aea_lattice.specs.Equations.{codeword_at, is_in_codeword}
use Rattle.aea_lattice.specs.LeastWord.{IsEndOf}
use Rattle.aea_lattice.specs.Parity.{differ}
use Rattle.aea_lattice.proofs.Codewords.{codeword-after, codeword-begin}
use Rattle.aea_sweep.specs.declared.heads.Heads.{Heads}
use Rattle.aea_sweep.specs.Heads.{has_head, no_heads, head_in}
use Rattle.aea_sweep.specs.Words.{RiseWithin, has_odd, word_in}
use Rattle.aea_sweep.specs.Tables.{SameSize, HasPlaces}
use Rattle.aea_sweep.specs.Sweep.{AreWords}
use Rattle.aea_sweep.proofs.StepLaws.{with_node, moved}
use Rattle.aea_sweep.specs.States.{places_of, place_at, is_place_of, seen_to, IsPassed, IsLive, AreHeads, AreClosed, AreOpen, AreSwept, IsCleanTo}
use Rattle.aea_sweep.proofs.Codes.{codeword-late}
use Rattle.aea_sweep.proofs.Steps.{adds_datum}
use Rattle.aea_sweep.proofs.Moving.{moves_word, empty_matters}
use Rattle.aea_sweep.proofs.Merging.{odd-append, rise-more, rise-append}
use Rattle.aea_sweep.proofs.States.{same_rows, place_few, place_below, one_strand}
use Rattle.aea_sweep.proofs.Passing.{just_before, none_above}
use Rattle.aea_sweep.proofs.Datums.{same_seen, sees_none, seen_low, not_here, node_live, node_only, closed_later, place_true, place_is}

-- The spare row is the word of one node, with the heads of its strands, and the others are as they were.
pub record Fills (l : Lattice) (node : ℕ) (words new : List (List ℕ)) (heads headed : List Heads) : Type 0 where
  pub size : SameSize words new heads headed
  pub spare_is : (n : ℕ) → word_in new (places_of l) n ≡ (n == node)
  pub spare_rises : RiseWithin 1 (get_or new (places_of l) []) (suc node)
  pub others_are : (r : ℕ) → r ≢ places_of l → get_or new r [] ≡ get_or words r []
  pub spare_heads : (t : ℕ) → t < 192 → head_in headed (places_of l) t ≡ is_place_of l node t
  pub others_heads : (r t : ℕ) → r ≢ places_of l → head_in headed r t ≡ head_in heads r t

some_classes : (l : Lattice) (b : BlockId) → HasBlock l b → 1 ≤ class_number b.class → 1 ≤ l.alpha
some_classes l b has parity = let u = has.used in omega arith

module _ (l : Lattice) (known : BlockId → Bool) (i : ℕ) (words new : List (List ℕ)) (heads headed : List Heads) (some : 1 ≤ l.alpha) (inside : suc i ≤ l.n)
    (unknown : known (block_of (suc i) Datum) ≡ false) (fills : Fills l (suc i) words new heads headed) (s : AreSwept l known i l.alpha words heads) where
  old_lacks : (r : ℕ) → word_in words r (suc i) ≡ false
  old_lacks r = none_above 1 (get_or words r []) (suc i) (suc i) (s.are_open.rising r) (omega arith)

  other_word : (r : ℕ) → r ≢ places_of l → word_in new r ≡ word_in words r
  other_word r other = ap has_odd (fills.others_are r other)

  -- the codeword of the new word has the new blocks, and no earlier one
  spare_late : (b : BlockId) → HasBlock l b → b.node ≤ i → is_in_codeword l (word_in new (places_of l)) b ≡ false
  spare_late b has low =
      codeword-late l (word_in new (places_of l)) b has (λ k first last. fills.spare_is k ∙ ne_eqb k (suc i) (λ h. omega arith))

  spare_here : (b : BlockId) → HasBlock l b → 1 ≤ class_number b.class → b.node ≡ suc i → (p : Option ℕ) → previous l b.class (suc i) ≡ p
      → codeword_at l (word_in new (places_of l)) (suc i) b.class ≡ true
  spare_here b has parity here None was =
      codeword-begin l (word_in new (places_of l)) (suc i) b.class parity (omega arith) was ∙ fills.spare_is (suc i) ∙ eq-eqb (suc i) (suc i) refl
  spare_here b has parity here (Some g) was =
      let just = just_before l b.class (suc i) g was in
      let first = just.first in
      let before = just.before in
      codeword-after l (word_in new (places_of l)) (suc i) g b.class parity was
      ∙ ap (λ (x : Bool). differ x (word_in new (places_of l) (suc i)))
      (spare_late (block_of g b.class) (record { first = first; last = omega arith; used = has.used }) (omega arith))
      ∙ fills.spare_is (suc i) ∙ eq-eqb (suc i) (suc i) refl

  -- a head of the new word is not that of an earlier block
  no_place : (b : BlockId) → HasBlock l b → 1 ≤ class_number b.class → b.node ≤ i → (j : ℕ) → suc i < j → previous l b.class j ≡ Some b.node → is_place_of l (suc i) (place_at l b) ≡ false
  no_place b has parity low j later was = elim (cases_Bool (is_place_of l (suc i) (place_at l b))) [
    | inl is ↦
        (let c = place_true l (suc i) (place_at l b) some is in
        let d = block_of (suc i) c.0 in
        let has_d : HasBlock l d = record { first = omega arith; last = inside; used = c.1.used } in
        absurd (not_here l known i b j low later was (one_strand l b d has has_d parity c.1.parity c.2)))
    | inr lacks ↦ lacks
  ]

  spare_live : (b : BlockId) → IsLive l (suc i) 0 b → head_in headed (places_of l) (place_at l b) ≡ is_in_codeword l (word_in new (places_of l)) b
  spare_live b live =
      fills.spare_heads (place_at l b) (place_few l b live.block live.parity)
      ∙ elim (cases_eq b.node (suc i)) [
        | inl here ↦
            ap (λ (n : ℕ). is_place_of l n (place_at l b)) (sym here)
            ∙ place_is l b.node b.class (record { parity = live.parity; used = live.block.used })
            ∙ sym (ap (λ (n : ℕ). codeword_at l (word_in new (places_of l)) n b.class) here ∙ spare_here b live.block live.parity here (previous l b.class (suc i)) refl)
        | inr other ↦ elim live.goes_on [
          | inl later ↦
              (let low : b.node ≤ i = (let h = live.most in omega arith) in
              no_place b live.block live.parity low later.0 later.1 later.3 ∙ sym (spare_late b live.block low))
          | inr now ↦ absurd (other now.0)
        ]
      ]

  heads_then : AreHeads l (suc i) 0 (suc (places_of l)) (word_in new) (head_in headed)
  heads_then = record {
    live = λ b live r less. elim (cases_eq r (places_of l)) [
      | inl spare ↦
          ap (λ (x : ℕ). head_in headed x (place_at l b)) spare ∙ spare_live b live ∙ ap (λ (x : ℕ). is_in_codeword l (word_in new x) b) (sym spare)
      | inr other ↦
          fills.others_heads r (place_at l b) other
          ∙ node_live l known i (suc (places_of l)) (word_in words) (head_in heads) s.are_open.heads_are inside b live r less (old_lacks r)
          ∙ ap (λ (f : ℕ → Bool). is_in_codeword l f b) (sym (other_word r other))
    ];
    only = λ r t less in_t own. elim (cases_eq r (places_of l)) [
      | inl spare ↦
          (let is : is_place_of l (suc i) t ≡ true = sym (ap (λ (x : ℕ). head_in headed x t) spare ∙ fills.spare_heads t in_t) ∙ own in
          let c = place_true l (suc i) t some is in (
            block_of (suc i) c.0,
            record {
              block = record { first = omega arith; last = inside; used = c.1.used };
              parity = c.1.parity;
              most = omega arith;
              goes_on = inr (refl, c.1.parity);
            },
            sym c.2,
          ))
      | inr other ↦
          node_only l known i (suc (places_of l)) (word_in words) (head_in heads) s.are_open.heads_are inside r t less in_t
          (sym (fills.others_heads r t other) ∙ own)
    ];
  }

  rows_more : suc (places_of l) ≤ length words
  rows_more = s.are_open.rows

  beyond : (n : ℕ) → word_in words (length words) n ≡ false
  beyond n = ap (λ (xs : List ℕ). has_odd xs n) (get_or-eq_default words [] (omega arith))

  -- the words and that of the node after them, moved to the spare place
  abbrev family : ℕ → ℕ → Bool
  family = moved (with_node (word_in words) (length words) (suc i)) (length words) (places_of l)

  family_is : (r n : ℕ) → word_in new r n ≡ family r n
  family_is r n = elim (cases_eq r (places_of l)) [
    | inl spare ↦
        subst (λ (x : ℕ). word_in new x n ≡ family x n) (sym spare)
        (fills.spare_is n
        ∙ sym (ap (λ b. cond b (with_node (word_in words) (length words) (suc i) (length words) n)
        (cond (places_of l == length words) false (with_node (word_in words) (length words) (suc i) (places_of l) n))) (eq-eqb (places_of l) (places_of l) refl)
        ∙ ap (λ b. cond b (n == suc i) (word_in words (length words) n)) (eq-eqb (length words) (length words) refl)))
    | inr other ↦
        ap (λ (f : ℕ → Bool). f n) (other_word r other)
        ∙ sym (ap (λ b. cond b (with_node (word_in words) (length words) (suc i) (length words) n)
        (cond (r == length words) false (with_node (word_in words) (length words) (suc i) r n))) (ne_eqb r (places_of l) other)
        ∙ elim (cases_eq r (length words)) [
          | inl last ↦
              ap (λ b. cond b false (with_node (word_in words) (length words) (suc i) r n)) (eq-eqb r (length words) last)
              ∙ sym (ap (λ (x : ℕ). word_in words x n) last ∙ beyond n)
          | inr within ↦
              ap (λ b. cond b false (with_node (word_in words) (length words) (suc i) r n)) (ne_eqb r (length words) within)
              ∙ ap (λ b. cond b (n == suc i) (word_in words r n)) (ne_eqb r (length words) within)
        ])
  ]

  family_beyond : (n : ℕ) → family (length words) n ≡ false
  family_beyond n =
      sym (family_is (length words) n) ∙ ap (λ (f : ℕ → Bool). f n) (other_word (length words) (λ h. omega arith)) ∙ beyond n

  spare_empty : (n : ℕ) → with_node (word_in words) (length words) (suc i) (places_of l) n ≡ false
  spare_empty n = ap (λ b. cond b (n == suc i) (word_in words (places_of l) n)) (ne_eqb (places_of l) (length words) (λ h. omega arith)) ∙ s.spare n

  words_then : AreWords l (suc i) (seen_to known (suc i) 0) (length new) (word_in new)
  words_then =
      subst (λ (m : ℕ). AreWords l (suc i) (seen_to known (suc i) 0) m (word_in new)) (sym fills.size.words_long)
      (subst (λ (f : ℕ → ℕ → Bool). AreWords l (suc i) (seen_to known (suc i) 0) (length words) f) (sym (same_rows (word_in new) family family_is))
      (same_seen l (suc i) (seen_to known i l.alpha) (seen_to known (suc i) 0) (length words) family (sees_none l known i unknown)
      ((empty_matters l (suc i) (seen_to known i l.alpha) (length words) family family_beyond).taken
      (moves_word l (suc i) (seen_to known i l.alpha) (suc (length words)) (with_node (word_in words) (length words) (suc i)) (places_of l) (length words)
      (omega arith) (omega arith) (λ h. omega arith) spare_empty
      (adds_datum l i (seen_to known i l.alpha) (length words) (word_in words) (λ d has seen. seen_low l known i d seen) s.are_open.words_are)))))

  closed_then : AreClosed l known (suc i) 0 (suc (places_of l)) (length words) (word_in new) s.are_open.ends
  closed_then =
      let c = closed_later l known i (suc (places_of l)) (length words) (word_in words) s.are_open.ends s.are_open.closed in
      record {
        end = λ r past less. subst (λ (f : ℕ → Bool). IsEndOf l known f (s.are_open.ends r)) (sym (other_word r (λ h. omega arith))) (c.end r past less);
        passed = c.passed;
        alone = λ r k past less k_less apart. elim (cases_eq k (places_of l)) [
          | inl spare ↦
              ap (λ (x : ℕ). is_in_codeword l (word_in new x) (s.are_open.ends r)) spare
              ∙ spare_late (s.are_open.ends r) (c.end r past less).block (low (s.are_open.ends r) (s.are_open.closed.passed r past less))
          | inr other ↦ ap (λ (f : ℕ → Bool). is_in_codeword l f (s.are_open.ends r)) (other_word k other) ∙ c.alone r k past less k_less apart
        ];
        rise = c.rise;
      }
    where
      low : (d : BlockId) → IsPassed i l.alpha d → d.node ≤ i
      low d (inl before) = omega arith
      low d (inr here) = let h = here.0 in omega arith

  pub datum_lost : IsCleanTo l known (suc i) 0 (block_of (suc i) Datum) 0 new headed
  datum_lost =
      let long = fills.size.words_long in
      record {
        are_open = record {
          slots = fills.size.heads_long ∙ s.are_open.slots;
          rows = omega arith;
          rising = λ r. elim (cases_eq r (places_of l)) [
            | inl spare ↦ subst (λ (x : ℕ). RiseWithin 1 (get_or new x []) (suc (suc i))) (sym spare) fills.spare_rises
            | inr other ↦ subst (λ (xs : List ℕ). RiseWithin 1 xs (suc (suc i))) (sym (fills.others_are r other))
                (rise-more 1 (get_or words r []) (suc i) (suc (suc i)) (omega arith) (s.are_open.rising r))
          ];
          words_are = words_then;
          heads_are = heads_then;
          ends = s.are_open.ends;
          closed = subst (λ (m : ℕ). AreClosed l known (suc i) 0 (suc (places_of l)) m (word_in new) s.are_open.ends) (sym long) closed_then;
        };
        pivots = record {
          alone = λ t r t_less r_less apart own.
              fills.others_heads r t (λ h. omega arith) ∙ s.pivots.alone t r t_less r_less apart (sym (fills.others_heads t t (λ h. omega arith)) ∙ own);
          empty = λ t n t_less lacks.
              ap (λ (f : ℕ → Bool). f n) (other_word t (λ h. omega arith)) ∙ s.pivots.empty t n t_less (sym (fills.others_heads t t (λ h. omega arith)) ∙ lacks);
        };
        own = record {
          block = record { first = omega arith; last = inside; used = omega arith };
          contains = fills.spare_is (suc i) ∙ eq-eqb (suc i) (suc i) refl;
          alone = λ r less other. ap (λ (f : ℕ → Bool). f (suc i)) (other_word r other) ∙ old_lacks r;
        };
        free = λ k less own. absurd (omega arith);
      }

-- what the code does to the spare row
pub fills_row : (l : Lattice) (i : ℕ) (words : List (List ℕ)) (z : List ℕ) (heads : List Heads) (g : Heads) → places_of l < length words → places_of l < length heads
    → z ≡ get_or words (places_of l) [] ++ suc i ∷ []
    → ((n : ℕ) → word_in words (places_of l) n ≡ false) → RiseWithin 1 (get_or words (places_of l) []) (suc i)
    → ((t : ℕ) → t < 192 → has_head g t ≡ is_place_of l (suc i) t)
    → Fills l (suc i) words (slice_set words (places_of l) z) heads (slice_set heads (places_of l) g)
fills_row l i words z heads g inside headed pushed none rises are =
    let spare = places_of l in
    let xs = get_or words spare [] in
    let z_is : get_or (slice_set words spare z) spare [] ≡ xs ++ suc i ∷ [] = get_or-set_same words spare z [] inside ∙ pushed in
    record {
      size = record { words_long = length-set words spare z; heads_long = length-set heads spare g };
      spare_is = λ n.
          ap (λ (ys : List ℕ). has_odd ys n) z_is ∙ odd-append xs (suc i ∷ []) n
          ∙ ap (λ (x : Bool). differ x (differ (n == suc i) false)) (none n) ∙ right (n == suc i);
      spare_rises = subst (λ (ys : List ℕ). RiseWithin 1 ys (suc (suc i))) (sym z_is) (rise-append 1 xs (suc i) (suc i ∷ []) (suc (suc i)) rises (omega arith, omega arith));
      others_are = λ r other. get_or-set_other words spare r z [] other;
      spare_heads = λ t in_t. ap (λ (h : Heads). has_head h t) (get_or-set_same heads spare g no_heads headed) ∙ are t in_t;
      others_heads = λ r t other. ap (λ (h : Heads). has_head h t) (get_or-set_other heads spare r g no_heads other);
    }
  where
    right : (b : Bool) → differ b false ≡ b
    right true = refl
    right false = refl

-- no head is past the places
pub places_clean : (l : Lattice) (known : BlockId → Bool) (i q : ℕ) (words : List (List ℕ)) (heads : List Heads) → AreOpen l known i q words heads → HasPlaces (places_of l) heads
places_clean l known i q words heads s r t r_less past in_t = elim (cases_Bool (head_in heads r t)) [
  | inl own ↦
      (let b = s.heads_are.only r t (omega arith) in_t own in
      let below = place_below l b.0 b.1.block b.1.parity in
      let e = b.2 in
      absurd (omega arith))
  | inr lacks ↦ lacks
]
