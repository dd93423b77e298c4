-- The pass meets a known parity, or the last one of a strand.
use Rattle.std.proofs.Common.{◌≡◌, ◌≢◌, ℕ, suc, ◌<◌, ◌≤◌, inl, inr, Bool, true, false, cond, not, ◌&&◌, List, [], length, get_or, Some, None, refl, sym, ◌∙◌, ap, subst, arith}
use Rattle.std.specs.Prelude.{nat_lt}
use Rattle.std.proofs.lemmas.Bool.{cases_eq, cases_lt, eq-eqb, ne_eqb, true≢false}
use Rattle.aea_lattice.specs.declared.blocks.BlockId.{BlockId}
use Rattle.aea_lattice.specs.declared.grid.Lattice.{Lattice}
use Rattle.aea_lattice.specs.Strands.{IsNext, previous}
use Rattle.aea_lattice.specs.Equations.{is_in_codeword}
use Rattle.aea_lattice.specs.LeastWord.{IsEndOf}
use Rattle.aea_sweep.specs.declared.heads.Heads.{Heads}
use Rattle.aea_sweep.specs.Heads.{head_in}
use Rattle.aea_sweep.specs.Words.{RiseWithin, has_odd, word_in}
use Rattle.aea_sweep.specs.Tables.{AddsRow, Exchanges, Clears, Forgets}
use Rattle.aea_sweep.specs.Sweep.{AreWords}
use Rattle.aea_sweep.proofs.StepLaws.{without_row}
use Rattle.aea_sweep.specs.States.{places_of, place_at, seen_to, AreHeads, AreClosed, AreOpen, ArePivots, AreSwept, IsAt, IsCleanTo}
use Rattle.aea_sweep.proofs.Steps.{passes_block, ends_word}
use Rattle.aea_sweep.proofs.States.{same_rows, few_places}
use Rattle.aea_sweep.proofs.Moves.{codeword-empty, empty-heads, lift-open, lift-pivots, lift-free, row_spare, row_b, row_other, spread-open, spread-pivots, spread-clears, spread-spare}
use Rattle.aea_sweep.proofs.Stepping.{closed_lacks, own_live, fits, heads-clear, heads-on, heads-forgot, sees_block, sees_nothing, closed-more}

-- a known parity that no word in a slot has
module _ (l : Lattice) (known : BlockId → Bool) (i q place : ℕ) (b : BlockId) (at : IsAt l i q place b) (is_known : known b ≡ true)
    (words : List (List ℕ)) (heads : List Heads) (s : AreSwept l known i q words heads)
    (clear : (r : ℕ) → r < places_of l → head_in heads r place ≡ false) where
  in_t : place < 192
  in_t = fits l known i q place b at

  all_clear : (r : ℕ) → r < suc (places_of l) → head_in heads r place ≡ false
  all_clear r less = elim (cases_eq r (places_of l)) [
    | inl spare ↦
        ap (λ (x : ℕ). head_in heads x place) spare
        ∙ empty-heads l i q (suc (places_of l)) (word_in words) (head_in heads) s.are_open.heads_are (places_of l) (omega arith) s.spare place in_t
    | inr slot ↦ clear r (omega arith)
  ]

  lacks : (r : ℕ) → r < length words → is_in_codeword l (word_in words r) b ≡ false
  lacks r less = elim (cases_lt r (suc (places_of l))) [
    | inl slot ↦
        sym (s.are_open.heads_are.live b (own_live l known i q place b at) r slot) ∙ ap (head_in heads r) (sym at.strand) ∙ all_clear r slot
    | inr past ↦ closed_lacks l known i q (suc (places_of l)) (length words) (word_in words) s.are_open.ends b at.block at.node at.class s.are_open.closed r past less
  ]

  pub meet_none : AreSwept l known i (suc q) words heads
  meet_none = record {
    are_open = record {
      slots = s.are_open.slots;
      rows = s.are_open.rows;
      rising = s.are_open.rising;
      words_are =
          passes_block l i (seen_to known i q) (seen_to known i (suc q)) (length words) (word_in words) b at.block
          (sees_block l known i q place b at is_known) lacks s.are_open.words_are;
      heads_are = heads-clear l known i q place b at (suc (places_of l)) (word_in words) (head_in heads) all_clear s.are_open.heads_are;
      ends = s.are_open.ends;
      closed = closed-more l known i q place b at (suc (places_of l)) (length words) (word_in words) s.are_open.ends s.are_open.closed;
    };
    pivots = s.pivots;
    spare = s.spare;
  }

-- the spare word alone has the known parity, and goes
module _ (l : Lattice) (known : BlockId → Bool) (i q place : ℕ) (b : BlockId) (at : IsAt l i q place b) (is_known : known b ≡ true)
    (words new : List (List ℕ)) (heads headed : List Heads) (s : AreOpen l known i q words heads)
    (pivots : ArePivots (places_of l) (word_in words) (head_in heads))
    (clear : (r : ℕ) → r < places_of l → head_in heads r place ≡ false) (has : head_in heads (places_of l) place ≡ true)
    (clears : Clears (places_of l) words new heads headed) where
  at_spare : (n : ℕ) → word_in new (places_of l) n ≡ false
  at_spare n =
      ap (λ (xs : List ℕ). has_odd xs n) (clears.words_are (places_of l))
      ∙ ap (λ (x : Bool). has_odd (cond x [] (get_or words (places_of l) [])) n) (eq-eqb (places_of l) (places_of l) refl)

  row_is : (r : ℕ) → r ≢ places_of l → get_or new r [] ≡ get_or words r []
  row_is r other = clears.words_are r ∙ ap (λ (x : Bool). cond x [] (get_or words r [])) (ne_eqb r (places_of l) other)

  head_is : (r t : ℕ) → r ≢ places_of l → head_in headed r t ≡ head_in heads r t
  head_is r t other = clears.heads_are r t ∙ ap (λ (x : Bool). cond x false (head_in heads r t)) (ne_eqb r (places_of l) other)

  head_spare : (t : ℕ) → head_in headed (places_of l) t ≡ false
  head_spare t = clears.heads_are (places_of l) t ∙ ap (λ (x : Bool). cond x false (head_in heads (places_of l) t)) (eq-eqb (places_of l) (places_of l) refl)

  new_without : (r n : ℕ) → word_in new r n ≡ without_row (word_in words) (places_of l) r n
  new_without r n = elim (cases_eq r (places_of l)) [
    | inl spare ↦
        subst (λ (x : ℕ). word_in new x n ≡ without_row (word_in words) (places_of l) x n) (sym spare)
        (at_spare n ∙ sym (ap (λ x. cond x false (word_in words (places_of l) n)) (eq-eqb (places_of l) (places_of l) refl)))
    | inr other ↦
        ap (λ (xs : List ℕ). has_odd xs n) (row_is r other) ∙ sym (ap (λ x. cond x false (word_in words r n)) (ne_eqb r (places_of l) other))
  ]

  others_lack : (r : ℕ) → r < length words → r ≢ places_of l → is_in_codeword l (word_in words r) b ≡ false
  others_lack r less other = elim (cases_lt r (suc (places_of l))) [
    | inl slot ↦
        sym (s.heads_are.live b (own_live l known i q place b at) r slot) ∙ ap (head_in heads r) (sym at.strand) ∙ clear r (omega arith)
    | inr past ↦ closed_lacks l known i q (suc (places_of l)) (length words) (word_in words) s.ends b at.block at.node at.class s.closed r past less
  ]

  code_spare : (d : BlockId) → is_in_codeword l (word_in new (places_of l)) d ≡ false
  code_spare d = codeword-empty l (word_in new (places_of l)) at_spare d

  heads_then : AreHeads l i q (suc (places_of l)) (word_in new) (head_in headed)
  heads_then = record {
    live = λ d live r less. elim (cases_eq r (places_of l)) [
      | inl spare ↦
          ap (λ (x : ℕ). head_in headed x (place_at l d)) spare ∙ head_spare (place_at l d)
          ∙ sym (ap (λ (x : ℕ). is_in_codeword l (word_in new x) d) spare ∙ code_spare d)
      | inr other ↦
          head_is r (place_at l d) other ∙ s.heads_are.live d live r less ∙ sym (ap (λ (xs : List ℕ). is_in_codeword l (has_odd xs) d) (row_is r other))
    ];
    only = λ r t less in_t own. elim (cases_eq r (places_of l)) [
      | inl spare ↦ absurd (true≢false (sym own ∙ ap (λ (x : ℕ). head_in headed x t) spare ∙ head_spare t))
      | inr other ↦ s.heads_are.only r t less in_t (sym (head_is r t other) ∙ own)
    ];
  }

  clear_then : (r : ℕ) → r < suc (places_of l) → head_in headed r place ≡ false
  clear_then r less = elim (cases_eq r (places_of l)) [
    | inl spare ↦ ap (λ (x : ℕ). head_in headed x place) spare ∙ head_spare place
    | inr other ↦ head_is r place other ∙ clear r (omega arith)
  ]

  closed_then : AreClosed l known i q (suc (places_of l)) (length words) (word_in new) s.ends
  closed_then = record {
    end = λ r past less.
        subst (λ (xs : List ℕ). IsEndOf l known (has_odd xs) (s.ends r)) (sym (row_is r (λ h. omega arith))) (s.closed.end r past less);
    passed = s.closed.passed;
    alone = λ r k past less k_less apart. elim (cases_eq k (places_of l)) [
      | inl spare ↦ ap (λ (x : ℕ). is_in_codeword l (word_in new x) (s.ends r)) spare ∙ code_spare (s.ends r)
      | inr other ↦ ap (λ (xs : List ℕ). is_in_codeword l (has_odd xs) (s.ends r)) (row_is k other) ∙ s.closed.alone r k past less k_less apart
    ];
    rise = s.closed.rise;
  }

  pub meet_one : AreSwept l known i (suc q) new headed
  meet_one =
      let long = clears.size.words_long in
      record {
        are_open = record {
          slots = clears.size.heads_long ∙ s.slots;
          rows = (let h = s.rows in omega arith);
          rising = λ r. elim (cases_eq r (places_of l)) [
            | inl spare ↦ subst (λ (xs : List ℕ). RiseWithin 1 xs (suc i)) (sym (ap (λ (x : ℕ). get_or new x []) spare ∙ clears.words_are (places_of l)
                ∙ ap (λ (x : Bool). cond x [] (get_or words (places_of l) [])) (eq-eqb (places_of l) (places_of l) refl))) (omega arith)
            | inr other ↦ subst (λ (xs : List ℕ). RiseWithin 1 xs (suc i)) (sym (row_is r other)) (s.rising r)
          ];
          words_are =
              subst (λ (m : ℕ). AreWords l i (seen_to known i (suc q)) m (word_in new)) (sym long)
              (subst (λ (f : ℕ → ℕ → Bool). AreWords l i (seen_to known i (suc q)) (length words) f) (sym (same_rows (word_in new) (without_row (word_in words) (places_of l)) new_without))
              (ends_word l i (seen_to known i q) (seen_to known i (suc q)) (length words) (word_in words) b (places_of l) at.block
              (sees_block l known i q place b at is_known) (let h = s.rows in omega arith)
              (sym (s.heads_are.live b (own_live l known i q place b at) (places_of l) (omega arith)) ∙ ap (head_in heads (places_of l)) (sym at.strand) ∙ has)
              others_lack s.words_are));
          heads_are = heads-clear l known i q place b at (suc (places_of l)) (word_in new) (head_in headed) clear_then heads_then;
          ends = s.ends;
          closed = subst (λ (m : ℕ). AreClosed l known i (suc q) (suc (places_of l)) m (word_in new) s.ends) (sym long)
              (closed-more l known i q place b at (suc (places_of l)) (length words) (word_in new) s.ends closed_then);
        };
        pivots = record {
          alone = λ t r t_less r_less apart own.
              head_is r t (λ h. omega arith) ∙ pivots.alone t r t_less r_less apart (sym (head_is t t (λ h. omega arith)) ∙ own);
          empty = λ t n t_less none.
              ap (λ (xs : List ℕ). has_odd xs n) (row_is t (λ h. omega arith)) ∙ pivots.empty t n t_less (sym (head_is t t (λ h. omega arith)) ∙ none);
        };
        spare = at_spare;
      }

-- a word in a slot has the known parity: it goes to the spare place, is added to the others that have it, and goes
pub meet_some : (l : Lattice) (known : BlockId → Bool) (i q place : ℕ) (b : BlockId) → IsAt l i q place b → known b ≡ true → (r : ℕ) → r < places_of l
    → (words lifted mid new : List (List ℕ)) (heads lift_heads mid_heads headed : List Heads) → head_in heads r place ≡ true
    → Exchanges (places_of l) r words lifted heads lift_heads
    → AddsRow (places_of l) (λ k. nat_lt k (places_of l) && head_in lift_heads k place) lifted mid lift_heads mid_heads
    → Clears (places_of l) mid new mid_heads headed
    → AreSwept l known i q words heads → AreSwept l known i (suc q) new headed
meet_some l known i q place b at is_known r less words lifted mid new heads lift_heads mid_heads headed has moves adds clears s =
    let in_t = fits l known i q place b at in
    let o = lift-open l known i q r words lifted heads lift_heads less moves s in
    let p = lift-pivots l known i q r words lifted heads lift_heads less moves s in
    let f = lift-free l known i q r words lifted heads lift_heads less moves s in
    let own = row_spare l known i q r words lifted heads lift_heads less moves s place ∙ has in
    meet_one l known i q place b at is_known mid new mid_heads headed
    (spread-open l known i q place lifted mid lift_heads mid_heads in_t adds o p f)
    (spread-pivots l known i q place lifted mid lift_heads mid_heads in_t adds o p f)
    (spread-clears l known i q place lifted mid lift_heads mid_heads in_t adds o p f own)
    (spread-spare l known i q place lifted mid lift_heads mid_heads in_t adds o p f place in_t ∙ own)
    clears

-- the strand of a parity that is not known ends there, and no slot has the head as its own
module _ (l : Lattice) (known : BlockId → Bool) (i q place : ℕ) (b : BlockId) (at : IsAt l i q place b) (unknown : known b ≡ false)
    (ended : IsNext l b.class b.node None) (words : List (List ℕ)) (heads headed : List Heads) (s : AreOpen l known i q words heads)
    (pivots : ArePivots (places_of l) (word_in words) (head_in heads)) (less : place < places_of l) (none : head_in heads place place ≡ false)
    (forgets : Forgets place heads headed) where
  pub forget-open : AreOpen l known i (suc q) words headed
  forget-open = record {
    slots = forgets.long ∙ s.slots;
    rows = s.rows;
    rising = s.rising;
    words_are = subst (λ (f : BlockId → Bool). AreWords l i f (length words) (word_in words)) (sees_nothing l known i q place b at unknown) s.words_are;
    heads_are = heads-forgot l known i q place b at (suc (places_of l)) (word_in words) (head_in heads) (head_in headed) ended (λ r t in_r in_t. forgets.heads_are r t in_t) s.heads_are;
    ends = s.ends;
    closed = closed-more l known i q place b at (suc (places_of l)) (length words) (word_in words) s.ends s.closed;
  }

  at_place : (r : ℕ) → head_in headed r place ≡ false
  at_place r =
      forgets.heads_are r place (fits l known i q place b at) ∙ ap (λ x. head_in heads r place && not x) (eq-eqb place place refl) ∙ and-false (head_in heads r place)
    where
      and-false : (x : Bool) → (x && false) ≡ false
      and-false true = refl
      and-false false = refl

  at_other : (r t : ℕ) → t < 192 → t ≢ place → head_in headed r t ≡ head_in heads r t
  at_other r t in_t other =
      forgets.heads_are r t in_t ∙ ap (λ x. head_in heads r t && not x) (ne_eqb t place other) ∙ and-true (head_in heads r t)
    where
      and-true : (x : Bool) → (x && true) ≡ x
      and-true true = refl
      and-true false = refl

  pub forget-pivots : ArePivots (places_of l) (word_in words) (head_in headed)
  forget-pivots = record {
    alone = λ t r t_less r_less apart own. elim (cases_eq t place) [
      | inl here ↦ ap (head_in headed r) here ∙ at_place r
      | inr other ↦
          (let in_t : t < 192 = (let f = few_places l in omega arith) in
          at_other r t in_t other ∙ pivots.alone t r t_less r_less apart (sym (at_other t t in_t other) ∙ own))
    ];
    empty = λ t n t_less lacks. elim (cases_eq t place) [
      | inl here ↦ pivots.empty t n t_less (ap (λ (x : ℕ). head_in heads x x) here ∙ none)
      | inr other ↦
          (let in_t : t < 192 = (let f = few_places l in omega arith) in
          pivots.empty t n t_less (sym (at_other t t in_t other) ∙ lacks))
    ];
  }

pub end_none : (l : Lattice) (known : BlockId → Bool) (i q place : ℕ) (b : BlockId) → IsAt l i q place b → known b ≡ false → IsNext l b.class b.node None
    → (words : List (List ℕ)) (heads headed : List Heads) → place < places_of l → head_in heads place place ≡ false → Forgets place heads headed
    → AreSwept l known i q words heads → AreSwept l known i (suc q) words headed
end_none l known i q place b at unknown ended words heads headed less none forgets s = record {
  are_open = forget-open l known i q place b at unknown ended words heads headed s.are_open s.pivots less none forgets;
  pivots = forget-pivots l known i q place b at unknown ended words heads headed s.are_open s.pivots less none forgets;
  spare = s.spare;
}

-- the word of a slot has the head of its slot, whose strand ends: it goes to the spare place
pub end_some : (l : Lattice) (known : BlockId → Bool) (i q place : ℕ) (b : BlockId) → IsAt l i q place b → known b ≡ false → IsNext l b.class b.node None
    → (words lifted : List (List ℕ)) (heads lift_heads headed : List Heads) → place < places_of l → head_in heads place place ≡ true
    → Exchanges (places_of l) place words lifted heads lift_heads → Forgets place lift_heads headed
    → AreSwept l known i q words heads → IsCleanTo l known i (suc q) b 0 lifted headed
end_some l known i q place b at unknown ended words lifted heads lift_heads headed less has moves forgets s =
    let in_t = fits l known i q place b at in
    let o = lift-open l known i q place words lifted heads lift_heads less moves s in
    let p = lift-pivots l known i q place words lifted heads lift_heads less moves s in
    let none = row_b l known i q place words lifted heads lift_heads less moves s place in_t in
    let live = own_live l known i q place b at in
    record {
      are_open = forget-open l known i q place b at unknown ended lifted lift_heads headed o p less none forgets;
      pivots = forget-pivots l known i q place b at unknown ended lifted lift_heads headed o p less none forgets;
      own = record {
        block = at.block;
        contains =
            sym (o.heads_are.live b live (places_of l) (omega arith)) ∙ ap (head_in lift_heads (places_of l)) (sym at.strand)
            ∙ row_spare l known i q place words lifted heads lift_heads less moves s place ∙ has;
        alone = λ r inside other. elim (cases_lt r (suc (places_of l))) [
          | inl slot ↦
              sym (o.heads_are.live b live r slot) ∙ ap (head_in lift_heads r) (sym at.strand)
              ∙ elim (cases_eq r place) [
                | inl here ↦ ap (λ (x : ℕ). head_in lift_heads x place) here ∙ none
                | inr apart ↦
                    row_other l known i q place words lifted heads lift_heads less moves s r place (omega arith) apart
                    ∙ s.pivots.alone place r less (omega arith) apart has
              ]
          | inr past ↦ closed_lacks l known i q (suc (places_of l)) (length lifted) (word_in lifted) o.ends b at.block at.node at.class o.closed r past inside
        ];
      };
      free = λ k k_less own. absurd (omega arith);
    }

-- a parity that is not known, and after which the strand goes on
pub pass_on : (l : Lattice) (known : BlockId → Bool) (i q place j : ℕ) (b : BlockId) → IsAt l i q place b → known b ≡ false → i < j → j ≤ l.n → previous l b.class j ≡ Some b.node
    → (words : List (List ℕ)) (heads : List Heads) → AreSwept l known i q words heads → AreSwept l known i (suc q) words heads
pass_on l known i q place j b at unknown later last was words heads s = record {
  are_open = record {
    slots = s.are_open.slots;
    rows = s.are_open.rows;
    rising = s.are_open.rising;
    words_are = subst (λ (f : BlockId → Bool). AreWords l i f (length words) (word_in words)) (sees_nothing l known i q place b at unknown) s.are_open.words_are;
    heads_are = heads-on l known i q place b at j (suc (places_of l)) (word_in words) (head_in heads) later last was s.are_open.heads_are;
    ends = s.are_open.ends;
    closed = closed-more l known i q place b at (suc (places_of l)) (length words) (word_in words) s.are_open.ends s.are_open.closed;
  };
  pivots = s.pivots;
  spare = s.spare;
}
