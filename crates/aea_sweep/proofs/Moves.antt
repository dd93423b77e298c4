-- Words that change places.
use Rattle.std.proofs.Common.{◌≡◌, ◌≢◌, ℕ, suc, ◌<◌, ◌≤◌, inl, inr, Bool, true, false, cond, ◌&&◌, ◌==◌, List, length, refl, sym, ◌∙◌, ap, subst, arith}
use Rattle.std.specs.Prelude.{nat_lt}
use Rattle.std.proofs.lemmas.Bool.{cases_Bool, cases_eq, cases_lt, eq-eqb, ne_eqb, true≢false}
use Rattle.std.proofs.lemmas.Bool.Decides.{nat_tests}
use Rattle.aea_lattice.specs.declared.blocks.BlockId.{BlockId}
use Rattle.aea_lattice.specs.declared.grid.Lattice.{Lattice}
use Rattle.aea_lattice.specs.Equations.{is_in_codeword}
use Rattle.aea_lattice.specs.LeastWord.{IsEndOf}
use Rattle.aea_lattice.specs.Parity.{differ}
use Rattle.aea_lattice.proofs.Odd.{differ-false_r}
use Rattle.aea_sweep.specs.declared.heads.Heads.{Heads}
use Rattle.aea_sweep.specs.Heads.{head_in}
use Rattle.aea_sweep.specs.Words.{RiseWithin, has_odd, word_in}
use Rattle.aea_sweep.specs.Tables.{AddsRow, partner, Exchanges}
use Rattle.aea_sweep.specs.Sweep.{AreWords}
use Rattle.aea_sweep.proofs.StepLaws.{moved}
use Rattle.aea_sweep.specs.States.{places_of, place_at, seen_to, AreHeads, AreOpen, ArePivots, IsFreeBelow, AreSwept}
use Rattle.aea_sweep.proofs.Codes.{codeword-none}
use Rattle.aea_sweep.proofs.Moving.{moves_word}
use Rattle.aea_sweep.proofs.States.{adds-open, same_rows, same_words, few_places}

-- the codeword of a word without nodes contains no block
pub codeword-empty : (l : Lattice) (word : ℕ → Bool) → ((n : ℕ) → word n ≡ false) → (b : BlockId) → is_in_codeword l word b ≡ false
codeword-empty l word none b = ap (λ (w : ℕ → Bool). is_in_codeword l w b) (same_words word (λ n. false) none) ∙ codeword-none l b

-- a word without nodes has no heads
pub empty-heads : (l : Lattice) (i q slots : ℕ) (words heads : ℕ → ℕ → Bool) → AreHeads l i q slots words heads → (r : ℕ) → r < slots → ((n : ℕ) → words r n ≡ false)
    → (t : ℕ) → t < 192 → heads r t ≡ false
empty-heads l i q slots words heads are r inside none t fits = elim (cases_Bool (heads r t)) [
  | inl has ↦
      (let b = are.only r t inside fits has in
      absurd (true≢false (sym has ∙ ap (heads r) (sym b.2) ∙ are.live b.0 b.1 r inside ∙ codeword-empty l (words r) none b.0)))
  | inr lacks ↦ lacks
]

partner-first : (a b : ℕ) → partner a b a ≡ b
partner-first a b = ap (λ x. cond x b (cond (a == b) a a)) (eq-eqb a a refl)

partner-second : (a b : ℕ) → a ≢ b → partner a b b ≡ a
partner-second a b other = ap (λ x. cond x b (cond (b == b) a b)) (ne_eqb b a (λ e. other (sym e))) ∙ ap (λ x. cond x a b) (eq-eqb b b refl)

partner-other : (a b r : ℕ) → r ≢ a → r ≢ b → partner a b r ≡ r
partner-other a b r first second = ap (λ x. cond x b (cond (r == b) a r)) (ne_eqb r a first) ∙ ap (λ x. cond x a r) (ne_eqb r b second)

-- two rows change places, of which the first has no nodes
module _ (l : Lattice) (known : BlockId → Bool) (i q a b : ℕ) (words new : List (List ℕ)) (heads headed : List Heads)
    (a_less : a < suc (places_of l)) (b_less : b < suc (places_of l)) (other : a ≢ b) (none : (n : ℕ) → word_in words a n ≡ false)
    (moves : Exchanges a b words new heads headed) (s : AreOpen l known i q words heads) where
  pub word_is : (r : ℕ) → word_in new r ≡ word_in words (partner a b r)
  word_is r = ap has_odd (moves.words_are r)

  inside : (r : ℕ) → r < suc (places_of l) → partner a b r < suc (places_of l)
  inside r less = elim (cases_eq r a) [
    | inl e ↦ subst (λ (x : ℕ). partner a b x < suc (places_of l)) (sym e) (subst (λ (x : ℕ). x < suc (places_of l)) (sym (partner-first a b)) b_less)
    | inr first ↦ elim (cases_eq r b) [
      | inl e ↦ subst (λ (x : ℕ). partner a b x < suc (places_of l)) (sym e) (subst (λ (x : ℕ). x < suc (places_of l)) (sym (partner-second a b other)) a_less)
      | inr second ↦ subst (λ (x : ℕ). x < suc (places_of l)) (sym (partner-other a b r first second)) less
    ]
  ]

  past_is : (r : ℕ) → suc (places_of l) ≤ r → partner a b r ≡ r
  past_is r past = partner-other a b r (λ e. omega arith) (λ e. omega arith)

  are_moved : (r n : ℕ) → word_in new r n ≡ moved (word_in words) b a r n
  are_moved r n = elim (cases_eq r a) [
    | inl e ↦
        subst (λ (x : ℕ). word_in new x n ≡ moved (word_in words) b a x n) (sym e)
        (ap (λ (f : ℕ → Bool). f n) (word_is a) ∙ ap (λ (x : ℕ). word_in words x n) (partner-first a b)
        ∙ sym (ap (λ x. cond x (word_in words b n) (cond (a == b) false (word_in words a n))) (eq-eqb a a refl)))
    | inr first ↦ elim (cases_eq r b) [
      | inl e ↦
          subst (λ (x : ℕ). word_in new x n ≡ moved (word_in words) b a x n) (sym e)
          (ap (λ (f : ℕ → Bool). f n) (word_is b) ∙ ap (λ (x : ℕ). word_in words x n) (partner-second a b other) ∙ none n
          ∙ sym (ap (λ x. cond x (word_in words b n) (cond (b == b) false (word_in words b n))) (ne_eqb b a (λ h. other (sym h)))
          ∙ ap (λ x. cond x false (word_in words b n)) (eq-eqb b b refl)))
      | inr second ↦
          ap (λ (f : ℕ → Bool). f n) (word_is r) ∙ ap (λ (x : ℕ). word_in words x n) (partner-other a b r first second)
          ∙ sym (ap (λ x. cond x (word_in words b n) (cond (r == b) false (word_in words r n))) (ne_eqb r a first)
          ∙ ap (λ x. cond x false (word_in words r n)) (ne_eqb r b second))
    ]
  ]

  pub exchange-open : AreOpen l known i q new headed
  exchange-open =
      let long = moves.size.words_long in
      record {
        slots = moves.size.heads_long ∙ s.slots;
        rows = (let h = s.rows in omega arith);
        rising = λ r. subst (λ (xs : List ℕ). RiseWithin 1 xs (suc i)) (sym (moves.words_are r)) (s.rising (partner a b r));
        words_are =
            subst (λ (f : ℕ → ℕ → Bool). AreWords l i (seen_to known i q) (length new) f) (sym (same_rows (word_in new) (moved (word_in words) b a) are_moved))
            (subst (λ (m : ℕ). AreWords l i (seen_to known i q) m (moved (word_in words) b a)) (sym long)
            (moves_word l i (seen_to known i q) (length words) (word_in words) a b (let h = s.rows in omega arith) (let h = s.rows in omega arith) other none s.words_are));
        heads_are = record {
          live = λ d live r less.
              moves.heads_are r (place_at l d) ∙ s.heads_are.live d live (partner a b r) (inside r less)
              ∙ sym (ap (λ (f : ℕ → Bool). is_in_codeword l f d) (word_is r));
          only = λ r t less fits has. s.heads_are.only (partner a b r) t (inside r less) fits (sym (moves.heads_are r t) ∙ has);
        };
        ends = s.ends;
        closed = record {
          end = λ r past less.
              subst (λ (f : ℕ → Bool). IsEndOf l known f (s.ends r)) (sym (word_is r ∙ ap (word_in words) (past_is r past))) (s.closed.end r past (omega arith));
          passed = λ r past less. s.closed.passed r past (omega arith);
          alone = λ r k past less k_less different.
              ap (λ (f : ℕ → Bool). is_in_codeword l f (s.ends r)) (word_is k)
              ∙ elim (cases_lt k (suc (places_of l))) [
                | inl slot ↦
                    (let in_slots = inside k slot in
                    s.closed.alone r (partner a b k) past (omega arith) (let h = s.rows in omega arith) (λ e. omega arith))
                | inr beyond ↦
                    ap (λ (x : ℕ). is_in_codeword l (word_in words x) (s.ends r)) (past_is k beyond)
                    ∙ s.closed.alone r k past (omega arith) (omega arith) different
              ];
          rise = λ r k past less k_less. s.closed.rise r k past less (omega arith);
        };
      }

-- a word of a slot goes to the spare place, which has none: the slots keep their own heads, and the spare word has none of these
module _ (l : Lattice) (known : BlockId → Bool) (i q b : ℕ) (words new : List (List ℕ)) (heads headed : List Heads)
    (b_less : b < places_of l) (moves : Exchanges (places_of l) b words new heads headed) (s : AreSwept l known i q words heads) where
  apart : places_of l ≢ b
  apart e = omega arith

  none_spare : (t : ℕ) → t < 192 → head_in heads (places_of l) t ≡ false
  none_spare t fits = empty-heads l i q (suc (places_of l)) (word_in words) (head_in heads) s.are_open.heads_are (places_of l) (omega arith) s.spare t fits

  pub row_b : (t : ℕ) → t < 192 → head_in headed b t ≡ false
  row_b t fits = moves.heads_are b t ∙ ap (λ (x : ℕ). head_in heads x t) (partner-second (places_of l) b apart) ∙ none_spare t fits

  pub row_other : (r t : ℕ) → r < places_of l → r ≢ b → head_in headed r t ≡ head_in heads r t
  row_other r t less other = moves.heads_are r t ∙ ap (λ (x : ℕ). head_in heads x t) (partner-other (places_of l) b r (λ e. omega arith) other)

  pub row_spare : (t : ℕ) → head_in headed (places_of l) t ≡ head_in heads b t
  row_spare t = moves.heads_are (places_of l) t ∙ ap (λ (x : ℕ). head_in heads x t) (partner-first (places_of l) b)

  pub lift-open : AreOpen l known i q new headed
  lift-open = exchange-open l known i q (places_of l) b words new heads headed (omega arith) (omega arith) apart s.spare moves s.are_open

  pub lift-pivots : ArePivots (places_of l) (word_in new) (head_in headed)
  lift-pivots = record {
    alone = λ t r t_less r_less other has. elim (cases_eq t b) [
      | inl e ↦ absurd (true≢false (sym has ∙ ap (λ (x : ℕ). head_in headed x t) e ∙ row_b t (let f = few_places l in omega arith)))
      | inr t_other ↦ elim (cases_eq r b) [
        | inl e ↦ ap (λ (x : ℕ). head_in headed x t) e ∙ row_b t (let f = few_places l in omega arith)
        | inr r_other ↦ row_other r t r_less r_other ∙ s.pivots.alone t r t_less r_less other (sym (row_other t t t_less t_other) ∙ has)
      ]
    ];
    empty = λ t n t_less no. elim (cases_eq t b) [
      | inl e ↦
          ap (λ (x : ℕ). word_in new x n) e ∙ ap (λ (xs : List ℕ). has_odd xs n) (moves.words_are b)
          ∙ ap (λ (x : ℕ). word_in words x n) (partner-second (places_of l) b apart) ∙ s.spare n
      | inr other ↦
          ap (λ (xs : List ℕ). has_odd xs n) (moves.words_are t)
          ∙ ap (λ (x : ℕ). word_in words x n) (partner-other (places_of l) b t (λ e. omega arith) other)
          ∙ s.pivots.empty t n t_less (sym (row_other t t t_less other) ∙ no)
    ];
  }

  pub lift-free : IsFreeBelow (places_of l) (places_of l) (head_in headed)
  lift-free k less has = elim (cases_eq k b) [
    | inl e ↦ absurd (true≢false (sym has ∙ ap (λ (x : ℕ). head_in headed x k) e ∙ row_b k (let f = few_places l in omega arith)))
    | inr other ↦
        row_spare k ∙ s.pivots.alone k b less b_less (λ e. other (sym e)) (sym (row_other k k less other) ∙ has)
  ]

-- the spare word is added to each slot's that has a head at a place
module _ (l : Lattice) (known : BlockId → Bool) (i q place : ℕ) (words new : List (List ℕ)) (heads headed : List Heads)
    (fits : place < 192)
    (adds : AddsRow (places_of l) (λ r. nat_lt r (places_of l) && head_in heads r place) words new heads headed)
    (s : AreOpen l known i q words heads) (pivots : ArePivots (places_of l) (word_in words) (head_in heads))
    (free : IsFreeBelow (places_of l) (places_of l) (head_in heads)) where
  hit : ℕ → Bool
  hit r = nat_lt r (places_of l) && head_in heads r place

  past_out : (r : ℕ) → places_of l ≤ r → (nat_lt r (places_of l) && head_in heads r place) ≡ false
  past_out r past = ap (λ b. b && head_in heads r place) (not_less r (places_of l) past)
    where
      not_less : (r m : ℕ) → m ≤ r → nat_lt r m ≡ false
      not_less r m le = grind (arith, nat_tests)

  slot_in : (r : ℕ) → r < places_of l → (nat_lt r (places_of l) && head_in heads r place) ≡ head_in heads r place
  slot_in r less = ap (λ b. b && head_in heads r place) (is_less r (places_of l) less)
    where
      is_less : (r m : ℕ) → r < m → nat_lt r m ≡ true
      is_less r m less = grind (arith, nat_tests)

  pub spread-open : AreOpen l known i q new headed
  spread-open =
      adds-open l known i q (places_of l) (λ r. nat_lt r (places_of l) && head_in heads r place) words new heads headed (omega arith)
      (past_out (places_of l) (omega arith)) (λ r past. past_out r (omega arith)) adds s

  head_then : (r t : ℕ) → r < places_of l → t < 192 → head_in headed r t ≡ differ (head_in heads r t) (head_in heads r place && head_in heads (places_of l) t)
  head_then r t less in_t =
      adds.heads_are r t in_t ∙ ap (λ b. differ (head_in heads r t) (b && head_in heads (places_of l) t)) (slot_in r less)

  and-false : (b : Bool) → (b && false) ≡ false
  and-false true = refl
  and-false false = refl

  -- where the spare word lacks a head, that head stays as it was
  stays : (r t : ℕ) → r < places_of l → t < 192 → head_in heads (places_of l) t ≡ false → head_in headed r t ≡ head_in heads r t
  stays r t less in_t lacks =
      head_then r t less in_t ∙ ap (λ b. differ (head_in heads r t) (head_in heads r place && b)) lacks
      ∙ ap (differ (head_in heads r t)) (and-false (head_in heads r place)) ∙ differ-false_r (head_in heads r t)

  -- a slot without nodes gets none
  pub spread-empty : (k : ℕ) → k < places_of l → head_in heads k k ≡ false → (t : ℕ) → t < 192 → head_in headed k t ≡ false
  spread-empty k less lacks t in_t =
      let none = empty-heads l i q (suc (places_of l)) (word_in words) (head_in heads) s.heads_are k (omega arith) (λ n. pivots.empty k n less lacks) in
      head_then k t less in_t
      ∙ ap (λ b. differ b (head_in heads k place && head_in heads (places_of l) t)) (none t in_t)
      ∙ ap (λ b. b && head_in heads (places_of l) t) (none place fits)

  -- the slots that have their own heads are those that had them
  pub spread-own : (k : ℕ) → k < places_of l → head_in headed k k ≡ true → head_in heads k k ≡ true
  spread-own k less has = elim (cases_Bool (head_in heads k k)) [
    | inl yes' ↦ yes'
    | inr lacks ↦ absurd (true≢false (sym has ∙ spread-empty k less lacks k (let f = few_places l in omega arith)))
  ]

  pub spread-spare : (t : ℕ) → t < 192 → head_in headed (places_of l) t ≡ head_in heads (places_of l) t
  spread-spare t in_t =
      adds.heads_are (places_of l) t in_t
      ∙ ap (λ b. differ (head_in heads (places_of l) t) (b && head_in heads (places_of l) t)) (past_out (places_of l) (omega arith))
      ∙ differ-false_r (head_in heads (places_of l) t)

  pub spread-pivots : ArePivots (places_of l) (word_in new) (head_in headed)
  spread-pivots = record {
    alone = λ k r k_less r_less other has.
        let own = spread-own k k_less has in
        stays r k r_less (let f = few_places l in omega arith) (free k k_less own) ∙ pivots.alone k r k_less r_less other own;
    empty = λ k n k_less no. elim (cases_Bool (head_in heads k k)) [
      | inl own ↦
          absurd (true≢false (sym own ∙ sym (stays k k k_less (let f = few_places l in omega arith) (free k k_less own)) ∙ no))
      | inr lacks ↦
          (let none = empty-heads l i q (suc (places_of l)) (word_in words) (head_in heads) s.heads_are k (omega arith) (λ m. pivots.empty k m k_less lacks) in
          adds.words_are k n
          ∙ ap (λ b. differ (word_in words k n) ((nat_lt k (places_of l) && b) && word_in words (places_of l) n)) (none place fits)
          ∙ ap (λ b. differ (word_in words k n) (b && word_in words (places_of l) n)) (and-false (nat_lt k (places_of l)))
          ∙ differ-false_r (word_in words k n) ∙ pivots.empty k n k_less lacks)
    ];
  }

  pub spread-free : IsFreeBelow (places_of l) (places_of l) (head_in headed)
  spread-free k less has = spread-spare k (let f = few_places l in omega arith) ∙ free k less (spread-own k less has)

  pub spread-clears : head_in heads (places_of l) place ≡ true → (r : ℕ) → r < places_of l → head_in headed r place ≡ false
  spread-clears has r less =
      head_then r place less fits ∙ ap (λ b. differ (head_in heads r place) (head_in heads r place && b)) has ∙ twice (head_in heads r place)
    where
      twice : (b : Bool) → differ b (b && true) ≡ false
      twice true = refl
      twice false = refl

-- the spare word goes to a slot at whose place no other word has a head
module _ (l : Lattice) (known : BlockId → Bool) (i q u : ℕ) (words new : List (List ℕ)) (heads headed : List Heads)
    (u_less : u < places_of l) (moves : Exchanges u (places_of l) words new heads headed)
    (s : AreOpen l known i q words heads) (pivots : ArePivots (places_of l) (word_in words) (head_in heads))
    (free : IsFreeBelow (places_of l) (places_of l) (head_in heads)) (has : head_in heads (places_of l) u ≡ true)
    (clear : (r : ℕ) → r < places_of l → head_in heads r u ≡ false) where
  put_none : (n : ℕ) → word_in words u n ≡ false
  put_none n = pivots.empty u n u_less (clear u u_less)

  put_apart : u ≢ places_of l
  put_apart e = omega arith

  put_u : (t : ℕ) → head_in headed u t ≡ head_in heads (places_of l) t
  put_u t = moves.heads_are u t ∙ ap (λ (x : ℕ). head_in heads x t) (partner-first u (places_of l))

  put_other : (r t : ℕ) → r < places_of l → r ≢ u → head_in headed r t ≡ head_in heads r t
  put_other r t less other = moves.heads_are r t ∙ ap (λ (x : ℕ). head_in heads x t) (partner-other u (places_of l) r other (λ e. omega arith))

  pub put-swept : AreSwept l known i q new headed
  put-swept = record {
    are_open = exchange-open l known i q u (places_of l) words new heads headed (omega arith) (omega arith) put_apart put_none moves s;
    pivots = record {
      alone = λ t r t_less r_less other own. elim (cases_eq t u) [
        | inl e ↦
            (let r_other : r ≢ u = λ h. other (h ∙ sym e) in
            put_other r t r_less r_other ∙ ap (head_in heads r) e ∙ clear r r_less)
        | inr t_other ↦
            (let own_then = sym (put_other t t t_less t_other) ∙ own in
            elim (cases_eq r u) [
              | inl e ↦ ap (λ (x : ℕ). head_in headed x t) e ∙ put_u t ∙ free t t_less own_then
              | inr r_other ↦ put_other r t r_less r_other ∙ pivots.alone t r t_less r_less other own_then
            ])
      ];
      empty = λ t n t_less no. elim (cases_eq t u) [
        | inl e ↦ absurd (true≢false (sym has ∙ sym (put_u u) ∙ ap (λ (x : ℕ). head_in headed x x) (sym e) ∙ no))
        | inr t_other ↦
            ap (λ (xs : List ℕ). has_odd xs n) (moves.words_are t)
            ∙ ap (λ (x : ℕ). word_in words x n) (partner-other u (places_of l) t t_other (λ e. omega arith))
            ∙ pivots.empty t n t_less (sym (put_other t t t_less t_other) ∙ no)
      ];
    };
    spare = λ n.
        ap (λ (xs : List ℕ). has_odd xs n) (moves.words_are (places_of l))
        ∙ ap (λ (x : ℕ). word_in words x n) (partner-second u (places_of l) put_apart) ∙ put_none n;
  }
