-- What the pass has gone over, and words without heads.
use Rattle.std.proofs.Common.{◌≡◌, ◌≢◌, ◌⊎◌, ℕ, zero, suc, ◌+◌, ◌-◌, ◌*◌, ◌<◌, ◌≤◌, inl, inr, Bool, true, false, cond, ◌&&◌, ◌||◌, ◌==◌, List, [], ◌∷◌, length, get_or, Option, Some, None, refl, sym, ◌∙◌, ap, subst, arith}
use Rattle.std.specs.Prelude.{nat_lt, nat_le}
use Rattle.std.proofs.lemmas.Bool.{cases_eq, cases_lt, eq-eqb, ne_eqb, true≢false, le-leb}
use Rattle.std.proofs.lemmas.Bool.Decides.{nat_tests}
use Rattle.std.proofs.Math.Nat.{mul-le-mul_right}
use Rattle.std.proofs.Math.ListN.{get_or-eq_default}
use Rattle.aea_lattice.specs.declared.blocks.Class.{Class}
use Rattle.aea_lattice.specs.declared.blocks.Class.TheVariants.{Datum, Horiz, Right, Left}
use Rattle.aea_lattice.specs.declared.blocks.BlockId.{BlockId}
use Rattle.aea_lattice.specs.declared.grid.Lattice.{Lattice}
use Rattle.aea_lattice.specs.Blocks.{HasBlock, block_of, class_number, number_of}
use Rattle.aea_lattice.specs.Strands.{previous}
use Rattle.aea_lattice.specs.Equations.{codeword_at, is_in_codeword}
use Rattle.aea_lattice.specs.LeastWord.{IsEndOf}
use Rattle.aea_lattice.specs.Parity.{differ}
use Rattle.aea_lattice.proofs.Equations.{number_equal}
use Rattle.aea_lattice.proofs.Codewords.{codeword-after, codeword-begin}
use Rattle.aea_lattice.proofs.Strands.{IsJustBefore, IsJustBefore-neighbour}
use Rattle.aea_lattice.specs.Neighbours.{neighbour}
use Rattle.aea_lattice.proofs.Runs.{previous-neighbour, joined_is}
use Rattle.aea_sweep.specs.declared.heads.Heads.{Heads}
use Rattle.aea_sweep.specs.Heads.{head_in}
use Rattle.aea_sweep.specs.Words.{RiseWithin, has_odd, word_in}
use Rattle.aea_sweep.specs.Tables.{Closes}
use Rattle.aea_sweep.specs.Sweep.{AreWords}
use Rattle.aea_sweep.proofs.StepLaws.{moved}
use Rattle.aea_sweep.specs.States.{places_of, place_at, IsPassed, is_passed, seen_to, IsLive, AreHeads, AreClosed, AreOpen, ArePivots, AreSwept, IsOwn}
use Rattle.aea_sweep.proofs.Moving.{moves_word, empty_matters}
use Rattle.aea_sweep.proofs.States.{same_rows, place_few}
use Rattle.aea_sweep.proofs.Moves.{codeword-empty}

pub just_before : (l : Lattice) (c : Class) (j g : ℕ) → previous l c j ≡ Some g → IsJustBefore l c g j
just_before l c j g was = IsJustBefore-neighbour l c j g (joined_is l j g (neighbour l c j) (sym (previous-neighbour l c j) ∙ was)).0

-- blocks of earlier nodes have lower numbers
pub number_before : (l : Lattice) (b d : BlockId) → HasBlock l b → HasBlock l d → b.node < d.node → number_of l b < number_of l d
number_before l b d hb hd less =
    let first = hb.first in
    let used = hb.used in
    let m : ((b.node - 1) + 1) * (1 + l.alpha) ≤ (d.node - 1) * (1 + l.alpha) = (let s : (b.node - 1) + 1 ≤ d.node - 1 = omega arith in mul-le-mul_right (1 + l.alpha) s) in
    omega arith

-- and of one node those of lower classes
pub number_within : (l : Lattice) (b d : BlockId) → b.node ≡ d.node → class_number b.class ≤ class_number d.class → number_of l b ≤ number_of l d
number_within l b d same le =
    let e : (b.node - 1) * (1 + l.alpha) ≡ (d.node - 1) * (1 + l.alpha) = ap (λ (n : ℕ). (n - 1) * (1 + l.alpha)) same in
    omega arith

-- what was passed has no higher number than the block to which the pass has come
pub passed_number : (l : Lattice) (i q : ℕ) (d e : BlockId) → HasBlock l d → HasBlock l e → e.node ≡ i → class_number e.class ≡ q → IsPassed i q d → number_of l d ≤ number_of l e
passed_number l i q d e hd he node class (inl before) = let h = number_before l d e hd he (omega arith) in omega arith
passed_number l i q d e hd he node class (inr here) = number_within l d e (here.0 ∙ sym node) (let h = here.1 in omega arith)

pub passed_or_not : (i q : ℕ) (d : BlockId) → IsPassed i q d ⊎ ((i < d.node) ⊎ ((d.node ≡ i) × (q < class_number d.class)))
passed_or_not i q d = elim (cases_lt d.node i) [
  | inl before ↦ inl (inl before)
  | inr from ↦ elim (cases_eq d.node i) [
    | inl here ↦ elim (cases_lt q (class_number d.class)) [
      | inl later ↦ inr (inr (here, later))
      | inr done ↦ inl (inr (here, done))
    ]
    | inr other ↦ inr (inl (omega arith))
  ]
]

or-true : (a : Bool) → (a || true) ≡ true
or-true true = refl
or-true false = refl

pub passed_true : (i q : ℕ) (d : BlockId) → IsPassed i q d → is_passed i q d ≡ true
passed_true i q d (inl before) = let e : nat_lt d.node i ≡ true = grind (arith, nat_tests) in ap (λ b. b || (d.node == i && nat_le (class_number d.class) q)) e
passed_true i q d (inr here) =
    ap (λ b. nat_lt d.node i || (b && nat_le (class_number d.class) q)) (eq-eqb d.node i here.0)
    ∙ ap (λ b. nat_lt d.node i || b) (le-leb (class_number d.class) q here.1)
    ∙ or-true (nat_lt d.node i)

pub not_passed : (i q : ℕ) (d : BlockId) → (i < d.node) ⊎ ((d.node ≡ i) × (q < class_number d.class)) → is_passed i q d ≡ false
not_passed i q d (inl later) =
    let e : nat_lt d.node i ≡ false = grind (arith, nat_tests) in
    let n : d.node ≢ i = omega arith in
    ap (λ b. b || (d.node == i && nat_le (class_number d.class) q)) e ∙ ap (λ b. b && nat_le (class_number d.class) q) (ne_eqb d.node i n)
not_passed i q d (inr here) =
    let node = here.0 in
    let later = here.1 in
    let e : nat_lt d.node i ≡ false = grind (arith, nat_tests) in
    let f : nat_le (class_number d.class) q ≡ false = grind (arith, nat_tests) in
    ap (λ b. b || (d.node == i && nat_le (class_number d.class) q)) e ∙ ap (λ b. d.node == i && b) f ∙ and-false (d.node == i)
  where
    and-false : (a : Bool) → (a && false) ≡ false
    and-false true = refl
    and-false false = refl

pub true_passed : (i q : ℕ) (d : BlockId) → is_passed i q d ≡ true → IsPassed i q d
true_passed i q d is = elim (passed_or_not i q d) [
  | inl done ↦ done
  | inr open' ↦ absurd (true≢false (sym is ∙ not_passed i q d open'))
]

-- a word without heads, of nodes that were passed, has no block over which the pass has not gone
module _ (l : Lattice) (i q slots : ℕ) (words heads : ℕ → ℕ → Bool) (are : AreHeads l i q slots words heads) (r : ℕ) (inside : r < slots)
    (fits : (b : BlockId) → HasBlock l b → 1 ≤ class_number b.class → place_at l b < 192)
    (none : (t : ℕ) → t < 192 → heads r t ≡ false) (nodes : (n : ℕ) → i < n → words r n ≡ false) where
  live_none : (b : BlockId) → IsLive l i q b → is_in_codeword l (words r) b ≡ false
  live_none b live = sym (are.live b live r inside) ∙ none (place_at l b) (fits b live.block live.parity)

  at_parity : (k j : ℕ) (c : Class) → 1 ≤ class_number c → class_number c ≤ l.alpha → i < j → j ≤ k → j ≤ l.n → (p : Option ℕ) → previous l c j ≡ p
      → codeword_at l (words r) j c ≡ false
  at_parity zero j c parity used late below last p was = absurd (omega arith)
  at_parity (suc k) j c parity used late below last None was = codeword-begin l (words r) j c parity (omega arith) was ∙ nodes j late
  at_parity (suc k) j c parity used late below last (Some g) was =
      let just = just_before l c j g was in
      let first = just.first in
      let before = just.before in
      codeword-after l (words r) j g c parity was
      ∙ ap (λ (x : Bool). differ x (words r j))
      (elim (cases_lt i g) [
        | inl after ↦ at_parity k g c parity used after (omega arith) (omega arith) (previous l c g) refl
        | inr early ↦
            live_none (block_of g c)
            (record { block = record { first = first; last = omega arith; used = used }; parity = parity; most = early; goes_on = inl (j, late, last, was) })
      ])
      ∙ nodes j late

  at_class : (j : ℕ) (c : Class) → class_number c ≤ l.alpha → i < j → j ≤ l.n → codeword_at l (words r) j c ≡ false
  at_class j Datum used late last = nodes j late
  at_class j Horiz used late last = at_parity j j Horiz (omega arith) used late (omega arith) last (previous l Horiz j) refl
  at_class j Right used late last = at_parity j j Right (omega arith) used late (omega arith) last (previous l Right j) refl
  at_class j Left used late last = at_parity j j Left (omega arith) used late (omega arith) last (previous l Left j) refl

  pub silent : (d : BlockId) → HasBlock l d → (i < d.node) ⊎ ((d.node ≡ i) × (q < class_number d.class)) → is_in_codeword l (words r) d ≡ false
  silent d has (inl late) = at_class d.node d.class has.used late has.last
  silent d has (inr here) = live_none d (record { block = has; parity = (let h = here.1 in omega arith); most = (let h = here.0 in omega arith); goes_on = inr here })

-- nodes above the top of a rising list are not in it
pub none_above : (low : ℕ) (xs : List ℕ) (top n : ℕ) → RiseWithin low xs top → top ≤ n → has_odd xs n ≡ false
none_above low [] top n rises past = refl
none_above low (x ∷ xs) top n rises past =
    let below : suc x ≤ top = bound (suc x) xs top rises.1 in
    let other : n ≢ x = omega arith in
    ap (λ (b : Bool). differ b (has_odd xs n)) (ne_eqb n x other) ∙ none_above (suc x) xs top n rises.1 past
  where
    bound : (low : ℕ) (xs : List ℕ) (top : ℕ) → RiseWithin low xs top → low ≤ top
    bound low [] top h = h
    bound low (x ∷ xs) top h = let rest = bound (suc x) xs top h.1 in let first = h.0 in omega arith

-- the spare word is closed: it has no heads, and its codeword alone has the block to which the pass has come
module _ (l : Lattice) (known : BlockId → Bool) (i q : ℕ) (e : BlockId) (words new : List (List ℕ)) (heads : List Heads)
    (s : AreOpen l known i q words heads) (pivots : ArePivots (places_of l) (word_in words) (head_in heads)) (own : IsOwn l words e)
    (at_node : e.node ≡ i) (at_class_q : class_number e.class ≡ q) (none : (t : ℕ) → t < 192 → head_in heads (places_of l) t ≡ false)
    (closes : Closes (places_of l) words new) where
  rows_more : suc (places_of l) ≤ length words
  rows_more = s.rows

  spare_silent : (d : BlockId) → HasBlock l d → (i < d.node) ⊎ ((d.node ≡ i) × (q < class_number d.class)) → is_in_codeword l (word_in words (places_of l)) d ≡ false
  spare_silent =
      silent l i q (suc (places_of l)) (word_in words) (head_in heads) s.heads_are (places_of l) (omega arith) (place_few l) none
      (λ n late. none_above 1 (get_or words (places_of l) []) (suc i) n (s.rising (places_of l)) (omega arith))

  pub is_end : IsEndOf l known (word_in words (places_of l)) e
  is_end = record {
    block = own.block;
    misses = λ d has is_known. elim (passed_or_not i q d) [
      | inl done ↦
          (s.words_are.each (places_of l) (omega arith)).misses d has (ap (λ b. b && is_passed i q d) is_known ∙ passed_true i q d done)
      | inr late ↦ spare_silent d has late
    ];
    contains = own.contains;
    greatest = λ d has in_word. elim (passed_or_not i q d) [
      | inl done ↦ passed_number l i q d e has own.block at_node at_class_q done
      | inr late ↦ absurd (true≢false (sym in_word ∙ spare_silent d has late))
    ];
  }

  at_spare : (n : ℕ) → word_in new (places_of l) n ≡ false
  at_spare n =
      ap (λ (xs : List ℕ). has_odd xs n) (closes.words_are (places_of l))
      ∙ ap (λ (b : Bool). has_odd (cond b [] (cond (places_of l == length words) (get_or words (places_of l) []) (get_or words (places_of l) []))) n) (eq-eqb (places_of l) (places_of l) refl)

  at_new : get_or new (length words) [] ≡ get_or words (places_of l) []
  at_new =
      closes.words_are (length words)
      ∙ ap (λ (b : Bool). cond b [] (cond (length words == length words) (get_or words (places_of l) []) (get_or words (length words) []))) (ne_eqb (length words) (places_of l) (λ h. omega arith))
      ∙ ap (λ (b : Bool). cond b (get_or words (places_of l) []) (get_or words (length words) [])) (eq-eqb (length words) (length words) refl)

  at_other : (r : ℕ) → r ≢ places_of l → r ≢ length words → get_or new r [] ≡ get_or words r []
  at_other r first second =
      closes.words_are r
      ∙ ap (λ (b : Bool). cond b [] (cond (r == length words) (get_or words (places_of l) []) (get_or words r []))) (ne_eqb r (places_of l) first)
      ∙ ap (λ (b : Bool). cond b (get_or words (places_of l) []) (get_or words r [])) (ne_eqb r (length words) second)

  new_moved : (r n : ℕ) → word_in new r n ≡ moved (word_in words) (places_of l) (length words) r n
  new_moved r n = elim (cases_eq r (length words)) [
    | inl here ↦
        subst (λ (x : ℕ). word_in new x n ≡ moved (word_in words) (places_of l) (length words) x n) (sym here)
        (ap (λ (xs : List ℕ). has_odd xs n) at_new
        ∙ sym (ap (λ b. cond b (word_in words (places_of l) n) (cond (length words == places_of l) false (word_in words (length words) n))) (eq-eqb (length words) (length words) refl)))
    | inr other ↦ elim (cases_eq r (places_of l)) [
      | inl spare ↦
          subst (λ (x : ℕ). word_in new x n ≡ moved (word_in words) (places_of l) (length words) x n) (sym spare)
          (at_spare n
          ∙ sym (ap (λ b. cond b (word_in words (places_of l) n) (cond (places_of l == places_of l) false (word_in words (places_of l) n))) (ne_eqb (places_of l) (length words) (λ h. omega arith))
          ∙ ap (λ b. cond b false (word_in words (places_of l) n)) (eq-eqb (places_of l) (places_of l) refl)))
      | inr kept ↦
          ap (λ (xs : List ℕ). has_odd xs n) (at_other r kept other)
          ∙ sym (ap (λ b. cond b (word_in words (places_of l) n) (cond (r == places_of l) false (word_in words r n))) (ne_eqb r (length words) other)
          ∙ ap (λ b. cond b false (word_in words r n)) (ne_eqb r (places_of l) kept))
    ]
  ]

  new_ends : ℕ → BlockId
  new_ends r = cond (r == length words) e (s.ends r)

  end_new : (r : ℕ) → r ≡ length words → cond (r == length words) e (s.ends r) ≡ e
  end_new r here = ap (λ (b : Bool). cond b e (s.ends r)) (eq-eqb r (length words) here)

  end_old : (r : ℕ) → r ≢ length words → cond (r == length words) e (s.ends r) ≡ s.ends r
  end_old r other = ap (λ (b : Bool). cond b e (s.ends r)) (ne_eqb r (length words) other)

  old_word : (r : ℕ) → r ≢ places_of l → r ≢ length words → word_in new r ≡ word_in words r
  old_word r first second = ap has_odd (at_other r first second)

  -- an end of a closed word is before the new one
  end_less : (r : ℕ) → suc (places_of l) ≤ r → r < length words → number_of l (s.ends r) < number_of l e
  end_less r past less =
      let was = s.closed.end r past less in
      let le : number_of l (s.ends r) ≤ number_of l e = passed_number l i q (s.ends r) e was.block own.block at_node at_class_q (s.closed.passed r past less) in
      let apart : number_of l (s.ends r) ≢ number_of l e =
      λ same. (let one : s.ends r ≡ e = number_equal l (s.ends r) e was.block own.block same in
      true≢false (sym was.contains ∙ ap (is_in_codeword l (word_in words r)) one ∙ own.alone r less (λ h. omega arith))) in
      omega arith

  pub close-closed : AreClosed l known i q (suc (places_of l)) (length words + 1) (word_in new) (λ r. cond (r == length words) e (s.ends r))
  close-closed = record {
    end = λ r past less. elim (cases_eq r (length words)) [
      | inl here ↦
          subst (λ (b : BlockId). IsEndOf l known (word_in new r) b) (sym (end_new r here))
          (subst (λ (f : ℕ → Bool). IsEndOf l known f e) (sym (ap (word_in new) here ∙ ap has_odd at_new)) is_end)
      | inr other ↦
          subst (λ (b : BlockId). IsEndOf l known (word_in new r) b) (sym (end_old r other))
          (subst (λ (f : ℕ → Bool). IsEndOf l known f (s.ends r)) (sym (old_word r (λ h. omega arith) other)) (s.closed.end r past (omega arith)))
    ];
    passed = λ r past less. elim (cases_eq r (length words)) [
      | inl here ↦ subst (λ (b : BlockId). IsPassed i q b) (sym (end_new r here)) (inr (at_node, omega arith))
      | inr other ↦ subst (λ (b : BlockId). IsPassed i q b) (sym (end_old r other)) (s.closed.passed r past (omega arith))
    ];
    alone = λ r k past less k_less apart. elim (cases_eq k (places_of l)) [
      | inl spare ↦ ap (λ (x : ℕ). is_in_codeword l (word_in new x) (cond (r == length words) e (s.ends r))) spare
          ∙ codeword-empty l (word_in new (places_of l)) at_spare (cond (r == length words) e (s.ends r))
      | inr kept ↦ elim (cases_eq r (length words)) [
        | inl here ↦
            (let k_old : k ≢ length words = λ h. apart (h ∙ sym here) in
            ap (is_in_codeword l (word_in new k)) (end_new r here)
            ∙ ap (λ (f : ℕ → Bool). is_in_codeword l f e) (old_word k kept k_old)
            ∙ own.alone k (omega arith) kept)
        | inr other ↦
            ap (is_in_codeword l (word_in new k)) (end_old r other)
            ∙ elim (cases_eq k (length words)) [
              | inl k_new ↦
                  ap (λ (f : ℕ → Bool). is_in_codeword l f (s.ends r)) (ap (word_in new) k_new ∙ ap has_odd at_new)
                  ∙ s.closed.alone r (places_of l) past (omega arith) (omega arith) (λ h. omega arith)
              | inr k_old ↦
                  ap (λ (f : ℕ → Bool). is_in_codeword l f (s.ends r)) (old_word k kept k_old)
                  ∙ s.closed.alone r k past (omega arith) (omega arith) apart
            ]
      ]
    ];
    rise = λ r k past less k_less.
        let r_old : r ≢ length words = omega arith in
        let first : number_of l (cond (r == length words) e (s.ends r)) ≡ number_of l (s.ends r) = ap (number_of l) (end_old r r_old) in
        elim (cases_eq k (length words)) [
          | inl here ↦
              (let second : number_of l (cond (k == length words) e (s.ends k)) ≡ number_of l e = ap (number_of l) (end_new k here) in
              let h = end_less r past (omega arith) in omega arith)
          | inr other ↦
              (let second : number_of l (cond (k == length words) e (s.ends k)) ≡ number_of l (s.ends k) = ap (number_of l) (end_old k other) in
              let h = s.closed.rise r k past less (omega arith) in omega arith)
        ];
  }

  close-words : AreWords l i (seen_to known i q) (length words + 1) (word_in new)
  close-words =
      let more : suc (length words) ≡ length words + 1 = omega arith in
      subst (λ (m : ℕ). AreWords l i (seen_to known i q) m (word_in new)) more
      (subst (λ (f : ℕ → ℕ → Bool). AreWords l i (seen_to known i q) (suc (length words)) f) (sym (same_rows (word_in new) (moved (word_in words) (places_of l) (length words)) new_moved))
      (moves_word l i (seen_to known i q) (suc (length words)) (word_in words) (length words) (places_of l) (omega arith) (omega arith) (λ h. omega arith) nothing_there
      ((empty_matters l i (seen_to known i q) (length words) (word_in words) nothing_there).put s.words_are)))
    where
      nothing_there : (n : ℕ) → word_in words (length words) n ≡ false
      nothing_there n = ap (λ (xs : List ℕ). has_odd xs n) (get_or-eq_default words [] (omega arith))

  close-heads : AreHeads l i q (suc (places_of l)) (word_in new) (head_in heads)
  close-heads = record {
    live = λ b live r less. elim (cases_eq r (places_of l)) [
      | inl spare ↦
          ap (λ (x : ℕ). head_in heads x (place_at l b)) spare ∙ none (place_at l b) (place_few l b live.block live.parity)
          ∙ sym (ap (λ (x : ℕ). is_in_codeword l (word_in new x) b) spare ∙ codeword-empty l (word_in new (places_of l)) at_spare b)
      | inr kept ↦
          s.heads_are.live b live r less ∙ sym (ap (λ (f : ℕ → Bool). is_in_codeword l f b) (old_word r kept (λ h. omega arith)))
    ];
    only = s.heads_are.only;
  }

  pub close-swept : AreSwept l known i q new heads
  close-swept = record {
    are_open = record {
      slots = s.slots;
      rows = (let long = closes.long in omega arith);
      rising = λ r. elim (cases_eq r (length words)) [
        | inl here ↦ subst (λ (xs : List ℕ). RiseWithin 1 xs (suc i)) (sym (ap (λ (x : ℕ). get_or new x []) here ∙ at_new)) (s.rising (places_of l))
        | inr other ↦ elim (cases_eq r (places_of l)) [
          | inl spare ↦ subst (λ (xs : List ℕ). RiseWithin 1 xs (suc i)) (sym (ap (λ (x : ℕ). get_or new x []) spare ∙ closes.words_are (places_of l)
              ∙ ap (λ (b : Bool). cond b [] (cond (places_of l == length words) (get_or words (places_of l) []) (get_or words (places_of l) []))) (eq-eqb (places_of l) (places_of l) refl))) (omega arith)
          | inr kept ↦ subst (λ (xs : List ℕ). RiseWithin 1 xs (suc i)) (sym (at_other r kept other)) (s.rising r)
        ]
      ];
      words_are = subst (λ (m : ℕ). AreWords l i (seen_to known i q) m (word_in new)) (sym closes.long) close-words;
      heads_are = close-heads;
      ends = λ r. cond (r == length words) e (s.ends r);
      closed = subst (λ (m : ℕ). AreClosed l known i q (suc (places_of l)) m (word_in new) (λ r. cond (r == length words) e (s.ends r))) (sym closes.long) close-closed;
    };
    pivots = record {
      alone = pivots.alone;
      empty = λ t n less lacks. ap (λ (f : ℕ → Bool). f n) (old_word t (λ h. omega arith) (λ h. omega arith)) ∙ pivots.empty t n less lacks;
    };
    spare = at_spare;
  }
