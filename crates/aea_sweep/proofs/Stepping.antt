-- The pass goes over a parity.
use Rattle.std.proofs.Common.{◌≡◌, ◌≢◌, ◌⊎◌, ℕ, suc, ◌+◌, ◌-◌, ◌*◌, ◌<◌, ◌≤◌, inl, inr, Bool, true, false, not, ◌&&◌, ◌==◌, Some, None, refl, sym, ◌∙◌, ap, subst, arith}
use Rattle.std.specs.Prelude.{IsTrue}
use Rattle.std.proofs.lemmas.Bool.{cases_Bool, cases_eq, eq-eqb, ne_eqb, true≢false, and_parts}
use Rattle.aea_lattice.specs.declared.blocks.Class.{Class}
use Rattle.aea_lattice.specs.declared.blocks.BlockId.{BlockId}
use Rattle.aea_lattice.specs.declared.grid.Lattice.{Lattice}
use Rattle.aea_lattice.specs.Blocks.{HasBlock, class_number, number_of}
use Rattle.aea_lattice.specs.Strands.{previous, strand_of, IsNext}
use Rattle.aea_lattice.specs.Equations.{is_in_codeword}
use Rattle.aea_lattice.proofs.Equations.{class_number-equal}
use Rattle.aea_lattice.proofs.Odd.{same_test}
use Rattle.aea_sweep.proofs.StepLaws.{Sees}
use Rattle.aea_sweep.specs.States.{place_at, IsPassed, is_passed, seen_to, IsLive, AreHeads, AreClosed, IsAt}
use Rattle.aea_sweep.proofs.Ending.{strand_ends}
use Rattle.aea_sweep.proofs.States.{place_few, one_class, one_strand}
use Rattle.aea_sweep.proofs.Passing.{just_before, number_before, number_within, passed_true, true_passed}

-- what was passed before is passed now
pub passed_more : (i q : ℕ) (b : BlockId) → IsPassed i q b → IsPassed i (suc q) b
passed_more i q b (inl before) = inl before
passed_more i q b (inr here) = inr (here.0, let h = here.1 in omega arith)

pub live_less : (l : Lattice) (i q : ℕ) (b : BlockId) → IsLive l i (suc q) b → IsLive l i q b
live_less l i q b live = record {
  block = live.block;
  parity = live.parity;
  most = live.most;
  goes_on = elim live.goes_on [ inl later ↦ inl later | inr here ↦ inr (here.0, let h = here.1 in omega arith) ];
}

same_node : (b d : BlockId) → b.node ≡ d.node → b.class ≡ d.class → b ≡ d
same_node b d n c = λ k. record { node = n k; class = c k }

-- closed words do not have the block to which the pass comes
pub closed_lacks : (l : Lattice) (known : BlockId → Bool) (i q slots rows : ℕ) (words : ℕ → ℕ → Bool) (ends : ℕ → BlockId) (b : BlockId) → HasBlock l b → b.node ≡ i
    → class_number b.class ≡ suc q → AreClosed l known i q slots rows words ends → (r : ℕ) → slots ≤ r → r < rows → is_in_codeword l (words r) b ≡ false
closed_lacks l known i q slots rows words ends b has node class closed r past less = elim (cases_Bool (is_in_codeword l (words r) b)) [
  | inl in_word ↦
      (let end = closed.end r past less in
      let high = end.greatest b has in_word in
      let low : number_of l (ends r) < number_of l b = before (ends r) end.block (closed.passed r past less) in
      absurd (omega arith))
  | inr lacks ↦ lacks
]
  where
    strict : (d : BlockId) → number_of l d ≤ number_of l b → d.node ≡ b.node → class_number d.class < class_number b.class → number_of l d < number_of l b
    strict d le n c =
        let e : (d.node - 1) * (1 + l.alpha) ≡ (b.node - 1) * (1 + l.alpha) = ap (λ (m : ℕ). (m - 1) * (1 + l.alpha)) n in
        omega arith

    before : (d : BlockId) → HasBlock l d → IsPassed i q d → number_of l d < number_of l b
    before d hd (inl earlier) = number_before l d b hd has (omega arith)
    before d hd (inr here) =
        let low = here.1 in
        strict d (number_within l d b (here.0 ∙ sym node) (omega arith)) (here.0 ∙ sym node) (omega arith)

module _ (l : Lattice) (known : BlockId → Bool) (i q place : ℕ) (b : BlockId) (at : IsAt l i q place b) where
  pub parity : 1 ≤ class_number b.class
  parity = let h = at.class in omega arith

  pub fits : place < 192
  fits = let h = place_few l b at.block parity in let e = at.strand in omega arith

  -- of the live blocks before, only the block itself may be no longer live
  other_live : (d : BlockId) → IsLive l i q d → (d ≡ b) ⊎ IsLive l i (suc q) d
  other_live d live = elim live.goes_on [
    | inl later ↦ inr (record { block = live.block; parity = live.parity; most = live.most; goes_on = inl later })
    | inr here ↦ elim (cases_eq (class_number d.class) (suc q)) [
      | inl same ↦ inl (same_node d b (here.0 ∙ sym at.node) (class_number-equal d.class b.class (same ∙ sym at.class)))
      | inr other ↦ inr (record { block = live.block; parity = live.parity; most = live.most; goes_on = inr (here.0, let h = here.1 in omega arith) })
    ]
  ]

  pub own_live : IsLive l i q b
  own_live = record { block = at.block; parity = parity; most = (let h = at.node in omega arith); goes_on = inr (at.node, let h = at.class in omega arith) }

  -- where no word has a head at the place, the heads are right for the next block
  pub heads-clear : (slots : ℕ) (words heads : ℕ → ℕ → Bool) → ((r : ℕ) → r < slots → heads r place ≡ false) → AreHeads l i q slots words heads → AreHeads l i (suc q) slots words heads
  heads-clear slots words heads clear are = record {
    live = λ d live r less. are.live d (live_less l i q d live) r less;
    only = λ r t less in_t has.
        let d = are.only r t less in_t has in
        elim (other_live d.0 d.1) [
          | inl same ↦
              (let here : place ≡ t = at.strand ∙ ap (place_at l) (sym same) ∙ d.2 in
              absurd (true≢false (sym has ∙ ap (heads r) (sym here) ∙ clear r less)))
          | inr live ↦ (d.0, live, d.2)
        ];
  }

  -- where the strand goes on after the block, they are too
  pub heads-on : (j slots : ℕ) (words heads : ℕ → ℕ → Bool) → i < j → j ≤ l.n → previous l b.class j ≡ Some b.node → AreHeads l i q slots words heads → AreHeads l i (suc q) slots words heads
  heads-on j slots words heads later last was are = record {
    live = λ d live r less. are.live d (live_less l i q d live) r less;
    only = λ r t less in_t has.
        let d = are.only r t less in_t has in
        elim (other_live d.0 d.1) [
          | inl same ↦ (
            b,
            record { block = at.block; parity = parity; most = own_live.most; goes_on = inl (j, later, last, was) },
            ap (place_at l) (sym same) ∙ d.2,
          )
          | inr live ↦ (d.0, live, d.2)
        ];
  }

  -- where it ends there, no block that is live then has its place
  pub live_elsewhere : IsNext l b.class b.node None → (d : BlockId) → IsLive l i (suc q) d → place_at l d ≢ place
  live_elsewhere ended d live same =
      let here : place_at l d ≡ place_at l b = same ∙ at.strand in
      let class = one_class l d b live.block at.block live.parity parity here in
      let strand : strand_of l d.class d.node ≡ strand_of l d.class b.node = one_strand l d b live.block at.block live.parity parity here in
      elim live.goes_on [
        | inl later ↦
            (let was : previous l b.class later.0 ≡ Some d.node = subst (λ (c : Class). previous l c later.0 ≡ Some d.node) class later.3 in
            let just = just_before l d.class later.0 d.node later.3 in
            strand_ends l b.node b.class ended later.0 d.node (let h = at.node in let g = later.1 in omega arith) later.2 was
            (let h = at.node in let g = live.most in omega arith)
            (subst (λ (c : Class). strand_of l c later.0 ≡ strand_of l c b.node) class (sym just.same ∙ strand)))
        | inr now ↦ (let h = now.1 in let g = at.class in let e : class_number d.class ≡ class_number b.class = ap class_number class in omega arith)
      ]

  -- and the heads without those at the place are right
  pub heads-forgot : (slots : ℕ) (words heads headed : ℕ → ℕ → Bool) → IsNext l b.class b.node None
      → ((r t : ℕ) → r < slots → t < 192 → headed r t ≡ (heads r t && not (t == place))) → AreHeads l i q slots words heads → AreHeads l i (suc q) slots words headed
  heads-forgot slots words heads headed ended forgot are = record {
    live = λ d live r less.
        forgot r (place_at l d) less (place_few l d live.block live.parity)
        ∙ ap (λ x. heads r (place_at l d) && not x) (ne_eqb (place_at l d) place (live_elsewhere ended d live))
        ∙ and-true (heads r (place_at l d))
        ∙ are.live d (live_less l i q d live) r less;
    only = λ r t less in_t has.
        let both = and_parts (heads r t) (not (t == place)) (sym (forgot r t less in_t) ∙ has) in
        let d = are.only r t less in_t both.0 in
        elim (other_live d.0 d.1) [
          | inl same ↦
              (let here : t ≡ place = sym d.2 ∙ ap (place_at l) same ∙ sym at.strand in
              absurd (true≢false (sym both.1 ∙ ap not (eq-eqb t place here))))
          | inr live ↦ (d.0, live, d.2)
        ];
  }
    where
      and-true : (x : Bool) → (x && true) ≡ x
      and-true true = refl
      and-true false = refl

  is_seen_more : (d : BlockId) → IsTrue (seen_to known i q d) → IsTrue (seen_to known i (suc q) d)
  is_seen_more d seen =
      let both = and_parts (known d) (is_passed i q d) seen in
      ap (λ x. x && is_passed i (suc q) d) both.0 ∙ passed_true i (suc q) d (passed_more i q d (true_passed i q d both.1))

  passed_back : (d : BlockId) → IsPassed i (suc q) d → IsPassed i q d ⊎ (d ≡ b)
  passed_back d (inl before) = inl (inl before)
  passed_back d (inr here) = elim (cases_eq (class_number d.class) (suc q)) [
    | inl same ↦ inr (same_node d b (here.0 ∙ sym at.node) (class_number-equal d.class b.class (same ∙ sym at.class)))
    | inr other ↦ inl (inr (here.0, let h = here.1 in omega arith))
  ]

  -- a known block is seen
  pub sees_block : known b ≡ true → Sees l (seen_to known i q) (seen_to known i (suc q)) b
  sees_block is_known = (
    λ d has seen. is_seen_more d seen,
    ap (λ x. x && is_passed i (suc q) b) is_known ∙ passed_true i (suc q) b (inr (at.node, let h = at.class in omega arith)),
    λ d has seen.
        let both = and_parts (known d) (is_passed i (suc q) d) seen in
        elim (passed_back d (true_passed i (suc q) d both.1)) [
          | inl before ↦ inl (ap (λ x. x && is_passed i q d) both.0 ∙ passed_true i q d before)
          | inr same ↦ inr same
        ],
  )

  -- and one that is not known changes nothing
  pub sees_nothing : known b ≡ false → seen_to known i q ≡ seen_to known i (suc q)
  sees_nothing unknown = same_test (seen_to known i q) (seen_to known i (suc q)) (λ d. elim (cases_Bool (seen_to known i q d)) [
    | inl seen ↦ seen ∙ sym (is_seen_more d seen)
    | inr fresh ↦ elim (cases_Bool (seen_to known i (suc q) d)) [
      | inl then ↦
          (let both = and_parts (known d) (is_passed i (suc q) d) then in
          elim (passed_back d (true_passed i (suc q) d both.1)) [
            | inl before ↦ ap (λ x. x && is_passed i q d) both.0 ∙ passed_true i q d before ∙ sym then
            | inr same ↦ absurd (true≢false (sym both.0 ∙ ap known same ∙ unknown))
          ])
      | inr neither ↦ fresh ∙ sym neither
    ]
  ])

  pub closed-more : (slots rows : ℕ) (words : ℕ → ℕ → Bool) (ends : ℕ → BlockId) → AreClosed l known i q slots rows words ends → AreClosed l known i (suc q) slots rows words ends
  closed-more slots rows words ends c = record { end = c.end; passed = λ r past less. passed_more i q (ends r) (c.passed r past less); alone = c.alone; rise = c.rise }
