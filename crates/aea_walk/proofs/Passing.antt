-- A node is passed: the stretch that is open on its strand ends, or one begins.
use Rattle.std.proofs.Common.{◌≡◌, ◌≢◌, ◌⊎◌, ℕ, ◌+◌, ◌<◌, ◌≤◌, inl, inr, Bool, true, false, not, ◌==◌, List, length, get_or, take, refl, sym, ◌∙◌, ap, subst, arith}
use Rattle.std.specs.Prelude.{slice_set}
use Rattle.std.proofs.lemmas.Bool.{cases_Bool, cases_eq, cases_lt, eq-eqb, ne_eqb, true≢false, false≢true}
use Rattle.std.proofs.lemmas.List.{get_or-set_same, get_or-set_other}
use Rattle.aea_lattice.specs.declared.blocks.Class.{Class}
use Rattle.aea_lattice.specs.declared.blocks.BlockId.{BlockId}
use Rattle.aea_lattice.specs.declared.grid.Lattice.{Lattice}
use Rattle.aea_lattice.specs.Blocks.{HasNode, HasParity, block_of}
use Rattle.aea_lattice.specs.Fences.{is_parted}
use Rattle.aea_lattice.specs.Strands.{strand_of}
use Rattle.aea_lattice.specs.Equations.{codeword_at}
use Rattle.aea_lattice.specs.Lists.{has_node}
use Rattle.aea_lattice.specs.Parity.{differ}
use Rattle.aea_lattice.proofs.Odd.{differ-false_r}
use Rattle.aea_lattice.proofs.Parted.{parted-less, parted-nearer, parted-more}
use Rattle.aea_walk.specs.Codewords.{AreRising}
use Rattle.aea_walk.specs.Stretches.{is_along, is_open, IsFirstIn, IsOpenAt, ArePassed}
use Rattle.aea_walk.proofs.Along.{along_parts, along_make, not_along, codeword-more}
use Rattle.aea_walk.proofs.Taken.{taken-more}

-- no node is passed
pub passed-none : (l : Lattice) (intact : BlockId → Bool) (c : Class) (taken : ℕ → Bool) (opens : List ℕ) (first : ℕ) → ((x : ℕ) → codeword_at l taken x c ≡ false) → first ≡ l.n + 1
    → ((x : ℕ) → strand_of l c x < 64) → ((s : ℕ) → s < 64 → get_or opens s 0 ≡ l.n + 1) → ArePassed l intact c taken opens first
passed-none l intact c taken opens first clear last few none = record {
  some = λ s less most. (let end : get_or opens s 0 ≡ l.n + 1 = none s less in absurd (omega arith));
  inside = λ x has open'.
      (let low = (along_parts l c (get_or opens (strand_of l c x) 0) x open').from in
      let end : get_or opens (strand_of l c x) 0 ≡ l.n + 1 = none (strand_of l c x) (few x) in
      let high = has.last in absurd (omega arith));
  only = λ x _ _ is. absurd (false≢true (sym (clear x) ∙ is));
  node = λ most. absurd (omega arith);
  ended = λ most. absurd (omega arith);
  whole = λ most. absurd (omega arith);
  touched = λ most. absurd (omega arith);
  least = λ x _ _ is. absurd (false≢true (sym (clear x) ∙ is));
}

turned : (a b : Bool) → differ a b ≡ true → b ≡ true → a ≡ false
turned true b h e = absurd (true≢false (sym (sym (ap not e) ∙ h)))
turned false b h e = refl

module _ (l : Lattice) (intact : BlockId → Bool) (c : Class) (taken : ℕ → Bool) (opens : List ℕ) (first k v ended new : ℕ) (hk : HasNode l k) (hc : HasParity l c)
    (few : (x : ℕ) → strand_of l c x < 64) (strands : length opens ≡ 64) (below : (n : ℕ) → taken n ≡ true → n < k)
    (p : ArePassed l intact c taken opens first)
    (ends : IsFirstIn l intact c (get_or opens (strand_of l c k) 0) k ended)
    (low : new ≤ first) (low' : new ≤ ended) (one : (new ≡ first) ⊎ (new ≡ ended))
    (closes : get_or opens (strand_of l c k) 0 ≤ k → is_parted l.fences (get_or opens (strand_of l c k) 0) k ≡ false → v ≡ l.n + 1)
    (begins : (get_or opens (strand_of l c k) 0 ≤ k → is_parted l.fences (get_or opens (strand_of l c k) 0) k ≡ true) → v ≡ k) where
  abbrev then : ℕ → Bool
  then n = differ (taken n) (n == k)

  abbrev strand : ℕ
  strand = strand_of l c k

  abbrev from : ℕ
  from = get_or opens strand 0

  abbrev after : List ℕ
  after = slice_set opens strand v

  after_here : get_or after strand 0 ≡ v
  after_here = get_or-set_same opens strand v 0 (let h = few k in omega arith)

  after_other : (q : ℕ) → q ≢ strand → get_or after q 0 ≡ get_or opens q 0
  after_other q apart = get_or-set_other opens strand q v 0 apart

  code : (x : ℕ) → codeword_at l then x c ≡ differ (codeword_at l taken x c) (is_along l c k x)
  code x = codeword-more l c taken k x hk.first hc.parity

  code_out : (x : ℕ) → is_along l c k x ≡ false → codeword_at l then x c ≡ codeword_at l taken x c
  code_out x out = code x ∙ ap (differ (codeword_at l taken x c)) out ∙ differ-false_r (codeword_at l taken x c)

  code_along : (x : ℕ) (b : Bool) → is_along l c k x ≡ true → codeword_at l taken x c ≡ b → codeword_at l then x c ≡ not b
  code_along x b along was = code x ∙ ap (λ (y : Bool). differ y (is_along l c k x)) was ∙ ap (differ b) along ∙ turn b
    where
      turn : (b : Bool) → differ b true ≡ not b
      turn true = refl
      turn false = refl

  apart_out : (x : ℕ) → strand_of l c x ≢ strand → is_along l c k x ≡ false
  apart_out x apart = not_along l c k x (λ h. apart (sym h.strand))

  early_out : (x : ℕ) → x < k → is_along l c k x ≡ false
  early_out x less = not_along l c k x (λ h. let from' = h.from in omega arith)

  taken_low : (x : ℕ) → k ≤ x → (n : ℕ) → taken n ≡ true → n ≤ x
  taken_low x le n is = let h = below n is in omega arith

  self_taken : then k ≡ true
  self_taken = elim (cases_Bool (taken k)) [
    | inl is ↦ (let h = below k is in absurd (omega arith))
    | inr is_not ↦ ap (λ (b : Bool). differ b (k == k)) is_not ∙ eq-eqb k k refl
  ]

  old_taken : (n : ℕ) → taken n ≡ true → then n ≡ true
  old_taken n is = let h = below n is in ap (λ (b : Bool). differ b (n == k)) is ∙ ap not (ne_eqb n k (λ e. omega arith))

  -- the stretch that was open on the strand of x
  open_here : (x : ℕ) → strand_of l c x ≡ strand → is_open l c opens x ≡ is_along l c from x
  open_here x here = ap (λ q. is_along l c (get_or opens q 0) x) here

  -- where it reaches k, it has what is along k
  reaches : (x : ℕ) → is_along l c k x ≡ true → from ≤ k → is_parted l.fences from k ≡ false → is_open l c opens x ≡ true
  reaches x along le joined =
      let parts = along_parts l c k x along in
      let later = parts.from in
      let last = hk.last in
      let was : IsOpenAt l c taken strand from = p.some strand (few k) (omega arith) in
      open_here x (sym parts.strand)
      ∙ along_make l c from x (record {
        from = omega arith;
        strand = was.strand ∙ parts.strand;
        joined = parted-less l.fences from k x le later parts.joined ∙ joined;
      })

  -- where it has a node from k on, it reaches k
  reached : (x : ℕ) → HasNode l x → k ≤ x → strand_of l c x ≡ strand → is_open l c opens x ≡ true → (from ≤ k) × (is_parted l.fences from k ≡ false)
  reached x has le here is =
      let parts = along_parts l c from x (sym (open_here x here) ∙ is) in
      let early = parts.from in
      let last = has.last in
      let was : IsOpenAt l c taken strand from = p.some strand (few k) (omega arith) in
      let less : from < k = below from was.passed in
      (omega arith, parted-nearer l.fences from k x le parts.joined)

  -- and that node is along k
  reached_along : (x : ℕ) → HasNode l x → k ≤ x → strand_of l c x ≡ strand → is_open l c opens x ≡ true → is_along l c k x ≡ true
  reached_along x has le here is =
      let parts = along_parts l c from x (sym (open_here x here) ∙ is) in
      let to = reached x has le here is in
      along_make l c k x (record {
        from = le;
        strand = sym here;
        joined = elim (cases_Bool (is_parted l.fences k x)) [
          | inl parted ↦ absurd (false≢true (sym parts.joined ∙ parted-more l.fences from k x to.0 parted))
          | inr joined ↦ joined
        ];
      })

  -- the stretch has ended at k, or there was none and one begins
  split : ((from ≤ k) × (is_parted l.fences from k ≡ false) × (v ≡ l.n + 1)) ⊎ ((from ≤ k → is_parted l.fences from k ≡ true) × (v ≡ k))
  split = elim (cases_lt k from) [
    | inl past ↦ inr (λ le. absurd (omega arith), begins (λ le. absurd (omega arith)))
    | inr le ↦ elim (cases_Bool (is_parted l.fences from k)) [
      | inl parted ↦ inr (λ _. parted, begins (λ _. parted))
      | inr joined ↦ inl (le, joined, closes le joined)
    ]
  ]

  open_other : (x : ℕ) → strand_of l c x ≢ strand → is_open l c after x ≡ is_open l c opens x
  open_other x apart = ap (λ a. is_along l c a x) (after_other (strand_of l c x) apart)

  open_now : (x : ℕ) → strand_of l c x ≡ strand → is_open l c after x ≡ is_along l c v x
  open_now x here = ap (λ q. is_along l c (get_or after q 0) x) here ∙ ap (λ a. is_along l c a x) after_here

  -- where none reaches k, nothing along k was in the codeword
  was_none : (x : ℕ) → HasNode l x → is_along l c k x ≡ true → (from ≤ k → is_parted l.fences from k ≡ true) → codeword_at l taken x c ≡ false
  was_none x has along none = elim (cases_Bool (codeword_at l taken x c)) [
    | inr out ↦ out
    | inl is ↦
        (let parts = along_parts l c k x along in
        let to = reached x has parts.from (sym parts.strand) (p.only x has (taken_low x parts.from) is) in
        absurd (true≢false (sym (none to.0) ∙ to.1)))
  ]

  -- what is along k and in the codeword now is in a stretch that is open
  opened : (x : ℕ) → HasNode l x → is_along l c k x ≡ true → codeword_at l then x c ≡ true → is_open l c after x ≡ true
  opened x has along is =
      let parts = along_parts l c k x along in
      elim split [
        | inl to ↦
            absurd (true≢false (sym (p.inside x has (reaches x along to.0 to.1))
            ∙ turned (codeword_at l taken x c) (is_along l c k x) (sym (code x) ∙ is) along))
        | inr none ↦ open_now x (sym parts.strand) ∙ ap (λ a. is_along l c a x) none.1 ∙ along
      ]

  ended_open : ended ≤ l.n → (strand_of l c ended ≡ strand) × (1 ≤ ended)
  ended_open most =
      let parts = along_parts l c from ended (ends.along most) in
      let early = parts.from in
      let was : IsOpenAt l c taken strand from = p.some strand (few k) (omega arith) in
      let node = was.node in
      let first = node.first in
      (sym parts.strand ∙ was.strand, omega arith)

  inside : (x : ℕ) → HasNode l x → is_open l c after x ≡ true → codeword_at l then x c ≡ true
  inside x has is = elim (cases_eq (strand_of l c x) strand) [
    | inr apart ↦ code_out x (apart_out x apart) ∙ p.inside x has (sym (open_other x apart) ∙ is)
    | inl here ↦ elim split [
      | inl to ↦
          (let low = (along_parts l c v x (sym (open_now x here) ∙ is)).from in
          let past = to.2 in
          let last = has.last in absurd (omega arith))
      | inr none ↦
          (let along : is_along l c k x ≡ true = ap (λ a. is_along l c a x) (sym none.1) ∙ sym (open_now x here) ∙ is in
          code_along x false along (was_none x has along none.0))
    ]
  ]

  only : (x : ℕ) → HasNode l x → ((n : ℕ) → then n ≡ true → n ≤ x) → codeword_at l then x c ≡ true → is_open l c after x ≡ true
  only x has most is =
      let le : k ≤ x = most k self_taken in
      elim (cases_Bool (is_along l c k x)) [
        | inl along ↦ opened x has along is
        | inr out ↦
            (let was : is_open l c opens x ≡ true = p.only x has (taken_low x le) (sym (code_out x out) ∙ is) in
            elim (cases_eq (strand_of l c x) strand) [
              | inr apart ↦ open_other x apart ∙ was
              | inl here ↦ absurd (true≢false (sym (reached_along x has le here was) ∙ out))
            ])
      ]

  least : (x : ℕ) → HasNode l x → intact (block_of x c) ≡ true → codeword_at l then x c ≡ true → (new ≤ x) ⊎ (is_open l c after x ≡ true)
  least x has whole is = elim (cases_Bool (is_along l c k x)) [
    | inl along ↦ inr (opened x has along is)
    | inr out ↦ elim (p.least x has whole (sym (code_out x out) ∙ is)) [
      | inl le ↦ inl (omega arith)
      | inr was ↦ elim (cases_eq (strand_of l c x) strand) [
        | inr apart ↦ inr (open_other x apart ∙ was)
        | inl here ↦ elim (cases_lt x k) [
          | inl less ↦ (let le : ended ≤ x = ends.least x has.last (sym (open_here x here) ∙ was) less whole in inl (omega arith))
          | inr le ↦ absurd (true≢false (sym (reached_along x has le here was) ∙ out))
        ]
      ]
    ]
  ]

  some : (s : ℕ) → s < 64 → get_or after s 0 ≤ l.n → IsOpenAt l c then s (get_or after s 0)
  some s less most = elim (cases_eq s strand) [
    | inr apart ↦
        (let is = after_other s apart in
        let was = p.some s less (omega arith) in
        subst (λ (a : ℕ). IsOpenAt l c then s a) (sym is) (record { node = was.node; strand = was.strand; passed = old_taken (get_or opens s 0) was.passed }))
    | inl here ↦
        (let at : get_or after s 0 ≡ v = ap (λ q. get_or after q 0) here ∙ after_here in
        elim split [
          | inl to ↦ (let past = to.2 in absurd (omega arith))
          | inr none ↦ subst (λ (a : ℕ). IsOpenAt l c then s a) (sym (at ∙ none.1)) (record { node = hk; strand = sym here; passed = self_taken })
        ])
  ]

  pub passed-more : ArePassed l intact c then after new
  passed-more = record {
    some = some;
    inside = inside;
    only = only;
    node = λ most. elim one [
      | inl same ↦ (let h = p.node (omega arith) in omega arith)
      | inr same ↦ (let h = (ended_open (omega arith)).1 in omega arith)
    ];
    ended = λ most. elim one [
      | inl same ↦ (let h = p.ended (omega arith) in let less = h.2 in (h.0, old_taken h.0 h.1, omega arith))
      | inr same ↦ (let less = ends.before (omega arith) in (k, self_taken, omega arith))
    ];
    whole = λ most. elim one [
      | inl same ↦ ap (λ j. intact (block_of j c)) same ∙ p.whole (omega arith)
      | inr same ↦ ap (λ j. intact (block_of j c)) same ∙ ends.whole (omega arith)
    ];
    touched = λ most. elim one [
      | inl same ↦
          (let h = p.ended (omega arith) in
          let less = h.2 in
          let early = below h.0 h.1 in
          ap (λ j. codeword_at l then j c) same ∙ code_out first (early_out first (omega arith)) ∙ p.touched (omega arith))
      | inr same ↦
          (let inside' : ended ≤ l.n = omega arith in
          let at = ended_open inside' in
          ap (λ j. codeword_at l then j c) same
          ∙ code_out ended (early_out ended (ends.before inside'))
          ∙ p.inside ended (record { first = at.1; last = inside' }) (open_here ended at.0 ∙ ends.along inside'))
    ];
    least = least;
  }

-- the set of the first items, and of one more
pub passed-taken : (l : Lattice) (intact : BlockId → Bool) (c : Class) (nodes : List ℕ) (q : ℕ) (opens : List ℕ) (first : ℕ) → AreRising l nodes → q < length nodes
    → ArePassed l intact c (λ i. differ (has_node (take q nodes) i) (i == get_or nodes q 0)) opens first → ArePassed l intact c (has_node (take (q + 1) nodes)) opens first
passed-taken l intact c nodes q opens first rising less p =
    subst (λ (t : ℕ → Bool). ArePassed l intact c t opens first) (sym (taken-more l nodes q rising less)) p
