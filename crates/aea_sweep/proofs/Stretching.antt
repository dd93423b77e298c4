-- Stretches of strands are opened and ended.
use Rattle.std.proofs.Common.{◌≡◌, ◌≢◌, ◌⊎◌, ℕ, ◌+◌, ◌<◌, ◌≤◌, inl, inr, Bool, true, false, not, cond, ◌&&◌, ◌==◌, List, length, get_or, refl, sym, ◌∙◌, ap, subst, arith}
use Rattle.std.specs.Prelude.{nat_lt, slice_set}
use Rattle.std.proofs.lemmas.Bool.{cases_Bool, cases_eq, cases_lt, eq-eqb, ne_eqb, true≢false, false≢true, and_parts}
use Rattle.std.proofs.lemmas.List.{get_or-set_same, get_or-set_other}
use Rattle.aea_lattice.specs.declared.blocks.Class.{Class}
use Rattle.aea_lattice.specs.declared.blocks.BlockId.{BlockId}
use Rattle.aea_lattice.specs.declared.grid.Lattice.{Lattice}
use Rattle.aea_lattice.specs.Blocks.{HasNode, HasParity, HasBlock, block_of, class_number}
use Rattle.aea_lattice.specs.Fences.{is_parted}
use Rattle.aea_lattice.specs.Strands.{strand_of}
use Rattle.aea_lattice.specs.Ends.{strands_of}
use Rattle.aea_sweep.proofs.States.{strand_below}
use Rattle.aea_lattice.specs.Equations.{codeword_at, is_in_codeword}
use Rattle.aea_lattice.specs.Parity.{differ}
use Rattle.aea_lattice.proofs.Odd.{differ-false_r}
use Rattle.aea_lattice.proofs.Parted.{parted-nearer}
use Rattle.aea_sweep.specs.Labels.{is_along, is_stretch, label_of, Labels, is_classed}
use Rattle.aea_sweep.specs.Stretches.{IsOpenFrom, AreEnding, AreStretches}
use Rattle.aea_sweep.proofs.Alongs.{along_parts, along_make, along_trans, along_split}
use Rattle.aea_sweep.proofs.Labelling.{stays_some, labelled}
use Rattle.aea_sweep.proofs.OpenStretch.{codeword-more, less_true, class_true, stretch_only}

-- a node opens a stretch
module _ (l : Lattice) (c : Class) (taken nodes : ℕ → Bool) (label k : ℕ) (labels mid new opens : List ℕ) (hk : HasNode l k) (hc : HasParity l c)
    (below : (n : ℕ) → taken n ≡ true → n < k) (agree : (n : ℕ) → n < k → nodes n ≡ taken n) (s : AreStretches l c taken nodes label labels mid opens)
    (few : strand_of l c k < length opens) where
  abbrev then : ℕ → Bool
  then n = differ (taken n) (n == k)

  abbrev strand : ℕ
  strand = strand_of l c k

  opens_here : (v : ℕ) → get_or (slice_set opens strand v) strand 0 ≡ v
  opens_here v = get_or-set_same opens strand v 0 few

  opens_other : (v q : ℕ) → q ≢ strand → get_or (slice_set opens strand v) q 0 ≡ get_or opens q 0
  opens_other v q other = get_or-set_other opens strand q v 0 other

  code : (x : ℕ) → codeword_at l then x c ≡ differ (codeword_at l taken x c) (is_along l c k x)
  code x = codeword-more l c taken k x hk.first hc.parity

  not_along : (x : ℕ) → strand_of l c x ≢ strand → is_along l c k x ≡ false
  not_along x other = elim (cases_Bool (is_along l c k x)) [
    | inl along ↦ absurd (other (sym (along_parts l c k x along).strand))
    | inr out ↦ out
  ]

  code_other : (x : ℕ) → is_along l c k x ≡ false → codeword_at l then x c ≡ codeword_at l taken x c
  code_other x out = code x ∙ ap (differ (codeword_at l taken x c)) out ∙ differ-false_r (codeword_at l taken x c)

  code_along : (x : ℕ) → is_along l c k x ≡ true → (b : Bool) → codeword_at l taken x c ≡ b → codeword_at l then x c ≡ not b
  code_along x along b was = code x ∙ ap (λ (y : Bool). differ y (is_along l c k x)) was ∙ ap (differ b) along ∙ turn b
    where
      turn : (b : Bool) → differ b true ≡ not b
      turn true = refl
      turn false = refl

  taken_low : (x : ℕ) → k ≤ x → (n : ℕ) → taken n ≡ true → n ≤ x
  taken_low x le n is = let h = below n is in omega arith

  self_taken : then k ≡ true
  self_taken = elim (cases_Bool (taken k)) [
    | inl is ↦ (let h = below k is in absurd (omega arith))
    | inr is_not ↦ ap (λ (b : Bool). differ b (k == k)) is_not ∙ eq-eqb k k refl
  ]

  old_taken : (n : ℕ) → taken n ≡ true → then n ≡ true
  old_taken n is = let h = below n is in ap (λ (b : Bool). differ b (n == k)) is ∙ ap not (ne_eqb n k (λ e. omega arith))

  from_k : (x : ℕ) → ((n : ℕ) → then n ≡ true → n ≤ x) → k ≤ x
  from_k x low = low k self_taken

  -- where no stretch that is open holds a later node, the strand's codeword begins there
  begins_at : (x : ℕ) → HasNode l x → is_along l c k x ≡ true → (get_or opens strand 0 ≡ 0) ⊎ (is_along l c (get_or opens strand 0) x ≡ false) → codeword_at l then x c ≡ true
  begins_at x hx along empty =
      let parts = along_parts l c k x along in
      code_along x along false
      (s.none x hx (taken_low x parts.from)
      (subst (λ (q : ℕ). (get_or opens q 0 ≡ 0) ⊎ (is_along l c (get_or opens q 0) x ≡ false)) parts.strand empty))

  -- the strands of other nodes
  some_other : (v q : ℕ) → q ≢ strand → get_or (slice_set opens strand v) q 0 ≢ 0 → IsOpenFrom l c then q (get_or (slice_set opens strand v) q 0)
  some_other v q other has =
      let was = s.ending.some q (λ h. has (opens_other v q other ∙ h)) in
      subst (λ (a : ℕ). IsOpenFrom l c then q a) (sym (opens_other v q other))
      (record {
        node = was.node;
        strand_is = was.strand_is;
        taken_at = old_taken (get_or opens q 0) was.taken_at;
        has = λ x inside along.
            code_other x (not_along x (λ h. other (sym was.strand_is ∙ (along_parts l c (get_or opens q 0) x along).strand ∙ h))) ∙ was.has x inside along;
      })

  none_other : (v x : ℕ) → HasNode l x → k ≤ x → strand_of l c x ≢ strand
      → (get_or (slice_set opens strand v) (strand_of l c x) 0 ≡ 0) ⊎ (is_along l c (get_or (slice_set opens strand v) (strand_of l c x) 0) x ≡ false) → codeword_at l then x c ≡ false
  none_other v x hx le other empty =
      code_other x (not_along x other)
      ∙ s.none x hx (taken_low x le)
      (subst (λ (a : ℕ). (a ≡ 0) ⊎ (is_along l c a x ≡ false)) (opens_other v (strand_of l c x) other) empty)

  covered_other : (v x : ℕ) → HasNode l x → ((b : BlockId) → HasBlock l b → label_of l mid b ≢ 0 → label_of l new b ≢ 0) → strand_of l c x ≢ strand → codeword_at l then x c ≡ true
      → (label_of l new (block_of x c) ≢ 0) ⊎ ((get_or (slice_set opens strand v) (strand_of l c x) 0 ≢ 0) × (is_along l c (get_or (slice_set opens strand v) (strand_of l c x) 0) x ≡ true))
  covered_other v x hx stay other has = elim (s.ending.covered x hx (sym (code_other x (not_along x other)) ∙ has)) [
    | inl label' ↦ inl (stay (block_of x c) (record { first = hx.first; last = hx.last; used = hc.used }) label')
    | inr open' ↦
        inr (subst (λ (a : ℕ). (a ≢ 0) × (is_along l c a x ≡ true)) (sym (opens_other v (strand_of l c x) other)) (open'.0, open'.1))
  ]

  -- what is opened at k
  opened : ((x : ℕ) → HasNode l x → is_along l c k x ≡ true → codeword_at l then x c ≡ true) → IsOpenFrom l c then strand k
  opened all = record {
    node = hk;
    strand_is = refl;
    taken_at = self_taken;
    has = λ x inside along. (let parts = along_parts l c k x along in let low = parts.from in let first = hk.first in all x (record { first = omega arith; last = inside }) along);
  }

  -- all fields where the stretch is opened anew
  open_fields : (stay : (b : BlockId) → HasBlock l b → label_of l mid b ≢ 0 → label_of l new b ≢ 0)
      → ((x : ℕ) → HasNode l x → is_along l c k x ≡ true → codeword_at l then x c ≡ true)
      → ((x : ℕ) → HasNode l x → k ≤ x → strand_of l c x ≡ strand → is_along l c k x ≡ false → codeword_at l taken x c ≡ false)
      → ((x : ℕ) → HasNode l x → strand_of l c x ≡ strand → is_along l c k x ≡ false → codeword_at l taken x c ≡ true → label_of l new (block_of x c) ≢ 0)
      → ((b : BlockId) → HasBlock l b → (label_of l new b ≡ label_of l labels b)
      ⊎ ((label_of l labels b ≡ 0) × (label_of l new b ≡ label) × (class_number b.class ≡ class_number c) × (is_in_codeword l nodes b ≡ true)))
      → AreStretches l c then nodes label labels new (slice_set opens strand k)
  open_fields stay all none_left all_covered only = record {
    ending = record {
      some = λ q has. elim (cases_eq q strand) [
        | inl here ↦
            subst (λ (p : ℕ). IsOpenFrom l c then p (get_or (slice_set opens strand k) p 0)) (sym here)
            (subst (λ (a : ℕ). IsOpenFrom l c then strand a) (sym (opens_here k)) (opened all))
        | inr other ↦ some_other k q other has
      ];
      covered = λ x hx has. elim (cases_eq (strand_of l c x) strand) [
        | inl here ↦ elim (cases_Bool (is_along l c k x)) [
          | inl along ↦
              (let first = hk.first in
              inr (subst (λ (p : ℕ). (get_or (slice_set opens strand k) p 0 ≢ 0) × (is_along l c (get_or (slice_set opens strand k) p 0) x ≡ true)) (sym here)
              (subst (λ (a : ℕ). (a ≢ 0) × (is_along l c a x ≡ true)) (sym (opens_here k)) ((λ h. omega arith), along))))
          | inr out ↦ inl (all_covered x hx here out (sym (code_other x out) ∙ has))
        ]
        | inr other ↦ covered_other k x hx stay other has
      ];
      only = only;
    };
    none = λ x hx low empty. elim (cases_eq (strand_of l c x) strand) [
      | inr other ↦ none_other k x hx (from_k x low) other empty
      | inl here ↦
          (let first = hk.first in
          let at : (k ≡ 0) ⊎ (is_along l c k x ≡ false) =
          subst (λ (a : ℕ). (a ≡ 0) ⊎ (is_along l c a x ≡ false)) (opens_here k)
          (subst (λ (p : ℕ). (get_or (slice_set opens strand k) p 0 ≡ 0) ⊎ (is_along l c (get_or (slice_set opens strand k) p 0) x ≡ false)) here empty) in
          elim at [
            | inl zero' ↦ absurd (omega arith)
            | inr out ↦ code_other x out ∙ none_left x hx (from_k x low) here out
          ])
    ];
  }

  -- no stretch was open there
  pub opens_new : get_or opens strand 0 ≡ 0 → mid ≡ new → AreStretches l c then nodes label labels new (slice_set opens strand k)
  opens_new empty same =
      open_fields (λ b hb has. subst (λ (t : List ℕ). label_of l t b ≢ 0) same has)
      (λ x hx along. begins_at x hx along (inl empty))
      (λ x hx le here out. s.none x hx (taken_low x le) (inl (ap (λ (q : ℕ). get_or opens q 0) here ∙ empty)))
      (λ x hx here out has. elim (s.ending.covered x hx has) [
        | inl label' ↦ subst (λ (t : List ℕ). label_of l t (block_of x c) ≢ 0) same label'
        | inr open' ↦ absurd (open'.0 (ap (λ (q : ℕ). get_or opens q 0) here ∙ empty))
      ])
      (λ b hb. subst (λ (t : List ℕ). (label_of l t b ≡ label_of l labels b)
      ⊎ ((label_of l labels b ≡ 0) × (label_of l t b ≡ label) × (class_number b.class ≡ class_number c) × (is_in_codeword l nodes b ≡ true))) same (s.ending.only b hb))

  -- a stretch was open there, which was labelled up to k
  module _ (some : label ≢ 0) (was : get_or opens strand 0 ≢ 0) (are : Labels l (is_stretch l c (get_or opens strand 0) k) label mid new) where
    from : IsOpenFrom l c taken strand (get_or opens strand 0)
    from = s.ending.some strand was

    stay : (b : BlockId) → HasBlock l b → label_of l mid b ≢ 0 → label_of l new b ≢ 0
    stay b hb has = stays_some l (is_stretch l c (get_or opens strand 0) k) label mid new are b hb has

    only_now : (b : BlockId) → HasBlock l b → (label_of l new b ≡ label_of l labels b)
        ⊎ ((label_of l labels b ≡ 0) × (label_of l new b ≡ label) × (class_number b.class ≡ class_number c) × (is_in_codeword l nodes b ≡ true))
    only_now =
        stretch_only l c taken nodes label labels mid new opens (get_or opens strand 0) k some
        (subst (λ (q : ℕ). IsOpenFrom l c taken q (get_or opens strand 0)) (sym from.strand_is) from) agree are s.ending

    -- the stretch up to k has labels
    before_k : (x : ℕ) → HasNode l x → is_along l c (get_or opens strand 0) x ≡ true → x < k → label_of l new (block_of x c) ≢ 0
    before_k x hx along less =
        labelled l (is_stretch l c (get_or opens strand 0) k) label mid new some are (block_of x c) (record { first = hx.first; last = hx.last; used = hc.used })
        (ap (λ b. b && (is_along l c (get_or opens strand 0) x && nat_lt x k)) (eq-eqb (class_number c) (class_number c) refl)
        ∙ ap (λ b. b && nat_lt x k) along ∙ less_true x k less)

    -- a fence is before k
    pub opens_parted : is_parted l.fences (get_or opens strand 0) k ≡ true → AreStretches l c then nodes label labels new (slice_set opens strand k)
    opens_parted parted =
        open_fields stay
        (λ x hx along. begins_at x hx along (inr (beyond x (along_parts l c k x along).from)))
        (λ x hx le here out. s.none x hx (taken_low x le) (inr (ap (λ (q : ℕ). is_along l c (get_or opens q 0) x) here ∙ beyond x le)))
        (λ x hx here out has. elim (s.ending.covered x hx has) [
          | inl label' ↦ stay (block_of x c) (record { first = hx.first; last = hx.last; used = hc.used }) label'
          | inr open' ↦
              (let along : is_along l c (get_or opens strand 0) x ≡ true = sym (ap (λ (q : ℕ). is_along l c (get_or opens q 0) x) here) ∙ open'.1 in
              elim (cases_lt x k) [
                | inl less ↦ before_k x hx along less
                | inr le ↦ absurd (true≢false (sym along ∙ beyond x le))
              ])
        ])
        only_now
      where
        beyond : (x : ℕ) → k ≤ x → is_along l c (get_or opens strand 0) x ≡ false
        beyond x le = elim (cases_Bool (is_along l c (get_or opens strand 0) x)) [
          | inr out ↦ out
          | inl along ↦
              absurd (true≢false (sym parted ∙ parted-nearer l.fences (get_or opens strand 0) k x le (along_parts l c (get_or opens strand 0) x along).joined))
        ]

    -- no fence is before k: the stretch ends there
    pub ends_at : is_parted l.fences (get_or opens strand 0) k ≡ false → AreStretches l c then nodes label labels new (slice_set opens strand 0)
    ends_at joined =
        let before = below (get_or opens strand 0) from.taken_at in
        let low : get_or opens strand 0 ≤ k = omega arith in
        let here_k : is_along l c (get_or opens strand 0) k ≡ true = along_make l c (get_or opens strand 0) k (record { from = low; strand = from.strand_is; joined = joined }) in
        record {
          ending = record {
            some = λ q has. elim (cases_eq q strand) [
              | inl here ↦ absurd (has (ap (λ (p : ℕ). get_or (slice_set opens strand 0) p 0) here ∙ opens_here 0))
              | inr other ↦ some_other 0 q other has
            ];
            covered = λ x hx has. elim (cases_eq (strand_of l c x) strand) [
              | inr other ↦ covered_other 0 x hx stay other has
              | inl here ↦ elim (cases_Bool (is_along l c k x)) [
                | inl along ↦
                    absurd (false≢true (sym (code_along x along true (from.has x hx.last (along_trans l c (get_or opens strand 0) k x here_k along))) ∙ has))
                | inr out ↦ elim (s.ending.covered x hx (sym (code_other x out) ∙ has)) [
                  | inl label' ↦ inl (stay (block_of x c) (record { first = hx.first; last = hx.last; used = hc.used }) label')
                  | inr open' ↦
                      (let along : is_along l c (get_or opens strand 0) x ≡ true = sym (ap (λ (q : ℕ). is_along l c (get_or opens q 0) x) here) ∙ open'.1 in
                      elim (cases_lt x k) [
                        | inl less ↦ inl (before_k x hx along less)
                        | inr le ↦ absurd (true≢false (sym (along_split l c (get_or opens strand 0) k x here_k along le) ∙ out))
                      ])
                ]
              ]
            ];
            only = only_now;
          };
          none = λ x hx low' empty. elim (cases_eq (strand_of l c x) strand) [
            | inr other ↦ none_other 0 x hx (from_k x low') other empty
            | inl here ↦ elim (cases_Bool (is_along l c k x)) [
              | inl along ↦ code_along x along true (from.has x hx.last (along_trans l c (get_or opens strand 0) k x here_k along))
              | inr out ↦
                  code_other x out
                  ∙ s.none x hx (taken_low x (from_k x low'))
                  (inr (ap (λ (q : ℕ). is_along l c (get_or opens q 0) x) here ∙ elim (cases_Bool (is_along l c (get_or opens strand 0) x)) [
                    | inl along ↦ absurd (true≢false (sym (along_split l c (get_or opens strand 0) k x here_k along (from_k x low')) ∙ out))
                    | inr beyond ↦ beyond
                  ]))
            ]
          ];
        }

-- a stretch that no node ends
module _ (l : Lattice) (c : Class) (nodes : ℕ → Bool) (label strand : ℕ) (labels mid new opens : List ℕ) (hc : HasParity l c) (some : label ≢ 0) (few : strand < length opens)
    (s : AreEnding l c nodes nodes label labels mid opens) where
  pub ends_none : get_or opens strand 0 ≢ 0 → Labels l (is_stretch l c (get_or opens strand 0) (l.n + 1)) label mid new
      → AreEnding l c nodes nodes label labels new (slice_set opens strand 0)
  ends_none was are =
      let a = get_or opens strand 0 in
      let from = s.some strand was in
      record {
        some = λ q has. elim (cases_eq q strand) [
          | inl here ↦ absurd (has (ap (λ (p : ℕ). get_or (slice_set opens strand 0) p 0) here ∙ get_or-set_same opens strand 0 0 few))
          | inr other ↦
              (let same : get_or (slice_set opens strand 0) q 0 ≡ get_or opens q 0 = get_or-set_other opens strand q 0 0 other in
              subst (λ (x : ℕ). IsOpenFrom l c nodes q x) (sym same) (s.some q (λ h. has (same ∙ h))))
        ];
        covered = λ x hx has.
            let hb : HasBlock l (block_of x c) = record { first = hx.first; last = hx.last; used = hc.used } in
            elim (s.covered x hx has) [
              | inl label' ↦ inl (stays_some l (is_stretch l c a (l.n + 1)) label mid new are (block_of x c) hb label')
              | inr open' ↦ elim (cases_eq (strand_of l c x) strand) [
                | inl here ↦
                    (let along : is_along l c a x ≡ true = sym (ap (λ (q : ℕ). is_along l c (get_or opens q 0) x) here) ∙ open'.1 in
                    let last = hx.last in
                    inl (labelled l (is_stretch l c a (l.n + 1)) label mid new some are (block_of x c) hb
                    (ap (λ b. b && (is_along l c a x && nat_lt x (l.n + 1))) (eq-eqb (class_number c) (class_number c) refl)
                    ∙ ap (λ b. b && nat_lt x (l.n + 1)) along ∙ less_true x (l.n + 1) (omega arith))))
                | inr other ↦
                    inr (subst (λ (y : ℕ). (y ≢ 0) × (is_along l c y x ≡ true)) (sym (get_or-set_other opens strand (strand_of l c x) 0 0 other)) (open'.0, open'.1))
              ]
            ];
        only =
            stretch_only l c nodes nodes label labels mid new opens a (l.n + 1) some
            (subst (λ (q : ℕ). IsOpenFrom l c nodes q a) (sym from.strand_is) from) (λ n less. refl) are s;
      }

-- where no stretch is open, what is in the codeword has labels
pub all_ended : (l : Lattice) (c : Class) (nodes : ℕ → Bool) (label : ℕ) (labels new opens : List ℕ) → ((s : ℕ) → get_or opens s 0 ≡ 0)
    → AreEnding l c nodes nodes label labels new opens → Labels l (is_classed l c (is_in_codeword l nodes)) label labels new
all_ended l c nodes label labels new opens none s b hb = elim (s.only b hb) [
  | inr put ↦
      put.1
      ∙ sym (ap (λ x. cond ((x && is_in_codeword l nodes b) && label_of l labels b == 0) label (label_of l labels b)) (eq-eqb (class_number b.class) (class_number c) put.2)
      ∙ ap (λ x. cond (x && label_of l labels b == 0) label (label_of l labels b)) put.3
      ∙ ap (λ x. cond x label (label_of l labels b)) (eq-eqb (label_of l labels b) 0 put.0))
  | inl old ↦ old ∙ elim (cases_eq (label_of l labels b) 0) [
    | inr had ↦
        sym (ap (λ x. cond (is_classed l c (is_in_codeword l nodes) b && x) label (label_of l labels b)) (ne_eqb (label_of l labels b) 0 had)
        ∙ ap (λ x. cond x label (label_of l labels b)) (and-false (is_classed l c (is_in_codeword l nodes) b)))
    | inl zero' ↦ elim (cases_Bool (is_classed l c (is_in_codeword l nodes) b)) [
      | inr out ↦ sym (ap (λ x. cond (x && label_of l labels b == 0) label (label_of l labels b)) out)
      | inl inside ↦
          (let both = and_parts (class_number b.class == class_number c) (is_in_codeword l nodes b) inside in
          let class = class_true b.class c both.0 in
          let one : block_of b.node c ≡ b = λ i. record { node = b.node; class = sym class i } in
          elim (s.covered b.node (record { first = hb.first; last = hb.last }) (sym (ap (codeword_at l nodes b.node) class) ∙ both.1)) [
            | inl label' ↦ absurd (label' (ap (label_of l new) one ∙ old ∙ zero'))
            | inr open' ↦ absurd (open'.0 (none (strand_of l c b.node)))
          ])
    ]
  ]
]
  where
    and-false : (b : Bool) → (b && false) ≡ false
    and-false true = refl
    and-false false = refl

-- where the strands have no stretch that is open, there is none
pub none_open : (l : Lattice) (c : Class) (nodes : ℕ → Bool) (label : ℕ) (labels new opens : List ℕ) → HasParity l c → ((s : ℕ) → s < strands_of l c → get_or opens s 0 ≡ 0)
    → AreEnding l c nodes nodes label labels new opens → (s : ℕ) → get_or opens s 0 ≡ 0
none_open l c nodes label labels new opens hc ended e s = elim (cases_eq (get_or opens s 0) 0) [
  | inl none ↦ none
  | inr has ↦
      (let from = e.some s has in
      let below = strand_below l c (get_or opens s 0) hc in
      let is = from.strand_is in
      absurd (has (ended s (omega arith))))
]
