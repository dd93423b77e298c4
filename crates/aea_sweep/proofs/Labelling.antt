-- Labels of blocks, and the ways along strands.
use Rattle.std.proofs.Common.{◌≡◌, ◌≢◌, ◌⊎◌, ℕ, ◌+◌, ◌<◌, ◌≤◌, inl, inr, Bool, true, false, cond, ◌&&◌, ◌==◌, List, length, get_or, refl, sym, ◌∙◌, ap, subst, arith}
use Rattle.std.specs.Prelude.{nat_lt, slice_set}
use Rattle.std.proofs.lemmas.Bool.{cases_Bool, cases_eq, cases_lt, eq-eqb, eqb-true, ne_eqb, true≢false, and_parts}
use Rattle.std.proofs.lemmas.Bool.Decides.{nat_tests}
use Rattle.std.proofs.lemmas.List.{get_or-set_same, get_or-set_other}
use Rattle.std.proofs.Math.ListN.{length-set}
use Rattle.aea_lattice.specs.declared.blocks.Class.{Class}
use Rattle.aea_lattice.specs.declared.blocks.Class.TheVariants.{Datum}
use Rattle.aea_lattice.specs.declared.blocks.BlockId.{BlockId}
use Rattle.aea_lattice.specs.declared.grid.Lattice.{Lattice}
use Rattle.aea_lattice.specs.Blocks.{HasNode, HasParity, HasBlock, block_of, same_block, class_number, number_of, blocks_count}
use Rattle.aea_lattice.proofs.Equations.{class_number-equal, number_equal, number_below}
use Rattle.aea_sweep.specs.Labels.{is_along, is_stretch, label_of, IsBehind, IsSkip, AreLabels, Labels, IsDone}
use Rattle.aea_sweep.proofs.Alongs.{along_parts, along_refl, along_trans, along_split}

pub same_refl : (b : BlockId) → same_block b b ≡ true
same_refl b = ap (λ x. x && (class_number b.class == class_number b.class)) (eq-eqb b.node b.node refl) ∙ eq-eqb (class_number b.class) (class_number b.class) refl

pub same_true : (a b : BlockId) → same_block a b ≡ true → a ≡ b
same_true a b is =
    let both = and_parts (a.node == b.node) (class_number a.class == class_number b.class) is in
    let n = eqb-true a.node b.node both.0 in
    let c = class_number-equal a.class b.class (eqb-true (class_number a.class) (class_number b.class) both.1) in
    λ i. record { node = n i; class = c i }

-- the label of a block where that of one was written
pub label_set : (l : Lattice) (labels : List ℕ) (b : BlockId) (v : ℕ) → length labels ≡ blocks_count l → HasBlock l b → (d : BlockId) → HasBlock l d
    → label_of l (slice_set labels (number_of l b) v) d ≡ cond (same_block b d) v (label_of l labels d)
label_set l labels b v long hb d hd = elim (cases_Bool (same_block b d)) [
  | inl same ↦
      (let e = same_true b d same in
      let inside : number_of l b < length labels = (let h = number_below l b hb in omega arith) in
      ap (λ (x : BlockId). get_or (slice_set labels (number_of l b) v) (number_of l x) 0) (sym e)
      ∙ get_or-set_same labels (number_of l b) v 0 inside ∙ sym (ap (λ x. cond x v (label_of l labels d)) same))
  | inr other ↦
      (let apart : number_of l d ≢ number_of l b =
      λ h. true≢false (sym (same_refl d) ∙ ap (λ (x : BlockId). same_block x d) (number_equal l d b hd hb h) ∙ other) in
      get_or-set_other labels (number_of l b) (number_of l d) v 0 apart ∙ sym (ap (λ x. cond x v (label_of l labels d)) other))
]

-- the block had no label, and has got this one
pub set_labels : (l : Lattice) (labels : List ℕ) (b : BlockId) (label : ℕ) → length labels ≡ blocks_count l → HasBlock l b → label_of l labels b ≡ 0
    → Labels l (same_block b) label labels (slice_set labels (number_of l b) label)
set_labels l labels b label long hb none d hd =
    label_set l labels b label long hb d hd
    ∙ elim (cases_Bool (same_block b d)) [
      | inl same ↦
          (let zero' : label_of l labels d ≡ 0 = ap (label_of l labels) (sym (same_true b d same)) ∙ none in
          ap (λ x. cond x label (label_of l labels d)) same
          ∙ sym (ap (λ x. cond (x && label_of l labels d == 0) label (label_of l labels d)) same ∙ ap (λ x. cond x label (label_of l labels d)) (eq-eqb (label_of l labels d) 0 zero')))
      | inr other ↦
          ap (λ x. cond x label (label_of l labels d)) other ∙ sym (ap (λ x. cond (x && label_of l labels d == 0) label (label_of l labels d)) other)
    ]

-- the block has a label
pub keep_labels : (l : Lattice) (labels : List ℕ) (b : BlockId) (label : ℕ) → label_of l labels b ≢ 0 → Labels l (same_block b) label labels labels
keep_labels l labels b label has d hd = elim (cases_Bool (same_block b d)) [
  | inl same ↦
      (let some : label_of l labels d ≢ 0 = λ h. has (ap (label_of l labels) (same_true b d same) ∙ h) in
      sym (ap (λ x. cond (x && label_of l labels d == 0) label (label_of l labels d)) same ∙ ap (λ x. cond x label (label_of l labels d)) (ne_eqb (label_of l labels d) 0 some)))
  | inr other ↦ sym (ap (λ x. cond (x && label_of l labels d == 0) label (label_of l labels d)) other)
]

and-false : (b : Bool) → (b && false) ≡ false
and-false true = refl
and-false false = refl

-- a label stays
pub stays : (l : Lattice) (test : BlockId → Bool) (label : ℕ) (labels new : List ℕ) → Labels l test label labels new → (b : BlockId) → HasBlock l b → label_of l labels b ≢ 0
    → label_of l new b ≡ label_of l labels b
stays l test label labels new are b hb has =
    are b hb
    ∙ ap (λ x. cond (test b && x) label (label_of l labels b)) (ne_eqb (label_of l labels b) 0 has)
    ∙ ap (λ x. cond x label (label_of l labels b)) (and-false (test b))

pub stays_some : (l : Lattice) (test : BlockId → Bool) (label : ℕ) (labels new : List ℕ) → Labels l test label labels new → (b : BlockId) → HasBlock l b → label_of l labels b ≢ 0
    → label_of l new b ≢ 0
stays_some l test label labels new are b hb has none = has (sym (stays l test label labels new are b hb has) ∙ none)

-- a block that does not pass stays as it was
pub kept : (l : Lattice) (test : BlockId → Bool) (label : ℕ) (labels new : List ℕ) → Labels l test label labels new → (b : BlockId) → HasBlock l b → test b ≡ false
    → label_of l new b ≡ label_of l labels b
kept l test label labels new are b hb out = are b hb ∙ ap (λ x. cond (x && label_of l labels b == 0) label (label_of l labels b)) out

-- one that passes has a label then
pub labelled : (l : Lattice) (test : BlockId → Bool) (label : ℕ) (labels new : List ℕ) → label ≢ 0 → Labels l test label labels new → (b : BlockId) → HasBlock l b → test b ≡ true
    → label_of l new b ≢ 0
labelled l test label labels new some are b hb passes none = elim (cases_eq (label_of l labels b) 0) [
  | inl zero' ↦
      some (sym (are b hb ∙ ap (λ x. cond (x && label_of l labels b == 0) label (label_of l labels b)) passes ∙ ap (λ x. cond x label (label_of l labels b)) (eq-eqb (label_of l labels b) 0 zero')) ∙ none)
  | inr had ↦ stays_some l test label labels new are b hb had none
]

-- a skip stays one
pub skip_stays : (l : Lattice) (test : BlockId → Bool) (label : ℕ) (labels new : List ℕ) → Labels l test label labels new → (c : Class) → HasParity l c → (j e : ℕ) → 1 ≤ j
    → IsSkip l labels c j e → IsSkip l new c j e
skip_stays l test label labels new are c hc j e first s = record {
  later = s.later;
  labelled = λ x inside along less.
      let parts = along_parts l c j x along in
      let from = parts.from in
      stays_some l test label labels new are (block_of x c) (record { first = omega arith; last = inside; used = hc.used }) (s.labelled x inside along less);
  goes_on = s.goes_on;
}

pub done_stays : (l : Lattice) (test : BlockId → Bool) (label : ℕ) (labels new : List ℕ) → Labels l test label labels new → (c : Class) → HasParity l c → (a e : ℕ) → 1 ≤ a
    → IsDone l labels c a e → IsDone l new c a e
done_stays l test label labels new are c hc a e first s = record {
  labelled = λ x inside along less.
      let parts = along_parts l c a x along in
      let from = parts.from in
      stays_some l test label labels new are (block_of x c) (record { first = omega arith; last = inside; used = hc.used }) (s.labelled x inside along less);
  goes_on = s.goes_on;
}

-- the datum of a node has no skip
pub datum_labels : (l : Lattice) (labels skips : List ℕ) (node label : ℕ) → HasNode l node → AreLabels l labels skips → label_of l labels (block_of node Datum) ≡ 0
    → AreLabels l (slice_set labels (number_of l (block_of node Datum)) label) skips
datum_labels l labels skips node label n s none =
    let b = block_of node Datum in
    let hb : HasBlock l b = record { first = n.first; last = n.last; used = omega arith } in
    let are = set_labels l labels b label s.labels_long hb none in
    record {
      labels_long = length-set labels (number_of l b) label ∙ s.labels_long;
      skips_long = s.skips_long;
      skips_are = λ j c hj hc has.
          let d = block_of j c in
          let hd : HasBlock l d = record { first = hj.first; last = hj.last; used = hc.used } in
          let out : same_block b d ≡ false = elim (cases_Bool (same_block b d)) [
            | inl same ↦ (let e : class_number Datum ≡ class_number c = ap (λ (x : BlockId). class_number x.class) (same_true b d same) in let p = hc.parity in absurd (omega arith))
            | inr other ↦ other
          ] in
          skip_stays l (same_block b) label labels (slice_set labels (number_of l b) label) are c hc j (label_of l skips d) hj.first
          (s.skips_are j c hj hc (λ h. has (kept l (same_block b) label labels (slice_set labels (number_of l b) label) are d hd out ∙ h)));
    }

-- a parity without a label has got one, and skips to the node after it
pub parity_labels : (l : Lattice) (labels skips : List ℕ) (node label e : ℕ) (c : Class) → HasNode l node → HasParity l c → label ≢ 0 → AreLabels l labels skips
    → label_of l labels (block_of node c) ≡ 0 → IsBehind l c node e
    → AreLabels l (slice_set labels (number_of l (block_of node c)) label) (slice_set skips (number_of l (block_of node c)) e)
parity_labels l labels skips node label e c n hc some s none behind =
    let b = block_of node c in
    let hb : HasBlock l b = record { first = n.first; last = n.last; used = hc.used } in
    let new = slice_set labels (number_of l b) label in
    let are = set_labels l labels b label s.labels_long hb none in
    record {
      labels_long = length-set labels (number_of l b) label ∙ s.labels_long;
      skips_long = length-set skips (number_of l b) e ∙ s.skips_long;
      skips_are = λ j d hj hd has.
          let x = block_of j d in
          let hx : HasBlock l x = record { first = hj.first; last = hj.last; used = hd.used } in
          let is : label_of l (slice_set skips (number_of l b) e) x ≡ cond (same_block b x) e (label_of l skips x) = label_set l skips b e s.skips_long hb x hx in
          elim (cases_Bool (same_block b x)) [
            | inl same ↦
                (let one : b ≡ x = same_true b x same in
                subst (λ (k : ℕ). IsSkip l new d j k) (sym (is ∙ ap (λ y. cond y e (label_of l skips x)) same))
                (subst (λ (y : BlockId). IsSkip l new y.class y.node e) one
                (record {
                  later = behind.later;
                  labelled = λ m inside along less.
                      subst (λ (k : ℕ). label_of l new (block_of k c) ≢ 0) (sym (behind.none m inside along less))
                      (labelled l (same_block b) label labels new some are b hb (same_refl b));
                  goes_on = behind.goes_on;
                })))
            | inr other ↦
                subst (λ (k : ℕ). IsSkip l new d j k) (sym (is ∙ ap (λ y. cond y e (label_of l skips x)) other))
                (skip_stays l (same_block b) label labels new are d hd j (label_of l skips x) hj.first
                (s.skips_are j d hj hd (λ h. has (kept l (same_block b) label labels new are x hx other ∙ h))))
          ];
    }

-- a parity skips to the end of a way that is done
pub short_labels : (l : Lattice) (labels skips : List ℕ) (from node end : ℕ) (c : Class) → HasNode l node → HasParity l c → AreLabels l labels skips → IsDone l labels c from end
    → is_along l c from node ≡ true → node < end → AreLabels l labels (slice_set skips (number_of l (block_of node c)) end)
short_labels l labels skips from node end c n hc s done along less =
    let b = block_of node c in
    let hb : HasBlock l b = record { first = n.first; last = n.last; used = hc.used } in
    record {
      labels_long = s.labels_long;
      skips_long = length-set skips (number_of l b) end ∙ s.skips_long;
      skips_are = λ j d hj hd has.
          let x = block_of j d in
          let hx : HasBlock l x = record { first = hj.first; last = hj.last; used = hd.used } in
          let is : label_of l (slice_set skips (number_of l b) end) x ≡ cond (same_block b x) end (label_of l skips x) = label_set l skips b end s.skips_long hb x hx in
          elim (cases_Bool (same_block b x)) [
            | inl same ↦
                subst (λ (k : ℕ). IsSkip l labels d j k) (sym (is ∙ ap (λ y. cond y end (label_of l skips x)) same))
                (subst (λ (y : BlockId). IsSkip l labels y.class y.node end) (same_true b x same)
                (record {
                  later = less;
                  labelled = λ m inside on m_less. done.labelled m inside (along_trans l c from node m along on) m_less;
                  goes_on = λ inside. along_split l c from node end along (done.goes_on inside) (omega arith);
                }))
            | inr other ↦ subst (λ (k : ℕ). IsSkip l labels d j k) (sym (is ∙ ap (λ y. cond y end (label_of l skips x)) other)) (s.skips_are j d hj hd has)
          ];
    }

-- where a way is done, the skip of its nodes goes on along it
pub skip_on : (l : Lattice) (labels skips : List ℕ) (from node end : ℕ) (c : Class) → HasNode l node → HasParity l c → AreLabels l labels skips → IsDone l labels c from end
    → is_along l c from node ≡ true → node < end → IsSkip l labels c node (label_of l skips (block_of node c))
skip_on l labels skips from node end c n hc s done along less = s.skips_are node c n hc (done.labelled node n.last along less)

-- so far the way was labelled
pub record IsWay (l : Lattice) (labels new skips : List ℕ) (c : Class) (from limit label node : ℕ) : Type 0 where
  pub are_labels : AreLabels l new skips
  pub only : (b : BlockId) → HasBlock l b
      → (label_of l new b ≡ label_of l labels b) ⊎ ((label_of l labels b ≡ 0) × (label_of l new b ≡ label) × (is_stretch l c from limit b ≡ true))
  pub done : IsDone l new c from node

pub way_begins : (l : Lattice) (labels skips : List ℕ) (c : Class) (from limit label : ℕ) → AreLabels l labels skips → IsWay l labels labels skips c from limit label from
way_begins l labels skips c from limit label s = record {
  are_labels = s;
  only = λ b hb. inl refl;
  done = record {
    labelled = λ x inside along less. (let parts = along_parts l c from x along in let low = parts.from in absurd (omega arith));
    goes_on = λ inside. along_refl l c from;
  };
}

pub way_on : (l : Lattice) (labels new skips more further : List ℕ) (c : Class) (from limit label node e : ℕ) → HasNode l from → HasParity l c → label ≢ 0 → node < limit → limit ≤ l.n + 1
    → IsWay l labels new skips c from limit label node → AreLabels l more further → Labels l (same_block (block_of node c)) label new more
    → e ≡ label_of l further (block_of node c) → IsWay l labels more further c from limit label e
way_on l labels new skips more further c from limit label node e hf hc some less high w s are is =
    let along : is_along l c from node ≡ true = w.done.goes_on (omega arith) in
    let parts = along_parts l c from node along in
    let low = parts.from in
    let first = hf.first in
    let b = block_of node c in
    let hn : HasNode l node = record { first = omega arith; last = omega arith } in
    let hb : HasBlock l b = record { first = hn.first; last = hn.last; used = hc.used } in
    let skip : IsSkip l more c node e =
    subst (λ (k : ℕ). IsSkip l more c node k) (sym is) (s.skips_are node c hn hc (labelled l (same_block b) label new more some are b hb (same_refl b))) in
    record {
      are_labels = s;
      only = λ d hd. elim (cases_Bool (same_block b d)) [
        | inl same ↦ elim (w.only d hd) [
          | inl old ↦ elim (cases_eq (label_of l new d) 0) [
            | inl zero' ↦
                inr (
                  sym old ∙ zero',
                  are d hd ∙ ap (λ x. cond (x && label_of l new d == 0) label (label_of l new d)) same ∙ ap (λ x. cond x label (label_of l new d)) (eq-eqb (label_of l new d) 0 zero'),
                  subst (λ (y : BlockId). is_stretch l c from limit y ≡ true) (same_true b d same)
                      (ap (λ x. x && (is_along l c from node && nat_lt node limit)) (eq-eqb (class_number c) (class_number c) refl)
                      ∙ ap (λ x. x && nat_lt node limit) along ∙ less_true node limit less),
                )
            | inr had ↦ inl (stays l (same_block b) label new more are d hd had ∙ old)
          ]
          | inr put ↦ inr (put.0, stays l (same_block b) label new more are d hd (λ h. some (sym put.1 ∙ h)) ∙ put.1, put.2)
        ]
        | inr other ↦ elim (w.only d hd) [
          | inl old ↦ inl (kept l (same_block b) label new more are d hd other ∙ old)
          | inr put ↦ inr (put.0, kept l (same_block b) label new more are d hd other ∙ put.1, put.2)
        ]
      ];
      done = record {
        labelled = λ x inside on x_less. elim (cases_lt x node) [
          | inl before ↦
              (let xp = along_parts l c from x on in
              let xl = xp.from in
              stays_some l (same_block b) label new more are (block_of x c) (record { first = omega arith; last = inside; used = hc.used }) (w.done.labelled x inside on before))
          | inr at ↦ skip.labelled x inside (along_split l c from node x along on at) x_less
        ];
        goes_on = λ inside. along_trans l c from node e along (skip.goes_on inside);
      };
    }
  where
    less_true : (a b : ℕ) → a < b → nat_lt a b ≡ true
    less_true a b h = grind (arith, nat_tests)

-- the way goes up
pub way_up : (l : Lattice) (labels new skips more further : List ℕ) (c : Class) (from limit label node e : ℕ) → HasNode l from → HasParity l c → label ≢ 0 → node < limit → limit ≤ l.n + 1
    → IsWay l labels new skips c from limit label node → AreLabels l more further → Labels l (same_block (block_of node c)) label new more
    → e ≡ label_of l further (block_of node c) → node < e
way_up l labels new skips more further c from limit label node e hf hc some less high w s are is =
    let along : is_along l c from node ≡ true = w.done.goes_on (omega arith) in
    let parts = along_parts l c from node along in
    let low = parts.from in
    let first = hf.first in
    let b = block_of node c in
    let hn : HasNode l node = record { first = omega arith; last = omega arith } in
    let hb : HasBlock l b = record { first = hn.first; last = hn.last; used = hc.used } in
    let skip = s.skips_are node c hn hc (labelled l (same_block b) label new more some are b hb (same_refl b)) in
    let later = skip.later in
    omega arith

pub way_node : (l : Lattice) (labels new skips : List ℕ) (c : Class) (from limit label node : ℕ) → HasNode l from → node < limit → limit ≤ l.n + 1
    → IsWay l labels new skips c from limit label node → HasNode l node
way_node l labels new skips c from limit label node hf less high w =
    let along : is_along l c from node ≡ true = w.done.goes_on (omega arith) in
    let parts = along_parts l c from node along in
    let low = parts.from in
    let first = hf.first in
    record { first = omega arith; last = omega arith }

-- at its end the stretch has labels
pub way_ends : (l : Lattice) (labels new skips : List ℕ) (c : Class) (from limit label node : ℕ) → HasNode l from → HasParity l c → limit ≤ node
    → IsWay l labels new skips c from limit label node → Labels l (is_stretch l c from limit) label labels new
way_ends l labels new skips c from limit label node hf hc past w b hb = elim (w.only b hb) [
  | inr put ↦
      put.1
      ∙ sym (ap (λ x. cond (x && label_of l labels b == 0) label (label_of l labels b)) put.2
      ∙ ap (λ x. cond x label (label_of l labels b)) (eq-eqb (label_of l labels b) 0 put.0))
  | inl old ↦ old ∙ elim (cases_eq (label_of l labels b) 0) [
    | inr had ↦
        sym (ap (λ x. cond (is_stretch l c from limit b && x) label (label_of l labels b)) (ne_eqb (label_of l labels b) 0 had)
        ∙ ap (λ x. cond x label (label_of l labels b)) (and-false (is_stretch l c from limit b)))
    | inl zero' ↦ elim (cases_Bool (is_stretch l c from limit b)) [
      | inr out ↦ sym (ap (λ x. cond (x && label_of l labels b == 0) label (label_of l labels b)) out)
      | inl inside ↦
          (let both = and_parts (class_number b.class == class_number c) (is_along l c from b.node && nat_lt b.node limit) inside in
          let rest = and_parts (is_along l c from b.node) (nat_lt b.node limit) both.1 in
          let class : c ≡ b.class = sym (class_number-equal b.class c (eqb-true (class_number b.class) (class_number c) both.0)) in
          let one : block_of b.node c ≡ b = λ i. record { node = b.node; class = class i } in
          absurd (w.done.labelled b.node hb.last rest.0 (below b.node limit node rest.1 past) (ap (label_of l new) one ∙ old ∙ zero')))
    ]
  ]
]
  where
    below : (x m n : ℕ) → nat_lt x m ≡ true → m ≤ n → x < n
    below x m n h le = let e : x < m = grind (arith, nat_tests) in omega arith
