-- The first nodes of a rising list.
use Rattle.std.proofs.Common.{◌≡◌, ◌≢◌, ℕ, zero, suc, ◌+◌, ◌-◌, ◌<◌, ◌≤◌, inl, inr, Bool, true, false, cond, ◌&&◌, ◌||◌, ◌==◌, List, [], ◌∷◌, length, get_or, take, refl, sym, ◌∙◌, ap, subst, arith}
use Rattle.std.proofs.lemmas.Bool.{cases_Bool, cases_eq, eq-eqb, eqb-true, ne_eqb, false≢true}
use Rattle.aea_lattice.specs.declared.blocks.Class.{Class}
use Rattle.aea_lattice.specs.declared.blocks.Class.TheVariants.{Datum, Horiz, Right, Left}
use Rattle.aea_lattice.specs.declared.blocks.BlockId.{BlockId}
use Rattle.aea_lattice.specs.declared.grid.Lattice.{Lattice}
use Rattle.aea_lattice.specs.Blocks.{HasParity, HasBlock, block_of, same_block, class_number, number_of}
use Rattle.aea_lattice.specs.Strands.{row, column, strand_of}
use Rattle.aea_lattice.specs.Equations.{is_in_codeword}
use Rattle.aea_lattice.specs.Parity.{differ}
use Rattle.aea_lattice.proofs.Neighbours.{some_rows, woven}
use Rattle.std.proofs.lemmas.Nat.{mod_below}
use Rattle.aea_sweep.specs.Words.{has_odd, RiseWithin}
use Rattle.aea_sweep.specs.Labels.{label_of, Labels}
use Rattle.aea_sweep.specs.Stretches.{AreStretches}
use Rattle.aea_sweep.specs.Firsts.{IsFirst, AreFirst}
use Rattle.aea_sweep.proofs.Codes.{one_of, codeword-none}
use Rattle.aea_sweep.proofs.States.{few_rows, few_strands, same_words}
use Rattle.aea_sweep.proofs.Labelling.{stays}

pub taken_more : (xs : List ℕ) (q i : ℕ) → q < length xs → has_odd (take (suc q) xs) i ≡ differ (has_odd (take q xs) i) (i == get_or xs q 0)
taken_more [] q i less = absurd (omega arith)
taken_more (x ∷ xs) zero i less = right (i == x)
  where
    right : (b : Bool) → differ b false ≡ b
    right true = refl
    right false = refl
taken_more (x ∷ xs) (suc q) i less =
    ap (differ (i == x)) (taken_more xs q i (omega arith)) ∙ swap (i == x) (has_odd (take q xs) i) (i == get_or xs q 0)
  where
    swap : (a b c : Bool) → differ a (differ b c) ≡ differ (differ a b) c
    swap true true true = refl
    swap true true false = refl
    swap true false c = refl
    swap false b c = refl

pub low_out : (low : ℕ) (xs : List ℕ) (top n : ℕ) → RiseWithin low xs top → n < low → has_odd xs n ≡ false
low_out low [] top n rises less = refl
low_out low (x ∷ xs) top n rises less =
    let first = rises.0 in
    let other : n ≢ x = omega arith in
    ap (λ (b : Bool). differ b (has_odd xs n)) (ne_eqb n x other) ∙ low_out (suc x) xs top n rises.1 (omega arith)

pub node_within : (low : ℕ) (xs : List ℕ) (top q : ℕ) → RiseWithin low xs top → q < length xs → (low ≤ get_or xs q 0) × (get_or xs q 0 < top)
node_within low [] top q rises less = absurd (omega arith)
node_within low (x ∷ xs) top zero rises less = (rises.0, bound (suc x) xs top rises.1)
  where
    bound : (low : ℕ) (xs : List ℕ) (top : ℕ) → RiseWithin low xs top → low ≤ top
    bound low [] top h = h
    bound low (x ∷ xs) top h = let rest = bound (suc x) xs top h.1 in let first = h.0 in omega arith
node_within low (x ∷ xs) top (suc q) rises less =
    let rest = node_within (suc x) xs top q rises.1 (omega arith) in
    let first = rises.0 in
    let a = rest.0 in
    (omega arith, rest.1)

pub taken_below : (low : ℕ) (xs : List ℕ) (top q n : ℕ) → RiseWithin low xs top → q < length xs → has_odd (take q xs) n ≡ true → n < get_or xs q 0
taken_below low [] top q n rises less is = absurd (omega arith)
taken_below low (x ∷ xs) top zero n rises less is = absurd (false≢true is)
taken_below low (x ∷ xs) top (suc q) n rises less is = elim (one_of (n == x) (has_odd (take q xs) n) is) [
  | inl here ↦
      (let e = eqb-true n x here in
      let within = node_within (suc x) xs top q rises.1 (omega arith) in
      let low' = within.0 in
      omega arith)
  | inr rest ↦ taken_below (suc x) xs top q n rises.1 (omega arith) rest
]

pub taken_agree : (low : ℕ) (xs : List ℕ) (top q n : ℕ) → RiseWithin low xs top → q < length xs → n < get_or xs q 0 → has_odd xs n ≡ has_odd (take q xs) n
taken_agree low [] top q n rises less below = absurd (omega arith)
taken_agree low (x ∷ xs) top zero n rises less below = low_out x (x ∷ xs) top n (omega arith, rises.1) below
taken_agree low (x ∷ xs) top (suc q) n rises less below = ap (differ (n == x)) (taken_agree (suc x) xs top q n rises.1 (omega arith) below)

pub strand_few : (l : Lattice) (c : Class) (i : ℕ) → HasParity l c → strand_of l c i < 64
strand_few l Datum i has = let h = has.parity in absurd (omega arith)
strand_few l Horiz i has = let below : row l i < l.s = mod_below (i - 1) l.s (some_rows l) in let f = few_rows l in omega arith
strand_few l Right i has =
    let shape = woven l has.used in
    let below : strand_of l Right i < l.p = mod_below (column l i + (l.p - row l i)) l.p (let a = shape.two in let b = shape.p_least in omega arith) in
    let f = few_strands l in
    omega arith
strand_few l Left i has =
    let shape = woven l (let used = has.used in omega arith) in
    let below : strand_of l Left i < l.p = mod_below (column l i + row l i) l.p (let a = shape.two in let b = shape.p_least in omega arith) in
    let f = few_strands l in
    omega arith

and-false : (b : Bool) → (b && false) ≡ false
and-false true = refl
and-false false = refl

-- labels given twice
pub labels_or : (l : Lattice) (first second both : BlockId → Bool) (label : ℕ) (labels mid new : List ℕ) → label ≢ 0 → ((b : BlockId) → HasBlock l b → both b ≡ (first b || second b))
    → Labels l first label labels mid → Labels l second label mid new → Labels l both label labels new
labels_or l first second both label labels mid new some either one two b hb = elim (cases_eq (label_of l labels b) 0) [
  | inr had ↦
      (let mid_is = stays l first label labels mid one b hb had in
      stays l second label mid new two b hb (λ h. had (sym mid_is ∙ h)) ∙ mid_is
      ∙ sym (ap (λ x. cond (both b && x) label (label_of l labels b)) (ne_eqb (label_of l labels b) 0 had)
      ∙ ap (λ x. cond x label (label_of l labels b)) (and-false (both b))))
  | inl zero' ↦
      (let rhs : cond (both b && label_of l labels b == 0) label (label_of l labels b) ≡ cond (first b || second b) label (label_of l labels b) =
      ap (λ x. cond (both b && x) label (label_of l labels b)) (eq-eqb (label_of l labels b) 0 zero') ∙ ap (λ x. cond x label (label_of l labels b)) (and-true (both b) ∙ either b hb) in
      let mid_is : label_of l mid b ≡ cond (first b) label (label_of l labels b) =
      one b hb ∙ ap (λ x. cond (first b && x) label (label_of l labels b)) (eq-eqb (label_of l labels b) 0 zero') ∙ ap (λ x. cond x label (label_of l labels b)) (and-true (first b)) in
      elim (cases_Bool (first b)) [
        | inl yes' ↦
            (let is : label_of l mid b ≡ label = mid_is ∙ ap (λ x. cond x label (label_of l labels b)) yes' in
            stays l second label mid new two b hb (λ h. some (sym is ∙ h)) ∙ is
            ∙ sym (rhs ∙ ap (λ x. cond (x || second b) label (label_of l labels b)) yes'))
        | inr lacks ↦
            (let is : label_of l mid b ≡ label_of l labels b = mid_is ∙ ap (λ x. cond x label (label_of l labels b)) lacks in
            two b hb ∙ ap (λ x. cond (second b && x) label (label_of l mid b)) (eq-eqb (label_of l mid b) 0 (is ∙ zero'))
            ∙ ap (λ x. cond x label (label_of l mid b)) (and-true (second b)) ∙ ap (λ x. cond (second b) label x) is
            ∙ sym (rhs ∙ ap (λ x. cond (x || second b) label (label_of l labels b)) lacks))
      ])
]
  where
    and-true : (b : Bool) → (b && true) ≡ b
    and-true true = refl
    and-true false = refl

pub eq_swap : (a b : ℕ) → (a == b) ≡ (b == a)
eq_swap a b = elim (cases_eq a b) [
  | inl e ↦ eq-eqb a b e ∙ sym (eq-eqb b a (sym e))
  | inr n ↦ ne_eqb a b n ∙ sym (ne_eqb b a (λ e. n (sym e)))
]

-- one more node's datum
pub data_more : (xs : List ℕ) (top q : ℕ) → RiseWithin 1 xs top → q < length xs → (b : BlockId)
    → (class_number b.class == 0 && has_odd (take (suc q) xs) b.node) ≡ ((class_number b.class == 0 && has_odd (take q xs) b.node) || same_block (block_of (get_or xs q 0) Datum) b)
data_more xs top q rises less b =
    ap (λ x. class_number b.class == 0 && x) (taken_more xs q b.node less)
    ∙ elim (cases_Bool (class_number b.class == 0)) [
      | inr other ↦
          ap (λ x. x && differ (has_odd (take q xs) b.node) (b.node == get_or xs q 0)) other
          ∙ sym (ap (λ x. (x && has_odd (take q xs) b.node) || (get_or xs q 0 == b.node && 0 == class_number b.class)) other
          ∙ ap (λ x. get_or xs q 0 == b.node && x) (eq_swap 0 (class_number b.class) ∙ other) ∙ and-false (get_or xs q 0 == b.node))
      | inl datum ↦
          ap (λ x. x && differ (has_odd (take q xs) b.node) (b.node == get_or xs q 0)) datum
          ∙ or_one (has_odd (take q xs) b.node) (b.node == get_or xs q 0) (get_or xs q 0 == b.node && 0 == class_number b.class)
          (λ is. ne_eqb b.node (get_or xs q 0) (λ e. (let h = taken_below 1 xs top q b.node rises less is in omega arith)))
          (eq_swap b.node (get_or xs q 0) ∙ sym (ap (λ x. get_or xs q 0 == b.node && x) (eq_swap 0 (class_number b.class) ∙ datum) ∙ and-true (get_or xs q 0 == b.node)))
          ∙ sym (ap (λ x. (x && has_odd (take q xs) b.node) || (get_or xs q 0 == b.node && 0 == class_number b.class)) datum)
    ]
  where
    and-true : (b : Bool) → (b && true) ≡ b
    and-true true = refl
    and-true false = refl

    or_one : (a b c : Bool) → (a ≡ true → b ≡ false) → b ≡ c → differ a b ≡ (a || c)
    or_one true b c out same = ap (differ true) (out refl)
    or_one false b c out same = same

-- before the first node nothing is in the codeword
pub stretches_none : (l : Lattice) (c : Class) (nodes : ℕ → Bool) (label : ℕ) (labels starts : List ℕ) → ((s : ℕ) → get_or starts s 0 ≡ 0)
    → AreStretches l c (has_odd []) nodes label labels labels starts
stretches_none l c nodes label labels starts empty = record {
  ending = record {
    some = λ s has. absurd (has (empty s));
    covered = λ x hx has. absurd (false≢true (sym (codeword-none l (block_of x c)) ∙ has));
    only = λ b hb. inl refl;
  };
  none = λ x hx low free. codeword-none l (block_of x c);
}

-- the nodes that were passed, and one more
pub stretches_more : (l : Lattice) (c : Class) (xs : List ℕ) (q label : ℕ) (labels new starts : List ℕ) → q < length xs
    → AreStretches l c (λ n. differ (has_odd (take q xs) n) (n == get_or xs q 0)) (has_odd xs) label labels new starts
    → AreStretches l c (has_odd (take (suc q) xs)) (has_odd xs) label labels new starts
stretches_more l c xs q label labels new starts less s =
    subst (λ (f : ℕ → Bool). AreStretches l c f (has_odd xs) label labels new starts)
    (sym (same_words (has_odd (take (suc q) xs)) (λ n. differ (has_odd (take q xs) n) (n == get_or xs q 0)) (λ n. taken_more xs q n less))) s

-- before the first word no block has one
pub first_none : (l : Lattice) (from : ℕ) (words : ℕ → ℕ → Bool) (labels : List ℕ) → ((k : ℕ) → get_or labels k 0 ≡ 0) → AreFirst l from from words labels
first_none l from words labels none b hb = record {
  none = λ zero' r low less. absurd (omega arith);
  some = λ has. absurd (has (none (number_of l b)));
}

-- the blocks of one more word that had none have this one
pub first_more : (l : Lattice) (from r : ℕ) (words : ℕ → ℕ → Bool) (labels new : List ℕ) → from ≤ r → 1 ≤ from → Labels l (is_in_codeword l (words r)) r labels new
    → AreFirst l from r words labels → AreFirst l from (suc r) words new
first_more l from r words labels new low some are f b hb = elim (cases_eq (label_of l labels b) 0) [
  | inr had ↦
      (let same = stays l (is_in_codeword l (words r)) r labels new are b hb had in
      let was = (f b hb).some had in
      let less = was.1 in
      subst (λ (k : ℕ). IsFirst l from (suc r) words b k) (sym same)
      (record { none = λ zero' q q_low q_less. absurd (had zero'); some = λ has. (was.0, omega arith, was.2, was.3) }))
  | inl zero' ↦ elim (cases_Bool (is_in_codeword l (words r) b)) [
    | inl is ↦
        (let now : label_of l new b ≡ r =
        are b hb ∙ ap (λ x. cond (x && label_of l labels b == 0) r (label_of l labels b)) is ∙ ap (λ x. cond x r (label_of l labels b)) (eq-eqb (label_of l labels b) 0 zero') in
        subst (λ (k : ℕ). IsFirst l from (suc r) words b k) (sym now)
        (record { none = λ h q q_low q_less. absurd (omega arith); some = λ has. (low, omega arith, is, λ q q_low q_less. (f b hb).none zero' q q_low q_less) }))
    | inr lacks ↦
        (let now : label_of l new b ≡ label_of l labels b = are b hb ∙ ap (λ x. cond (x && label_of l labels b == 0) r (label_of l labels b)) lacks in
        subst (λ (k : ℕ). IsFirst l from (suc r) words b k) (sym now)
        (record {
          none = λ h q q_low q_less. elim (cases_eq q r) [
            | inl last ↦ ap (λ (k : ℕ). is_in_codeword l (words k) b) last ∙ lacks
            | inr before ↦ (f b hb).none zero' q q_low (omega arith)
          ];
          some = λ has. absurd (has zero');
        }))
  ]
]
