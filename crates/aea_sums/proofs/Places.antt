-- The places of strands, and which blocks come before which.
use Rattle.std.proofs.Common.{◌≡◌, ◌≢◌, ◌⊎◌, ℕ, ◌+◌, ◌-◌, ◌*◌, ◌<◌, ◌≤◌, inl, inr, Some, refl, sym, ◌∙◌, ap, arith}
use Rattle.std.proofs.lemmas.Nat.{mod_below}
use Rattle.std.proofs.lemmas.Bool.{cases_lt, cases_eq}
use Rattle.std.proofs.lemmas.Bool.Decides.{nat_tests}
use Rattle.std.proofs.Math.Nat.{mul-le-mul_right}
use Rattle.aea_lattice.specs.declared.blocks.Class.{Class}
use Rattle.aea_lattice.specs.declared.blocks.Class.TheVariants.{Datum, Horiz, Right, Left}
use Rattle.aea_lattice.specs.declared.blocks.BlockId.{BlockId}
use Rattle.aea_lattice.specs.declared.grid.Lattice.{Lattice}
use Rattle.aea_lattice.specs.Blocks.{HasBlock, HasParity, class_number, number_of}
use Rattle.aea_lattice.specs.Strands.{row, column, strand_of, previous}
use Rattle.aea_lattice.specs.Neighbours.{neighbour}
use Rattle.aea_lattice.proofs.Neighbours.{some_rows, woven}
use Rattle.aea_lattice.proofs.Strands.{IsJustBefore, IsJustBefore-neighbour}
use Rattle.aea_lattice.proofs.Runs.{previous-neighbour, joined_is}
use Rattle.aea_sums.specs.Vectors.{parity_number, parities_count}
use Rattle.aea_sums.specs.Places.{places_of, place_on, place_at}

pub few_rows : (l : Lattice) → l.s ≤ 16
few_rows l = let h = l.in_profile in grind (arith, nat_tests)

pub few_strands : (l : Lattice) → l.p ≤ 64
few_strands l = let h = l.in_profile in grind (arith, nat_tests)

-- there are fewer places than heads
pub few_places : (l : Lattice) → places_of l < 192
few_places l = let a = few_rows l in let b = few_strands l in omega arith

place-below : (l : Lattice) (c : Class) (i : ℕ) → HasParity l c → place_on l c (strand_of l c i) < places_of l
place-below l Datum i has = let h = has.parity in absurd (omega arith)
place-below l Horiz i has = let below : row l i < l.s = mod_below (i - 1) l.s (some_rows l) in omega arith
place-below l Right i has =
    let shape = woven l has.used in
    let below : strand_of l Right i < l.p = mod_below (column l i + (l.p - row l i)) l.p (let a = shape.two in let b = shape.p_least in omega arith) in
    omega arith
place-below l Left i has =
    let shape = woven l (let used = has.used in omega arith) in
    let below : strand_of l Left i < l.p = mod_below (column l i + row l i) l.p (let a = shape.two in let b = shape.p_least in omega arith) in
    omega arith

pub place_below : (l : Lattice) (b : BlockId) → HasBlock l b → 1 ≤ class_number b.class → place_at l b < places_of l
place_below l b has parity = place-below l b.class b.node (record { parity = parity; used = has.used })

pub place_few : (l : Lattice) (b : BlockId) → HasBlock l b → 1 ≤ class_number b.class → place_at l b < 192
place_few l b has parity = let a = place_below l b has parity in let e = few_places l in omega arith

-- two parities at one place are of one class and one strand
class_place : (l : Lattice) (c d : Class) (i j : ℕ) → HasParity l c → HasParity l d → place_on l c (strand_of l c i) ≡ place_on l d (strand_of l d j) → c ≡ d
class_place l Datum d i j a b same = let h = a.parity in absurd (omega arith)
class_place l Horiz Datum i j a b same = let h = b.parity in absurd (omega arith)
class_place l Horiz Horiz i j a b same = refl
class_place l Horiz Right i j a b same = let e : strand_of l Horiz i < l.s = mod_below (i - 1) l.s (some_rows l) in absurd (omega arith)
class_place l Horiz Left i j a b same = let e : strand_of l Horiz i < l.s = mod_below (i - 1) l.s (some_rows l) in absurd (omega arith)
class_place l Right Datum i j a b same = let h = b.parity in absurd (omega arith)
class_place l Right Horiz i j a b same = let e : strand_of l Horiz j < l.s = mod_below (j - 1) l.s (some_rows l) in absurd (omega arith)
class_place l Right Right i j a b same = refl
class_place l Right Left i j a b same =
    let shape = woven l a.used in
    let below : strand_of l Right i < l.p = mod_below (column l i + (l.p - row l i)) l.p (let x = shape.two in let y = shape.p_least in omega arith) in
    absurd (omega arith)
class_place l Left Datum i j a b same = let h = b.parity in absurd (omega arith)
class_place l Left Horiz i j a b same = let e : strand_of l Horiz j < l.s = mod_below (j - 1) l.s (some_rows l) in absurd (omega arith)
class_place l Left Right i j a b same =
    let shape = woven l b.used in
    let below : strand_of l Right j < l.p = mod_below (column l j + (l.p - row l j)) l.p (let x = shape.two in let y = shape.p_least in omega arith) in
    absurd (omega arith)
class_place l Left Left i j a b same = refl

strand_place : (l : Lattice) (c : Class) (i j : ℕ) → place_on l c i ≡ place_on l c j → i ≡ j
strand_place l Datum i j same = same
strand_place l Horiz i j same = same
strand_place l Right i j same = omega arith
strand_place l Left i j same = omega arith

pub one_class : (l : Lattice) (b d : BlockId) → HasBlock l b → HasBlock l d → 1 ≤ class_number b.class → 1 ≤ class_number d.class → place_at l b ≡ place_at l d → b.class ≡ d.class
one_class l b d hb hd pb pd same = class_place l b.class d.class b.node d.node (record { parity = pb; used = hb.used }) (record { parity = pd; used = hd.used }) same

pub one_strand : (l : Lattice) (b d : BlockId) → HasBlock l b → HasBlock l d → 1 ≤ class_number b.class → 1 ≤ class_number d.class → place_at l b ≡ place_at l d
    → strand_of l b.class b.node ≡ strand_of l b.class d.node
one_strand l b d hb hd pb pd same =
    let c = one_class l b d hb hd pb pd same in
    strand_place l b.class (strand_of l b.class b.node) (strand_of l b.class d.node)
    (same ∙ ap (λ (x : Class). place_on l x (strand_of l x d.node)) (sym c))

pub just_before : (l : Lattice) (c : Class) (j g : ℕ) → previous l c j ≡ Some g → IsJustBefore l c g j
just_before l c j g was = IsJustBefore-neighbour l c j g (joined_is l j g (neighbour l c j) (sym (previous-neighbour l c j) ∙ was)).0

-- blocks of earlier nodes have lower numbers
pub number_before : (l : Lattice) (b d : BlockId) → HasBlock l b → HasBlock l d → b.node < d.node → number_of l b < number_of l d
number_before l b d hb hd less =
    let first = hb.first in
    let used = hb.used in
    let m : ((b.node - 1) + 1) * (1 + l.alpha) ≤ (d.node - 1) * (1 + l.alpha) = (let s : (b.node - 1) + 1 ≤ d.node - 1 = omega arith in mul-le-mul_right (1 + l.alpha) s) in
    omega arith

-- and of one node those of lower classes
pub number_within : (l : Lattice) (b d : BlockId) → b.node ≡ d.node → class_number b.class ≤ class_number d.class → number_of l b ≤ number_of l d
number_within l b d same le =
    let e : (b.node - 1) * (1 + l.alpha) ≡ (d.node - 1) * (1 + l.alpha) = ap (λ (n : ℕ). (n - 1) * (1 + l.alpha)) same in
    omega arith

-- a block with a higher number is of a later node, or of the same node and a higher class
pub number_order : (l : Lattice) (b d : BlockId) → HasBlock l b → HasBlock l d → number_of l b < number_of l d → (b.node < d.node) ⊎ ((b.node ≡ d.node) × (class_number b.class < class_number d.class))
number_order l b d hb hd less = elim (cases_lt b.node d.node) [
  | inl before ↦ inl before
  | inr from ↦ elim (cases_eq b.node d.node) [
    | inl same ↦ elim (cases_lt (class_number b.class) (class_number d.class)) [
      | inl low ↦ inr (same, low)
      | inr high ↦ (let le : number_of l d ≤ number_of l b = number_within l d b (sym same) high in absurd (omega arith))
    ]
    | inr other ↦ (let after : number_of l d < number_of l b = number_before l d b hd hb (omega arith) in absurd (omega arith))
  ]
]

-- between a parity and the next one on its strand there is no parity at their place
pub none_at : (l : Lattice) (d e x : BlockId) → HasBlock l d → HasBlock l e → HasBlock l x → 1 ≤ class_number d.class → 1 ≤ class_number x.class → e.class ≡ d.class
    → previous l d.class e.node ≡ Some d.node → number_of l d < number_of l x → number_of l x < number_of l e → place_at l x ≢ place_at l d
none_at l d e x hd he hx pd px same was after before at =
    let class = one_class l x d hx hd px pd at in
    let strand : strand_of l x.class x.node ≡ strand_of l x.class d.node = one_strand l x d hx hd px pd at in
    let just = just_before l d.class e.node d.node was in
    let classes : class_number x.class ≡ class_number d.class = ap class_number class in
    let classes_e : class_number e.class ≡ class_number d.class = ap class_number same in
    let first : d.node < x.node = (elim (number_order l d x hd hx after) [ inl h ↦ h | inr h ↦ (let c = h.1 in absurd (omega arith)) ]) in
    let second : x.node < e.node = (elim (number_order l x e hx he before) [ inl h ↦ h | inr h ↦ (let c = h.1 in absurd (omega arith)) ]) in
    just.none_between x.node first second
    (sym (ap (λ (c : Class). strand_of l c x.node) class) ∙ strand ∙ ap (λ (c : Class). strand_of l c d.node) class ∙ just.same)

-- of the node's blocks before a parity none is at its place
pub none_within : (l : Lattice) (d e x : BlockId) → HasBlock l d → HasBlock l e → HasBlock l x → 1 ≤ class_number e.class → 1 ≤ class_number x.class → e.node ≡ d.node
    → number_of l d < number_of l x → number_of l x < number_of l e → place_at l x ≢ place_at l e
none_within l d e x hd he hx pe px same after before at =
    let class = one_class l x e hx he px pe at in
    let classes : class_number x.class ≡ class_number e.class = ap class_number class in
    let low : d.node ≤ x.node = (elim (number_order l d x hd hx after) [ inl h ↦ omega arith | inr h ↦ (let n = h.0 in omega arith) ]) in
    elim (number_order l x e hx he before) [ inl h ↦ omega arith | inr h ↦ (let c = h.1 in omega arith) ]

-- ---- the numbers of parities

-- q + 1 is a node of n, of a class c of a
below_at : (n q m a c : ℕ) → n ≡ q + 1 + m → c ≤ a → q * (1 + a) + c + n < n * (1 + a) + (q + 1)
below_at n q m a c e le = omega (arith, ap (λ x. x * (1 + a)) e)

before_at : (p q m a c e : ℕ) → p ≡ q + 1 + m → c ≤ a → 1 ≤ e → q * (1 + a) + c + (p + 1) < p * (1 + a) + e + (q + 1)
before_at p q m a c e is le some = omega (arith, ap (λ x. x * (1 + a)) is)

within_at : (q a : ℕ) → q ≤ q * (1 + a)
within_at q a = omega arith

pub node_within : (l : Lattice) (d : BlockId) → HasBlock l d → 1 ≤ class_number d.class → d.node ≤ number_of l d
node_within l d hd pd = let h = within_at (d.node - 1) l.alpha in let first = hd.first in omega arith

pub parity_below : (l : Lattice) (d : BlockId) → HasBlock l d → 1 ≤ class_number d.class → parity_number l d < parities_count l
parity_below l d hd pd =
    let first = hd.first in
    let last = hd.last in
    let within = node_within l d hd pd in
    let h = below_at l.n (d.node - 1) (l.n - d.node) l.alpha (class_number d.class) (omega arith) hd.used in
    omega arith

pub parity_before : (l : Lattice) (d b : BlockId) → HasBlock l d → HasBlock l b → 1 ≤ class_number d.class → 1 ≤ class_number b.class
    → number_of l d < number_of l b → parity_number l d < parity_number l b
parity_before l d b hd hb pd pb low =
    let first = hd.first in
    let first_b = hb.first in
    let within = node_within l d hd pd in
    let within_b = node_within l b hb pb in
    elim (cases_eq d.node b.node) [
      | inl same ↦ omega arith
      | inr other ↦ elim (cases_lt d.node b.node) [
        | inl less ↦
            (let h = before_at (b.node - 1) (d.node - 1) (b.node - d.node - 1) l.alpha (class_number d.class) (class_number b.class) (omega arith) hd.used pb in
            omega arith)
        | inr more ↦ (let h : number_of l b < number_of l d = number_before l b d hb hd (omega arith) in absurd (omega arith))
      ]
    ]
