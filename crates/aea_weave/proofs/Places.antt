-- The places of strands in strand order, and a payload added at those of the last node.
use Rattle.std.proofs.Common.{◌≡◌, ◌≢◌, ℕ, ◌+◌, ◌-◌, ◌*◌, ◌<◌, ◌≤◌, inl, inr, List, [], length, get_or, refl, sym, ◌∙◌, ap, subst, arith}
use Rattle.std.proofs.Math.ListN.{set}
use Rattle.std.proofs.Math.Nat.{mul-le-mul_left}
use Rattle.std.proofs.lemmas.Bool.{cases_lt}
use Rattle.std.proofs.lemmas.Nat.{mod_below}
use Rattle.std.proofs.lemmas.List.{get_or-set_same, get_or-set_other, length-set}
use Rattle.aea_lattice.specs.declared.blocks.Class.{Class}
use Rattle.aea_lattice.specs.declared.blocks.Class.TheVariants.{Datum, Horiz, Right, Left}
use Rattle.aea_lattice.specs.declared.grid.Lattice.{Lattice}
use Rattle.aea_lattice.specs.Blocks.{class_number, HasParity}
use Rattle.aea_lattice.specs.Strands.{column, row, strand_of}
use Rattle.aea_lattice.specs.Data.{xor_bytes}
use Rattle.aea_lattice.specs.Ends.{strands_of}
use Rattle.aea_lattice.proofs.Neighbours.{some_rows, woven}
use Rattle.aea_lattice.specs.Growth.{IsGrown}
use Rattle.aea_weave.specs.Woven.{Woven, strands_before, Weaves, Sets}
use Rattle.aea_weave.specs.Stored.{all_strands, last_place, IsAdded}

-- two strands with one place are one
pub same_place : (l : Lattice) (c d : Class) (i j : ℕ) → i < strands_of l c → j < strands_of l d
    → strands_before l c + i ≡ strands_before l d + j → (c ≡ d) × (i ≡ j)
same_place l Datum d i j hi hj e = absurd (omega arith)
same_place l Horiz Datum i j hi hj e = absurd (omega arith)
same_place l Horiz Horiz i j hi hj e = (refl, omega arith)
same_place l Horiz Right i j hi hj e = absurd (omega arith)
same_place l Horiz Left i j hi hj e = absurd (omega arith)
same_place l Right Datum i j hi hj e = absurd (omega arith)
same_place l Right Horiz i j hi hj e = absurd (omega arith)
same_place l Right Right i j hi hj e = (refl, omega arith)
same_place l Right Left i j hi hj e = absurd (omega arith)
same_place l Left Datum i j hi hj e = absurd (omega arith)
same_place l Left Horiz i j hi hj e = absurd (omega arith)
same_place l Left Right i j hi hj e = absurd (omega arith)
same_place l Left Left i j hi hj e = (refl, omega arith)

-- a strand's place is one of as many as there are strands
pub place-within : (l : Lattice) (c : Class) (i : ℕ) → HasParity l c → i < strands_of l c → strands_before l c + i < all_strands l
place-within l Datum i parity below = absurd (omega arith)
place-within l Horiz i parity below = omega arith
place-within l Right i parity below =
    let used = parity.used in
    let most : l.p * 1 ≤ l.p * (l.alpha - 1) = mul-le-mul_left l.p (omega arith) in
    omega arith
place-within l Left i parity below =
    let used = parity.used in
    let most : l.p * 2 ≤ l.p * (l.alpha - 1) = mul-le-mul_left l.p (omega arith) in
    omega arith

-- a strand of a class is one of as many as the class has
pub strand-below : (l : Lattice) (c : Class) (i : ℕ) → HasParity l c → strand_of l c i < strands_of l c
strand-below l Datum i parity = absurd (let h = parity.parity in omega arith)
strand-below l Horiz i parity = mod_below (i - 1) l.s (some_rows l)
strand-below l Right i parity =
    let shape = woven l parity.used in
    mod_below (column l i + (l.p - row l i)) l.p (let a = shape.two in let b = shape.p_least in omega arith)
strand-below l Left i parity =
    let shape = woven l (let h = parity.used in omega arith) in
    mod_below (column l i + row l i) l.p (let a = shape.two in let b = shape.p_least in omega arith)

-- the last node's strands of two classes have two places
last-apart : (l : Lattice) (c d : Class) → c ≢ d → HasParity l c → HasParity l d → last_place l c ≢ last_place l d
last-apart l c d differ hc hd e =
    differ (same_place l c d (strand_of l c l.n) (strand_of l d l.n) (strand-below l c l.n hc) (strand-below l d l.n hd) e).0

-- ---- a payload added to the heads of one class

length-added : (l : Lattice) (c : Class) (x : List ℕ) (h g : List (List ℕ)) → 1 ≤ class_number c → IsAdded l c x h g → length g ≡ length h
length-added l c x h g parity is = elim (cases_lt l.alpha (class_number c)) [
  | inl unused ↦ ap length (is.unused unused)
  | inr used ↦
      ap length (is.added (record { parity = parity; used = used }))
      ∙ length-set h (last_place l c) (xor_bytes (get_or h (last_place l c) []) x)
]

added-other : (l : Lattice) (c : Class) (x : List ℕ) (h g : List (List ℕ)) (k : ℕ) → 1 ≤ class_number c → (HasParity l c → k ≢ last_place l c) → IsAdded l c x h g
    → get_or g k [] ≡ get_or h k []
added-other l c x h g k parity other is = elim (cases_lt l.alpha (class_number c)) [
  | inl unused ↦ ap (λ v. get_or v k []) (is.unused unused)
  | inr used ↦
      let has : HasParity l c = record { parity = parity; used = used } in
      ap (λ v. get_or v k []) (is.added has)
      ∙ get_or-set_other h (last_place l c) k (xor_bytes (get_or h (last_place l c) []) x) [] (other has)
]

added-own : (l : Lattice) (c : Class) (x : List ℕ) (h g : List (List ℕ)) → HasParity l c → last_place l c < length h → IsAdded l c x h g
    → get_or g (last_place l c) [] ≡ xor_bytes (get_or h (last_place l c) []) x
added-own l c x h g has inside is =
    ap (λ v. get_or v (last_place l c) []) (is.added has)
    ∙ get_or-set_same h (last_place l c) (xor_bytes (get_or h (last_place l c) []) x) [] inside

-- the payload added to those of all classes
pub record AreAdded (l : Lattice) (x : List ℕ) (old new : List (List ℕ)) : Type 0 where
  pub first : List (List ℕ)
  pub second : List (List ℕ)
  pub horiz : IsAdded l Horiz x old first
  pub right : IsAdded l Right x first second
  pub left : IsAdded l Left x second new
  pub all : length old ≡ all_strands l

module _ (l : Lattice) (x : List ℕ) (old new : List (List ℕ)) (is : AreAdded l x old new) where
  last-within : (c : Class) → HasParity l c → last_place l c < all_strands l
  last-within c has = place-within l c (strand_of l c l.n) has (strand-below l c l.n has)

  pub all-own : (c : Class) → HasParity l c → get_or new (last_place l c) [] ≡ xor_bytes (get_or old (last_place l c) []) x
  all-own Datum has = absurd (let h = has.parity in omega arith)
  all-own Horiz has =
      added-other l Left x is.second new (last_place l Horiz) (omega arith) (λ h. last-apart l Horiz Left (λ e. cc) has h) is.left
      ∙ added-other l Right x is.first is.second (last_place l Horiz) (omega arith) (λ h. last-apart l Horiz Right (λ e. cc) has h) is.right
      ∙ added-own l Horiz x old is.first has (let a = is.all in let b = last-within Horiz has in omega arith) is.horiz
  all-own Right has =
      added-other l Left x is.second new (last_place l Right) (omega arith) (λ h. last-apart l Right Left (λ e. cc) has h) is.left
      ∙ added-own l Right x is.first is.second has
      (let a = is.all in let b = last-within Right has in let e = length-added l Horiz x old is.first (omega arith) is.horiz in omega arith) is.right
      ∙ ap (λ v. xor_bytes v x) (added-other l Horiz x old is.first (last_place l Right) (omega arith) (λ h. last-apart l Right Horiz (λ e. cc) has h) is.horiz)
  all-own Left has =
      added-own l Left x is.second new has
      (let a = is.all in
      let b = last-within Left has in
      let e = length-added l Horiz x old is.first (omega arith) is.horiz in
      let f = length-added l Right x is.first is.second (omega arith) is.right in
      omega arith) is.left
      ∙ ap (λ v. xor_bytes v x)
      (added-other l Right x is.first is.second (last_place l Left) (omega arith) (λ h. last-apart l Left Right (λ e. cc) has h) is.right
      ∙ added-other l Horiz x old is.first (last_place l Left) (omega arith) (λ h. last-apart l Left Horiz (λ e. cc) has h) is.horiz)

  pub all-others : (k : ℕ) → ((c : Class) → HasParity l c → k ≢ last_place l c) → get_or new k [] ≡ get_or old k []
  all-others k other =
      added-other l Left x is.second new k (omega arith) (other Left) is.left
      ∙ added-other l Right x is.first is.second k (omega arith) (other Right) is.right
      ∙ added-other l Horiz x old is.first k (omega arith) (other Horiz) is.horiz

-- a strand on which the last node does not lie has a place of its own
other-place : (l : Lattice) (c d : Class) (strand : ℕ) → HasParity l d → strand < strands_of l c → strand ≢ strand_of l c l.n → strands_before l c + strand ≢ last_place l d
other-place l c d strand has below other e =
    let same = same_place l c d strand (strand_of l d l.n) below (strand-below l d l.n has) e in
    other (same.1 ∙ ap (λ b. strand_of l b l.n) (sym same.0))

before-same : (l m : Lattice) → IsGrown l (l.n + 1) m → (c : Class) → strands_before m c ≡ strands_before l c
before-same l m grown Datum = refl
before-same l m grown Horiz = refl
before-same l m grown Right = grown.shape.s
before-same l m grown Left = let s = grown.shape.s in let p = grown.shape.p in omega arith

-- what a step does to the heads
pub weaves : (old new : Woven) (x : List ℕ) → IsGrown old.lattice (old.lattice.n + 1) new.lattice → new.size ≡ old.size → AreAdded new.lattice x old.heads new.heads → Weaves old new x
weaves old new x grown size is = record {
  grown = grown;
  size = size;
  own = λ c has.
      all-own new.lattice x old.heads new.heads is c has
      ∙ ap (λ b. xor_bytes (get_or old.heads (b + strand_of new.lattice c new.lattice.n) []) x) (before-same old.lattice new.lattice grown c);
  others = λ c strand has below other.
      all-others new.lattice x old.heads new.heads is (strands_before new.lattice c + strand) (λ d hd. other-place new.lattice c d strand hd below other)
      ∙ ap (λ b. get_or old.heads (b + strand) []) (before-same old.lattice new.lattice grown c);
}

-- what a new head does to the heads
pub sets : (l : Lattice) (w : ℕ) (heads new : List (List ℕ)) (c : Class) (strand : ℕ) (x : List ℕ) → new ≡ set heads (strands_before l c + strand) x → length heads ≡ all_strands l → HasParity l c → strand < strands_of l c
    → Sets (record { lattice = l; size = w; heads = heads }) (record { lattice = l; size = w; heads = new }) c strand x
sets l w heads new c strand x is long parity below = record {
  lattice = refl;
  size = refl;
  own =
      ap (λ hs. get_or hs (strands_before l c + strand) []) is
      ∙ get_or-set_same heads (strands_before l c + strand) x [] (let h = place-within l c strand parity below in omega arith);
  others = λ d other has_other below_other differ.
      ap (λ hs. get_or hs (strands_before l d + other) []) is
      ∙ get_or-set_other heads (strands_before l c + strand) (strands_before l d + other) x []
      (λ e. differ (same_place l d c other strand below_other below e));
}

-- what a payload that is added to the heads of one class leaves
pub record Adds (c : Class) (x : List ℕ) (old new : Woven) : Type 0 where
  pub lattice : new.lattice ≡ old.lattice
  pub size : new.size ≡ old.size
  pub heads : IsAdded old.lattice c x old.heads new.heads

-- what the parts of a step make together
pub weaves-parts : (old grown first second new : Woven) (x : List ℕ) → IsGrown old.lattice (old.lattice.n + 1) grown.lattice → grown.size ≡ old.size → grown.heads ≡ old.heads → length grown.heads ≡ all_strands grown.lattice
    → Adds Horiz x grown first → Adds Right x first second → Adds Left x second new → Weaves old new x
weaves-parts old grown first second new x is size heads long horiz right left =
    let at_second : new.lattice ≡ second.lattice = left.lattice in
    let at_first : new.lattice ≡ first.lattice = left.lattice ∙ right.lattice in
    let at_grown : new.lattice ≡ grown.lattice = left.lattice ∙ right.lattice ∙ horiz.lattice in
    weaves old new x (subst (λ l. IsGrown old.lattice (old.lattice.n + 1) l) (sym at_grown) is) (left.size ∙ right.size ∙ horiz.size ∙ size)
    (record {
      first = first.heads;
      second = second.heads;
      horiz = subst (λ l. IsAdded l Horiz x old.heads first.heads) (sym at_grown) (subst (λ h. IsAdded grown.lattice Horiz x h first.heads) heads horiz.heads);
      right = subst (λ l. IsAdded l Right x first.heads second.heads) (sym at_first) right.heads;
      left = subst (λ l. IsAdded l Left x second.heads new.heads) (sym at_second) left.heads;
      all = ap length (sym heads) ∙ long ∙ ap all_strands (sym at_grown);
    })
