-- The blocks of an equation, what an equation forces, and when it forces no block.
use Rattle.std.proofs.Common.{◌≡◌, ◌≢◌, ℕ, ◌+◌, ◌*◌, ◌-◌, ◌<◌, ◌≤◌, inl, inr, Bool, true, false, not, ◌&&◌, ◌||◌, ◌==◌, List, [], ◌∷◌, ◌++◌, Option, Some, None, IfSome, MatchOption, option_map, IsTrue, refl, sym, ◌∙◌, ap, subst, arith, eqb-true, eq-eqb}
use Rattle.std.specs.List.{list_any}
use Rattle.std.proofs.lemmas.Bool.{and_parts, and_from, or_cases, or_left, or_right, cases_lt, false≢true}
use Rattle.std.proofs.Math.Nat.{mul-le-mul_right}
use Rattle.aea_lattice.specs.declared.blocks.Class.{Class}
use Rattle.aea_lattice.specs.declared.blocks.Class.TheVariants.{Datum, Horiz, Right, Left}
use Rattle.aea_lattice.specs.declared.blocks.BlockId.{BlockId}
use Rattle.aea_lattice.specs.declared.blocks.EqId.{EqId}
use Rattle.aea_lattice.specs.declared.grid.Lattice.{Lattice}
use Rattle.aea_lattice.specs.Blocks.{class_number, block_of, same_block, HasBlock, number_of, blocks_count}
use Rattle.aea_lattice.specs.Strands.{previous}
use Rattle.aea_lattice.specs.Equations.{HasEquation, is_in_equation, input_blocks}
use Rattle.aea_lattice.specs.Closure.{IsForcedBy}
use Rattle.aea_lattice.proofs.Prefixes.{previous-first, previous-before}

-- ---- blocks

-- two classes with the same number are one
pub class_number-equal : (c d : Class) → class_number c ≡ class_number d → c ≡ d
class_number-equal Datum Datum h = refl
class_number-equal Datum Horiz h = absurd (omega arith)
class_number-equal Datum Right h = absurd (omega arith)
class_number-equal Datum Left h = absurd (omega arith)
class_number-equal Horiz Datum h = absurd (omega arith)
class_number-equal Horiz Horiz h = refl
class_number-equal Horiz Right h = absurd (omega arith)
class_number-equal Horiz Left h = absurd (omega arith)
class_number-equal Right Datum h = absurd (omega arith)
class_number-equal Right Horiz h = absurd (omega arith)
class_number-equal Right Right h = refl
class_number-equal Right Left h = absurd (omega arith)
class_number-equal Left Datum h = absurd (omega arith)
class_number-equal Left Horiz h = absurd (omega arith)
class_number-equal Left Right h = absurd (omega arith)
class_number-equal Left Left h = refl

-- two blocks with the same node and the same class are one
pub block_equal : (a b : BlockId) → a.node ≡ b.node → a.class ≡ b.class → a ≡ b
block_equal a b node class = ap (λ i. block_of i a.class) node ∙ ap (λ c. block_of b.node c) class

-- two blocks that the test `same_block` finds the same are one
pub same_block-equal : (a b : BlockId) → same_block a b ≡ true → a ≡ b
same_block-equal a b h =
    let parts = and_parts (a.node == b.node) (class_number a.class == class_number b.class) h in
    block_equal a b (eqb-true a.node b.node parts.0)
    (class_number-equal a.class b.class (eqb-true (class_number a.class) (class_number b.class) parts.1))

-- the test `same_block` finds each block the same as itself
pub same_block-refl : (b : BlockId) → same_block b b ≡ true
same_block-refl b =
    and_from (b.node == b.node) (class_number b.class == class_number b.class) (eq-eqb b.node b.node refl)
    (eq-eqb (class_number b.class) (class_number b.class) refl)

-- the number of a block of a lattice is less than the count of its blocks
pub number_below : (l : Lattice) (b : BlockId) → HasBlock l b → number_of l b < blocks_count l
number_below l b h =
    let i : b.node - 1 + 1 ≤ l.n = omega (arith, h.first, h.last) in
    let m : (b.node - 1 + 1) * (1 + l.alpha) ≤ l.n * (1 + l.alpha) = mul-le-mul_right (1 + l.alpha) i in
    omega (arith, h.used)

-- of places in rows of w, counted row by row, two with the same number are in one row
row_equal : (w i c j d : ℕ) → c < w → d < w → i * w + c ≡ j * w + d → i ≡ j
row_equal w i c j d hc hd same =
    elim (cases_lt i j) [
      | inl lt ↦ let m : (i + 1) * w ≤ j * w = (let s : i + 1 ≤ j = omega arith in mul-le-mul_right w s) in absurd (omega arith)
      | inr ge ↦ elim (cases_lt j i) [
        | inl lt ↦ let m : (j + 1) * w ≤ i * w = (let s : j + 1 ≤ i = omega arith in mul-le-mul_right w s) in absurd (omega arith)
        | inr le ↦ omega arith
      ]
    ]

-- two blocks of a lattice with the same number are one
pub number_equal : (l : Lattice) (a b : BlockId) → HasBlock l a → HasBlock l b → number_of l a ≡ number_of l b → a ≡ b
number_equal l a b ha hb same =
    let rows : a.node - 1 ≡ b.node - 1 =
    row_equal (1 + l.alpha) (a.node - 1) (class_number a.class) (b.node - 1) (class_number b.class)
    (omega (arith, ha.used)) (omega (arith, hb.used)) same in
    let columns : (a.node - 1) * (1 + l.alpha) ≡ (b.node - 1) * (1 + l.alpha) = ap (λ k. k * (1 + l.alpha)) rows in
    block_equal a b (omega (arith, ha.first, hb.first))
    (class_number-equal a.class b.class (omega arith))

-- ---- members of an equation

-- a block of an equation is its datum, its output or its input
pub data Member (l : Lattice) (e : EqId) (d : BlockId) : Type 0 where
  datum : d ≡ block_of e.node Datum → Member l e d
  output : d ≡ block_of e.node e.class → Member l e d
  input : (g : ℕ) → previous l e.class e.node ≡ Some g → d ≡ block_of g e.class → Member l e d

-- the same over the input that an equation has
data Among (g : Option ℕ) (e : EqId) (p : BlockId → Bool) : Type 0 where
  datum : p (block_of e.node Datum) ≡ true → Among g e p
  output : p (block_of e.node e.class) ≡ true → Among g e p
  input : (k : ℕ) → g ≡ Some k → p (block_of k e.class) ≡ true → Among g e p

abbrev blocks_with : Option ℕ → EqId → List BlockId
blocks_with g e = input_blocks g e.class ++ block_of e.node Datum ∷ block_of e.node e.class ∷ []

among_two : (g : Option ℕ) (e : EqId) (p : BlockId → Bool) → (p (block_of e.node Datum) || (p (block_of e.node e.class) || false)) ≡ true → Among g e p
among_two g e p h =
    elim (or_cases (p (block_of e.node Datum)) (p (block_of e.node e.class) || false) h) [
      | inl d ↦ datum d
      | inr r ↦ elim (or_cases (p (block_of e.node e.class)) false r) [
        | inl o ↦ output o
        | inr f ↦ absurd (false≢true f)
      ]
    ]

among_all : (g : Option ℕ) (e : EqId) (p : BlockId → Bool) → list_any p (blocks_with g e) ≡ true → Among g e p
among_all None e p h = among_two None e p h
among_all (Some k) e p h =
    elim (or_cases (p (block_of k e.class)) (p (block_of e.node Datum) || (p (block_of e.node e.class) || false)) h) [
      | inl i ↦ input k refl i
      | inr r ↦ among_two (Some k) e p r
    ]

two_datum : (e : EqId) (p : BlockId → Bool) → p (block_of e.node Datum) ≡ true → list_any p (blocks_with None e) ≡ true
two_datum e p h = or_left (p (block_of e.node Datum)) (p (block_of e.node e.class) || false) h

two_output : (e : EqId) (p : BlockId → Bool) → p (block_of e.node e.class) ≡ true → list_any p (blocks_with None e) ≡ true
two_output e p h =
    or_right (p (block_of e.node Datum)) (p (block_of e.node e.class) || false) (or_left (p (block_of e.node e.class)) false h)

-- what is so without an input is so with one
any_two : (g : Option ℕ) (e : EqId) (p : BlockId → Bool) → list_any p (blocks_with None e) ≡ true → list_any p (blocks_with g e) ≡ true
any_two None e p h = h
any_two (Some k) e p h = or_right (p (block_of k e.class)) (list_any p (blocks_with None e)) h

any_input : (g : Option ℕ) (k : ℕ) (e : EqId) (p : BlockId → Bool) → g ≡ Some k → p (block_of k e.class) ≡ true → list_any p (blocks_with g e) ≡ true
any_input None k e p h i = absurd (cc)
any_input (Some j) k e p h i =
    let same : j ≡ k = cc in
    or_left (p (block_of j e.class)) (p (block_of e.node Datum) || (p (block_of e.node e.class) || false)) (subst (λ x. p (block_of x e.class) ≡ true) (sym same) i)

-- every block that is in an equation is its datum, its output or its input
pub member : (l : Lattice) (e : EqId) (d : BlockId) → IsTrue (is_in_equation l e d) → Member l e d
member l e d h =
    elim (among_all (previous l e.class e.node) e (same_block d) h) [
      | datum s ↦ datum (same_block-equal d (block_of e.node Datum) s)
      | output s ↦ output (same_block-equal d (block_of e.node e.class) s)
      | input g was s ↦ input g was (same_block-equal d (block_of g e.class) s)
    ]

-- the datum of an equation is in it
pub datum_in : (l : Lattice) (e : EqId) → IsTrue (is_in_equation l e (block_of e.node Datum))
datum_in l e = any_two (previous l e.class e.node) e (same_block (block_of e.node Datum)) (two_datum e (same_block (block_of e.node Datum)) (same_block-refl (block_of e.node Datum)))

-- the output of an equation is in it
pub output_in : (l : Lattice) (e : EqId) → IsTrue (is_in_equation l e (block_of e.node e.class))
output_in l e = any_two (previous l e.class e.node) e (same_block (block_of e.node e.class)) (two_output e (same_block (block_of e.node e.class)) (same_block-refl (block_of e.node e.class)))

-- the input of an equation, where it has one, is in it
pub input_in : (l : Lattice) (e : EqId) (g : ℕ) → previous l e.class e.node ≡ Some g → IsTrue (is_in_equation l e (block_of g e.class))
input_in l e g was = any_input (previous l e.class e.node) g e (same_block (block_of g e.class)) was (same_block-refl (block_of g e.class))

pub input_first : (l : Lattice) (e : EqId) (g : ℕ) → previous l e.class e.node ≡ Some g → 1 ≤ g
input_first l e g was = previous-first l e.class e.node g was

pub input_before : (l : Lattice) (e : EqId) (g : ℕ) → previous l e.class e.node ≡ Some g → g < e.node
input_before l e g was = previous-before l e.class e.node g was

-- the blocks of an equation of the lattice are blocks of the lattice
pub member_inside : (l : Lattice) (e : EqId) (d : BlockId) → HasEquation l e → IsTrue (is_in_equation l e d) → HasBlock l d
member_inside l e d has h =
    elim (member l e d h) [
      | datum same ↦ subst (HasBlock l) (sym same) (record { first = has.node.first; last = has.node.last; used = omega arith })
      | output same ↦ subst (HasBlock l) (sym same) (record { first = has.node.first; last = has.node.last; used = has.class.used })
      | input g was same ↦
          let before : g < e.node = input_before l e g was in
          subst (HasBlock l) (sym same) (record { first = input_first l e g was; last = omega (arith, has.node.last); used = has.class.used })
    ]

-- no datum is a parity of the class of an equation of the lattice
pub datum_parity : (l : Lattice) (e : EqId) (i k : ℕ) → HasEquation l e → block_of i Datum ≢ block_of k e.class
datum_parity l e i k has same =
    let none : 0 ≡ class_number e.class = ap (λ b. class_number b.class) same in omega (arith, has.class.parity)

-- the input of an equation is not its output
pub input_output : (l : Lattice) (e : EqId) (g : ℕ) → previous l e.class e.node ≡ Some g → block_of g e.class ≢ block_of e.node e.class
input_output l e g was same =
    let node : g ≡ e.node = ap (λ b. b.node) same in
    let before : g < e.node = input_before l e g was in omega arith

-- ---- what an equation forces

pub forced_output : (l : Lattice) (known : BlockId → Bool) (e : EqId) → HasEquation l e
    → known (block_of e.node Datum) ≡ true
    → ((g : ℕ) → previous l e.class e.node ≡ Some g → known (block_of g e.class) ≡ true)
    → IsForcedBy l known (block_of e.node e.class) e
forced_output l known e has datum_known input_known = record {
  equation = has;
  contains = output_in l e;
  others = λ d h other. elim (member l e d h) [
    | datum same ↦ subst (λ b. known b ≡ true) (sym same) datum_known
    | output same ↦ absurd (other same)
    | input g was same ↦ subst (λ b. known b ≡ true) (sym same) (input_known g was)
  ];
}

-- an equation of the lattice forces its datum where its output is known, and its input if it has one
pub forced_datum : (l : Lattice) (known : BlockId → Bool) (e : EqId) → HasEquation l e
    → known (block_of e.node e.class) ≡ true
    → ((g : ℕ) → previous l e.class e.node ≡ Some g → known (block_of g e.class) ≡ true)
    → IsForcedBy l known (block_of e.node Datum) e
forced_datum l known e has output_known input_known = record {
  equation = has;
  contains = datum_in l e;
  others = λ d h other. elim (member l e d h) [
    | datum same ↦ absurd (other same)
    | output same ↦ subst (λ b. known b ≡ true) (sym same) output_known
    | input g was same ↦ subst (λ b. known b ≡ true) (sym same) (input_known g was)
  ];
}

-- an equation of the lattice that has an input forces it where its datum and its output are known
pub forced_input : (l : Lattice) (known : BlockId → Bool) (e : EqId) (g : ℕ) → previous l e.class e.node ≡ Some g
    → HasEquation l e → known (block_of e.node Datum) ≡ true → known (block_of e.node e.class) ≡ true
    → IsForcedBy l known (block_of g e.class) e
forced_input l known e g was has datum_known output_known = record {
  equation = has;
  contains = input_in l e g was;
  others = λ d h other. elim (member l e d h) [
    | datum same ↦ subst (λ b. known b ≡ true) (sym same) datum_known
    | output same ↦ subst (λ b. known b ≡ true) (sym same) output_known
    | input k also same ↦
        let one : k ≡ g = (let both : Some k ≡ Some g = sym also ∙ was in cc) in
        absurd (other (same ∙ ap (λ i. block_of i e.class) one))
  ];
}

-- An equation forces no block that is not known already, where each of its blocks is known if the others are.
pub spent : (l : Lattice) (known : BlockId → Bool) (e : EqId) (b : BlockId)
    → (known (block_of e.node Datum) ≡ true → ((g : ℕ) → previous l e.class e.node ≡ Some g → known (block_of g e.class) ≡ true) → known (block_of e.node e.class) ≡ true)
    → (known (block_of e.node e.class) ≡ true → ((g : ℕ) → previous l e.class e.node ≡ Some g → known (block_of g e.class) ≡ true) → known (block_of e.node Datum) ≡ true)
    → ((g : ℕ) → previous l e.class e.node ≡ Some g → known (block_of e.node Datum) ≡ true → known (block_of e.node e.class) ≡ true → known (block_of g e.class) ≡ true)
    → IsForcedBy l known b e → known b ≡ true
spent l known e b by_output by_datum by_input forced =
    elim (member l e b forced.contains) [
      | datum same ↦
          subst (λ d. known d ≡ true) (sym same)
          (by_datum
          (forced.others (block_of e.node e.class) (output_in l e) (λ is. datum_parity l e e.node e.node forced.equation (sym (is ∙ same))))
          (λ g was. forced.others (block_of g e.class) (input_in l e g was) (λ is. datum_parity l e e.node g forced.equation (sym (is ∙ same)))))
      | output same ↦
          subst (λ d. known d ≡ true) (sym same)
          (by_output
          (forced.others (block_of e.node Datum) (datum_in l e) (λ is. datum_parity l e e.node e.node forced.equation (is ∙ same)))
          (λ g was. forced.others (block_of g e.class) (input_in l e g was) (λ is. input_output l e g was (is ∙ same))))
      | input g was same ↦
          subst (λ d. known d ≡ true) (sym same)
          (by_input g was
          (forced.others (block_of e.node Datum) (datum_in l e) (λ is. datum_parity l e e.node g forced.equation (is ∙ same)))
          (forced.others (block_of e.node e.class) (output_in l e) (λ is. input_output l e g was (sym (is ∙ same)))))
    ]

-- ---- the three marks of an equation, where a missing input counts as known

-- not exactly one of the three is unknown
abbrev pub is_settled : Bool → Bool → Bool → Bool
is_settled i d o = not ((i && d && not o) || (i && o && not d) || (d && o && not i))

-- the marks say what is known of an equation's input, datum and output
pub record AreMarks (l : Lattice) (known : BlockId → Bool) (e : EqId) (i d o : Bool) : Type 0 where
  -- whether the input is known; true where the equation has none
  pub input : MatchOption (option_map (λ k. block_of k e.class) (previous l e.class e.node)) (i ≡ true) (λ b. i ≡ known b)
  -- whether the datum is known
  pub datum : d ≡ known (block_of e.node Datum)
  -- whether the output is known
  pub output : o ≡ known (block_of e.node e.class)

settled_output : (i d o : Bool) → is_settled i d o ≡ true → i ≡ true → d ≡ true → o ≡ true
settled_output true true true s hi hd = refl
settled_output true true false s hi hd = absurd (false≢true s)
settled_output true false o s hi hd = absurd (false≢true hd)
settled_output false d o s hi hd = absurd (false≢true hi)

settled_datum : (i d o : Bool) → is_settled i d o ≡ true → i ≡ true → o ≡ true → d ≡ true
settled_datum true true o s hi ho = refl
settled_datum true false true s hi ho = absurd (false≢true s)
settled_datum true false false s hi ho = absurd (false≢true ho)
settled_datum false d o s hi ho = absurd (false≢true hi)

settled_input : (i d o : Bool) → is_settled i d o ≡ true → d ≡ true → o ≡ true → i ≡ true
settled_input true d o s hd ho = refl
settled_input false true true s hd ho = absurd (false≢true s)
settled_input false true false s hd ho = absurd (false≢true ho)
settled_input false false o s hd ho = absurd (false≢true hd)

-- the mark of the input is true where every input is known
input_all : (g : Option ℕ) (e : EqId) (known : BlockId → Bool) (i : Bool)
    → MatchOption (option_map (λ k. block_of k e.class) g) (i ≡ true) (λ b. i ≡ known b)
    → ((k : ℕ) → g ≡ Some k → known (block_of k e.class) ≡ true) → i ≡ true
input_all None e known i m all = m
input_all (Some k) e known i m all = m ∙ all k refl

input_one : (g : Option ℕ) (k : ℕ) (e : EqId) (known : BlockId → Bool) (i : Bool)
    → MatchOption (option_map (λ j. block_of j e.class) g) (i ≡ true) (λ b. i ≡ known b)
    → g ≡ Some k → known (block_of k e.class) ≡ i
input_one None k e known i m was = absurd (cc)
input_one (Some j) k e known i m was =
    let same : j ≡ k = cc in ap (λ n. known (block_of n e.class)) (sym same) ∙ sym m

-- an equation whose marks are settled forces no block that is not known
pub spent_settled : (l : Lattice) (known : BlockId → Bool) (e : EqId) (i d o : Bool) → is_settled i d o ≡ true → AreMarks l known e i d o
    → (b : BlockId) → IsForcedBy l known b e → known b ≡ true
spent_settled l known e i d o s marks b forced =
    spent l known e b
    (λ datum_known inputs_known.
    sym marks.output ∙ settled_output i d o s (input_all (previous l e.class e.node) e known i marks.input inputs_known) (marks.datum ∙ datum_known))
    (λ output_known inputs_known.
    sym marks.datum ∙ settled_datum i d o s (input_all (previous l e.class e.node) e known i marks.input inputs_known) (marks.output ∙ output_known))
    (λ g was datum_known output_known.
    input_one (previous l e.class e.node) g e known i marks.input was
    ∙ settled_input i d o s (marks.datum ∙ datum_known) (marks.output ∙ output_known))
    forced

-- an equation of the lattice forces its output where the marks of its input and its datum are true
pub output_by_marks : (l : Lattice) (known : BlockId → Bool) (e : EqId) (o : Bool) → HasEquation l e → AreMarks l known e true true o
    → IsForcedBy l known (block_of e.node e.class) e
output_by_marks l known e o has marks =
    forced_output l known e has (sym marks.datum) (λ g was. input_one (previous l e.class e.node) g e known true marks.input was)

-- an equation of the lattice forces its datum where the marks of its input and its output are true
pub datum_by_marks : (l : Lattice) (known : BlockId → Bool) (e : EqId) (d : Bool) → HasEquation l e → AreMarks l known e true d true
    → IsForcedBy l known (block_of e.node Datum) e
datum_by_marks l known e d has marks =
    forced_datum l known e has (sym marks.output) (λ g was. input_one (previous l e.class e.node) g e known true marks.input was)

-- an equation of the lattice forces its input, if it has one, where the mark of the input is false
-- and the other two are true
pub input_by_marks : (l : Lattice) (known : BlockId → Bool) (e : EqId) (g : Option ℕ) → previous l e.class e.node ≡ g
    → HasEquation l e → AreMarks l known e false true true
    → IfSome (option_map (λ k. block_of k e.class) g) (λ b. IsForcedBy l known b e)
input_by_marks l known e None was has marks = tt
input_by_marks l known e (Some k) was has marks = forced_input l known e k was has (sym marks.datum) (sym marks.output)

-- the input of an equation of the lattice, if it has one, is a block of the lattice
pub input_inside : (l : Lattice) (e : EqId) (g : Option ℕ) → previous l e.class e.node ≡ g → HasEquation l e
    → IfSome (option_map (λ k. block_of k e.class) g) (HasBlock l)
input_inside l e None was has = tt
input_inside l e (Some k) was has = member_inside l e (block_of k e.class) has (input_in l e k was)
