-- The equations in which a block occurs, and what is read of them.
use Rattle.std.proofs.Common.{◌≡◌, ◌≤◌, ℕ, true, inl, inr, ◌⊎◌, Some, None, option_map, IsTrue, refl, sym, ◌∙◌, ap, subst, arith}
use Rattle.std.specs.Option.{ForSome}
use Rattle.aea_lattice.specs.declared.blocks.BlockId.{BlockId}
use Rattle.aea_lattice.specs.declared.blocks.EqId.{EqId}
use Rattle.aea_lattice.specs.declared.blocks.Equation.{Equation}
use Rattle.aea_lattice.specs.declared.blocks.Class.{Class}
use Rattle.aea_lattice.specs.declared.blocks.Class.TheVariants.{Datum, Horiz, Right, Left}
use Rattle.aea_lattice.specs.declared.grid.Lattice.{Lattice}
use Rattle.aea_lattice.specs.Blocks.{HasBlock, HasParity, class_number, block_of}
use Rattle.aea_lattice.specs.Strands.{previous}
use Rattle.aea_lattice.specs.Equations.{HasEquation, equation_of, is_in_equation}
use Rattle.aea_lattice.proofs.Equations.{member, datum, output, input, member_inside}
use Rattle.aea_view.specs.Marked.{Marked, is_marked}
use Rattle.aea_search.specs.Searches.{IsAllRead, IsGoneAround}

-- a class with a number of at least 1 is Horiz, Right or Left
pub parity_classes : (c : Class) → 1 ≤ class_number c → (c ≡ Horiz) ⊎ ((c ≡ Right) ⊎ (c ≡ Left))
parity_classes Datum h = absurd (omega arith)
parity_classes Horiz h = inl refl
parity_classes Right h = inr (inl refl)
parity_classes Left h = inr (inr refl)

-- a parity is in the equation of its node and class, and in that of the next node
pub parity_in : (l : Lattice) (e : EqId) (i : ℕ) (c : Class) → 1 ≤ class_number c → IsTrue (is_in_equation l e (block_of i c))
    → ((e.node ≡ i) × (e.class ≡ c)) ⊎ ((e.class ≡ c) × (previous l c e.node ≡ Some i))
parity_in l e i c parity h =
    elim (member l e (block_of i c) h) [
      | datum same ↦ let none : class_number c ≡ 0 = ap (λ (b : BlockId). class_number b.class) same in absurd (omega arith)
      | output same ↦ inl (sym (ap (λ (b : BlockId). b.node) same), sym (ap (λ (b : BlockId). b.class) same))
      | input g was same ↦
          let class : e.class ≡ c = sym (ap (λ (b : BlockId). b.class) same) in
          inr (class, ap (λ d. previous l d e.node) (sym class) ∙ was ∙ ap (λ k. Some k) (sym (ap (λ (b : BlockId). b.node) same)))
    ]

-- a datum is in the equations of its node
pub datum_in_node : (l : Lattice) (e : EqId) (b : BlockId) → b.class ≡ Datum → HasEquation l e → IsTrue (is_in_equation l e b) → e.node ≡ b.node
datum_in_node l e b class has h =
    elim (member l e b h) [
      | datum same ↦ sym (ap (λ (d : BlockId). d.node) same)
      | output same ↦
          let none : 0 ≡ class_number e.class = ap class_number (sym class) ∙ ap (λ (d : BlockId). class_number d.class) same in
          absurd (omega (arith, has.class.parity))
      | input g was same ↦
          let none : 0 ≡ class_number e.class = ap class_number (sym class) ∙ ap (λ (d : BlockId). class_number d.class) same in
          absurd (omega (arith, has.class.parity))
    ]

-- ---- what is read

-- the blocks of an equation of this node and class were read, where those of the one that is made of them were
pub read_as : (l : Lattice) (read : Marked) (i : ℕ) (c : Class) (e : EqId) → e.node ≡ i → e.class ≡ c
    → (HasParity l c → IsAllRead l read (equation_of i c)) → HasEquation l e → IsAllRead l read e
read_as l read i c e node class is has =
    subst (IsAllRead l read) (ap (λ k. equation_of k c) (sym node) ∙ ap (λ d. equation_of e.node d) (sym class))
    (is (subst (HasParity l) class has.class))

-- where what was read stays read, so do the blocks of an equation
pub all_still : (l : Lattice) (old new : Marked) → ((b : BlockId) → HasBlock l b → is_marked old b ≡ true → is_marked new b ≡ true) → (e : EqId) → HasEquation l e
    → IsAllRead l old e → IsAllRead l new e
all_still l old new kept e has read b stands = kept b (member_inside l e b has stands) (read b stands)

-- and those around a block
pub around_still : (l : Lattice) (old new : Marked) → ((b : BlockId) → HasBlock l b → is_marked old b ≡ true → is_marked new b ≡ true) → (b : BlockId)
    → IsGoneAround l old b → IsGoneAround l new b
around_still l old new kept b around e has stands = all_still l old new kept e has (around e has stands)

-- where its datum, its output and its input were read, all blocks of an equation were
pub blocks_read : (l : Lattice) (read : Marked) (e : EqId) (q : Equation)
    → q.datum ≡ block_of e.node Datum → q.output ≡ block_of e.node e.class → q.input ≡ option_map (λ g. block_of g e.class) (previous l e.class e.node)
    → is_marked read q.datum ≡ true → is_marked read q.output ≡ true → ForSome q.input (λ g. is_marked read g ≡ true)
    → IsAllRead l read e
blocks_read l read e q is_datum is_output is_input read_datum read_output read_input b stands =
    elim (member l e b stands) [
      | datum same ↦ ap (is_marked read) (same ∙ sym is_datum) ∙ read_datum
      | output same ↦ ap (is_marked read) (same ∙ sym is_output) ∙ read_output
      | input g was same ↦
          read_input b (is_input ∙ ap (λ o. option_map (λ k. block_of k e.class) o) was ∙ ap (λ x. Some x) (sym same))
    ]

-- the next node, where it is given
pub same_next : (i j : ℕ) → Some i ≡ Some j → j ≡ i
same_next i j is = cc

pub no_next : (i : ℕ) → None ≡ Some i → ⊥
no_next i is = cc
