-- Blocks and equations in lists: those of a lattice, and blocks that pass a test.
use Rattle.std.proofs.Common.{◌≡◌, ℕ, suc, ◌≤◌, Bool, true, List, [], ◌∷◌, filter, All, IsTrue, refl, sym, ◌∙◌, subst, arith, inl, inr}
use Rattle.std.proofs.lemmas.Bool.{cases_Bool, or_cases, or_left, or_right, false≢true}
use Rattle.std.proofs.lemmas.List.Elements.{All-nil, All-cons}
use Rattle.aea_lattice.specs.declared.blocks.BlockId.{BlockId}
use Rattle.aea_lattice.specs.declared.grid.Lattice.{Lattice}
use Rattle.aea_lattice.specs.Blocks.{same_block, HasBlock, blocks_of}
use Rattle.aea_lattice.specs.Equations.{HasEquation, equations_to, is_odd_count}
use Rattle.aea_lattice.specs.Closure.{is_among}
use Rattle.aea_lattice.specs.Facts.{BlocksAreInside, PassingAreAmong}
use Rattle.aea_lattice.proofs.Equations.{same_block-equal}
use Rattle.aea_lattice.proofs.Derivations.{among-filter}
use Rattle.aea_lattice.proofs.Odd.{odd-cons, Each}
use Rattle.aea_lattice.proofs.Once.{block_once, each-blocks_of, each-equations_to}

-- what holds of each item by recursion on the list (`Each`) holds of all its items (`All`)
pub Each-All : {A : Type 0} → (P : A → Type 0) (xs : List A) → Each P xs → All P xs
Each-All P [] each = All-nil P
Each-All P (x ∷ xs) each = All-cons P x xs each.0 (Each-All P xs each.1)

-- what holds of all items of a list (`All`) holds of each by recursion on the list (`Each`)
pub All-Each : {A : Type 0} → (P : A → Type 0) (xs : List A) → All P xs → Each P xs
All-Each P [] all = tt
All-Each P (x ∷ xs) all = (all 0 x (omega arith), All-Each P xs (λ k d inside. all (suc k) d (omega arith)))

-- every item of the list of the blocks of a lattice is a block of the lattice
pub blocks-inside : BlocksAreInside
blocks-inside l = Each-All (HasBlock l) (blocks_of l) (each-blocks_of l)

-- the equations of the nodes 1 to i are equations of the lattice, where it has so many nodes
pub equations_inside : (l : Lattice) (i : ℕ) → i ≤ l.n → All (HasEquation l) (equations_to l i)
equations_inside l i most = Each-All (HasEquation l) (equations_to l i) (each-equations_to l i most)

-- an item of a list has what each item has
pub among-each : (P : BlockId → Type 0) (bs : List BlockId) (b : BlockId) → Each P bs → is_among bs b ≡ true → P b
among-each P [] b each h = absurd (false≢true h)
among-each P (d ∷ ds) b each h = elim (or_cases (same_block b d) (is_among ds b) h) [
  | inl here ↦ subst P (sym (same_block-equal b d here)) each.0
  | inr there ↦ among-each P ds b each.1 there
]

-- what is in a list an odd number of times is in it
among-odd : (bs : List BlockId) (b : BlockId) → is_odd_count (same_block b) bs ≡ true → is_among bs b ≡ true
among-odd [] b odd = absurd (false≢true odd)
among-odd (d ∷ ds) b odd = elim (cases_Bool (same_block b d)) [
  | inl here ↦ or_left (same_block b d) (is_among ds b) here
  | inr other ↦
      or_right (same_block b d) (is_among ds b)
      (among-odd ds b (sym (odd-cons (same_block b) d ds ∙ (rw other refl)) ∙ odd))
]

each-kept : (test : BlockId → Bool) (P : BlockId → Type 0) (bs : List BlockId) → Each P bs → Each (λ d. P d × IsTrue (test d)) (filter test bs)
each-kept test P [] each = tt
each-kept test P (d ∷ ds) each = elim (cases_Bool (test d)) [
  | inl kept ↦ rw kept ((each.0, kept), each-kept test P ds each.1)
  | inr dropped ↦ rw dropped (each-kept test P ds each.1)
]

-- among the blocks of a lattice that pass a test are exactly its blocks that pass it
pub passing-among : PassingAreAmong
passing-among l test b = (
  λ among. among-each (λ d. HasBlock l d × IsTrue (test d)) (filter test (blocks_of l)) b (each-kept test (HasBlock l) (blocks_of l) (each-blocks_of l)) among,
  λ both. among-filter test (blocks_of l) b (among-odd (blocks_of l) b (block_once l b both.0)) both.1,
)
