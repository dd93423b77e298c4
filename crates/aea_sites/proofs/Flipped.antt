-- Marks that are swapped.
use Rattle.std.proofs.Common.{◌≡◌, ◌<◌, map, length, get_or, sym, ◌∙◌, ap, subst, Bool, true, false, arith, inl, inr}
use Rattle.std.specs.Prelude.{not}
use Rattle.std.proofs.lemmas.Bool.{cases_Bool, true≢false}
use Rattle.std.proofs.lemmas.List.{get_or-map, length-map}
use Rattle.aea_lattice.specs.declared.blocks.BlockId.{BlockId}
use Rattle.aea_lattice.specs.declared.grid.Lattice.{Lattice}
use Rattle.aea_lattice.specs.Blocks.{HasBlock, number_of, blocks_count}
use Rattle.aea_lattice.proofs.Equations.{number_below}
use Rattle.aea_view.specs.Marked.{Marked, AreMarks, IsWhole, AreClear, is_marked}

-- the second marks are the first ones, swapped
pub record AreFlipped (m n : Marked) : Type 0 where
  pub same : n.lattice ≡ m.lattice
  pub marks : n.marks ≡ map not m.marks
  pub whole : IsWhole n

number_inside : (m n : Marked) → AreFlipped m n → (b : BlockId) → HasBlock m.lattice b → number_of m.lattice b < length m.marks
number_inside m n flipped b has =
    let long = sym (ap blocks_count flipped.same) ∙ sym flipped.whole ∙ ap length flipped.marks ∙ length-map m.marks not in
    subst (λ i. number_of m.lattice b < i) long (number_below m.lattice b has)

-- a block has the other mark
other_mark : (m n : Marked) → AreFlipped m n → (b : BlockId) → HasBlock m.lattice b → is_marked n b ≡ not (is_marked m b)
other_mark m n flipped b has =
    ap (λ (l : Lattice). get_or n.marks (number_of l b) false) flipped.same
    ∙ ap (λ marks. get_or marks (number_of m.lattice b) false) flipped.marks
    ∙ get_or-map not m.marks (number_of m.lattice b) false false (number_inside m n flipped b has)

-- swapped marks are those of the negated test
pub flipped : (m n : Marked) (test : BlockId → Bool) → AreFlipped m n → AreMarks m test → AreMarks n (λ b. not (test b))
flipped m n test swapped are b inside =
    let here : HasBlock m.lattice b = subst (λ (l : Lattice). HasBlock l b) swapped.same inside in
    other_mark m n swapped b here ∙ ap not (are b here)

-- where swapped marks have none at all, each block is marked
pub all-marked : (m n : Marked) → AreFlipped m n → AreClear n 0 (blocks_count n.lattice) → (b : BlockId) → HasBlock m.lattice b → is_marked m b ≡ true
all-marked m n swapped clear b has = elim (cases_Bool (is_marked m b)) [
  | inl marked ↦ marked
  | inr unmarked ↦
      let there : HasBlock n.lattice b = subst (λ (l : Lattice). HasBlock l b) (sym swapped.same) has in
      let below : number_of n.lattice b < blocks_count n.lattice = number_below n.lattice b there in
      absurd (true≢false (ap not (sym unmarked) ∙ sym (other_mark m n swapped b has) ∙ clear (number_of n.lattice b) (omega arith) below))
]
