-- Marks that are flipped, and marks that are all set.
use Rattle.std.proofs.Common.{◌≡◌, ◌<◌, map, length, get_or, sym, ◌∙◌, ap, subst, Bool, true, false, refl, arith}
use Rattle.std.specs.Prelude.{not}
use Rattle.std.proofs.lemmas.Bool.{true≢false}
use Rattle.std.proofs.lemmas.List.{get_or-map, length-map}
use Rattle.aea_lattice.specs.declared.blocks.BlockId.{BlockId}
use Rattle.aea_lattice.specs.declared.grid.Lattice.{Lattice}
use Rattle.aea_lattice.specs.Blocks.{HasBlock, number_of, blocks_count}
use Rattle.aea_lattice.proofs.Equations.{number_below}
use Rattle.aea_view.specs.Marked.{Marked, AreMarks, IsWhole, AreClear, is_marked}

-- a truth value that is flipped twice is as it was
pub twice : (b : Bool) → not (not b) ≡ b
twice true = refl
twice false = refl

-- flipped marks are those of the negated test
pub flipped : (m n : Marked) (test : BlockId → Bool) → n.lattice ≡ m.lattice → n.marks ≡ map not m.marks → IsWhole n → AreMarks m test → AreMarks n (λ b. not (test b))
flipped m n test same marks whole are b inside =
    let here : HasBlock m.lattice b = subst (λ (l : Lattice). HasBlock l b) same inside in
    let k = number_of m.lattice b in
    let long = sym (ap blocks_count same) ∙ sym whole ∙ ap length marks ∙ length-map m.marks not in
    let below : k < length m.marks = subst (λ i. k < i) long (number_below m.lattice b here) in
    ap (λ (l : Lattice). get_or n.marks (number_of l b) false) same
    ∙ ap (λ marks. get_or marks k false) marks
    ∙ get_or-map not m.marks k false false below
    ∙ ap not (are b here)

-- and marks that are flipped twice are those of the test
pub flipped-twice : (m n o : Marked) (test : BlockId → Bool) → n.lattice ≡ m.lattice → n.marks ≡ map not m.marks → IsWhole n
    → o.lattice ≡ n.lattice → o.marks ≡ map not n.marks → IsWhole o → AreMarks m test → AreMarks o test
flipped-twice m n o test same marks whole same_again marks_again whole_again are b inside =
    flipped n o (λ d. not (test d)) same_again marks_again whole_again (flipped m n test same marks whole are) b inside ∙ twice (test b)

-- where flipped marks have none at all, each block is marked
pub all-marked : (m n : Marked) → n.lattice ≡ m.lattice → n.marks ≡ map not m.marks → IsWhole n
    → AreClear n 0 (blocks_count n.lattice) → (b : BlockId) → HasBlock m.lattice b → is_marked m b ≡ false → ⊥
all-marked m n same marks whole clear b has unmarked =
    let i = number_of m.lattice b in
    let less : i < blocks_count m.lattice = number_below m.lattice b has in
    let there : i < blocks_count n.lattice = subst (λ (l : Lattice). i < blocks_count l) (sym same) less in
    let long = sym (ap blocks_count same) ∙ sym whole ∙ ap length marks ∙ length-map m.marks not in
    let below : i < length m.marks = subst (λ j. i < j) long less in
    let clear_here : get_or n.marks i false ≡ false = clear i (omega arith) there in
    true≢false (ap not (sym unmarked) ∙ sym (get_or-map not m.marks i false false below) ∙ sym (ap (λ xs. get_or xs i false) marks) ∙ clear_here)
