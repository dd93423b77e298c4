use Rattle.std.proofs.Common.{◌≡◌, List, [], ◌∷◌, map, Bool, true, false, not, refl, ◌∙◌, ap}
use Rattle.aea_lattice.specs.declared.grid.Lattice.{Lattice}
use Rattle.aea_view.specs.Marked.{Marked}
use Rattle.aea_restore_tests.proofs.restoring.copy.Goals as goal

twice : (bs : List Bool) → map not (map not bs) ≡ bs
twice [] = refl
twice (true ∷ bs) = ap (λ (cs : List Bool). true ∷ cs) (twice bs)
twice (false ∷ bs) = ap (λ (cs : List Bool). false ∷ cs) (twice bs)

abbrev marks_in : Lattice → List Bool → Marked
marks_in l marks = record { lattice = l; marks = marks }

-- marks that are flipped twice are as they were
flipped_twice : (m n o : Marked) → n.lattice ≡ m.lattice → n.marks ≡ map not m.marks → o.lattice ≡ n.lattice → o.marks ≡ map not n.marks → o ≡ m
flipped_twice m n o same flipped same_again flipped_again =
    ap (λ (l : Lattice). marks_in l o.marks) (same_again ∙ same)
    ∙ ap (marks_in m.lattice) (flipped_again ∙ ap (map not) flipped ∙ twice m.marks)

pub returns : goal.returns
returns c =
    flipped_twice c.args.marks.now c.in_ok-flipped.flipped c.in_ok-back.back c.in_ok-flipped.ensures.lattice c.in_ok-flipped.ensures.marks c.in_ok-back.ensures.lattice c.in_ok-back.ensures.marks
