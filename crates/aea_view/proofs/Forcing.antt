-- What marks say of the three blocks of an equation.
use Rattle.std.proofs.Common.{◌≡◌, Bool, true, MatchOption, option_map, ◌∙◌, ap, subst}
use Rattle.aea_lattice.specs.declared.blocks.Class.TheVariants.{Datum}
use Rattle.aea_lattice.specs.declared.blocks.EqId.{EqId}
use Rattle.aea_lattice.specs.declared.blocks.Equation.{Equation}
use Rattle.aea_lattice.specs.declared.grid.Lattice.{Lattice}
use Rattle.aea_lattice.specs.Blocks.{block_of}
use Rattle.aea_lattice.specs.Strands.{previous}
use Rattle.aea_lattice.proofs.Equations.{AreMarks}
use Rattle.aea_view.specs.Marked.{Marked, is_marked}

-- what was read of the blocks of an equation of a lattice that is that of the marks
pub marks_read : (m : Marked) (l : Lattice) (e : EqId) (q : Equation) (i d o : Bool) → l ≡ m.lattice
    → q.input ≡ option_map (λ g. block_of g e.class) (previous l e.class e.node)
    → q.datum ≡ block_of e.node Datum → q.output ≡ block_of e.node e.class
    → MatchOption q.input (i ≡ true) (λ g. i ≡ is_marked m g) → d ≡ is_marked m q.datum → o ≡ is_marked m q.output
    → AreMarks m.lattice (is_marked m) e i d o
marks_read m l e q i d o same input_is datum_is output_is input datum output = record {
  input =
      subst (λ b. MatchOption b (i ≡ true) (λ g. i ≡ is_marked m g))
      (input_is ∙ ap (λ (x : Lattice). option_map (λ g. block_of g e.class) (previous x e.class e.node)) same) input;
  datum = datum ∙ ap (is_marked m) datum_is;
  output = output ∙ ap (is_marked m) output_is;
}
