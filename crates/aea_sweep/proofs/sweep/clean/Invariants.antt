use Rattle.std.proofs.Common.{◌≡◌, ◌++◌, ℕ, Bool, List}
use Rattle.aea_lattice.specs.declared.blocks.BlockId.{BlockId}
use Rattle.aea_lattice.specs.declared.grid.Lattice.{Lattice}
use Rattle.aea_sweep.specs.Tables.{SameSize, HasPlaces}
use Rattle.aea_sweep.specs.States.{places_of, IsCleanTo}
use Rattle.aea_sweep.proofs.sweep.clean.Given as goal

abbrev pub invariant-loop-t : goal.invariant-loop-t
invariant-loop-t l = record {
  size : SameSize l.fn.words.items l.words.items l.fn.heads l.heads;
  places : HasPlaces l.spare l.fn.heads → HasPlaces l.spare l.heads;
  clean : (lattice : Lattice) (known : BlockId → Bool) (closed : List (List ℕ)) (i q : ℕ) (e : BlockId) → l.spare ≡ places_of lattice
      → IsCleanTo lattice known i q e 0 (l.fn.words.items ++ closed) l.fn.heads → IsCleanTo lattice known i q e l.t (l.words.items ++ closed) l.heads;
}
