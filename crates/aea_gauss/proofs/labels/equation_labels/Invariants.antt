use Rattle.std.proofs.Common.{◌≡◌, ℕ, ◌<◌, List, length, get_or}
use Rattle.aea_lattice.specs.declared.blocks.BlockId.{BlockId}
use Rattle.aea_lattice.specs.declared.blocks.EqId.{EqId}
use Rattle.aea_lattice.specs.declared.grid.Lattice.{Lattice}
use Rattle.aea_readings.specs.Small.{equation_in}
use Rattle.aea_gauss.specs.Parts.{IsLabelOf}
use Rattle.aea_gauss.proofs.labels.equation_labels.Given as goal

-- the labels of the first equations
pub record Labelled (l : Lattice) (listed : List BlockId) (labels : List ℕ) (equations : List EqId) (at : ℕ) (own : List ℕ) : Type 0 where
  pub long : length own ≡ at
  pub below : (i : ℕ) → i < at → get_or own i 0 < length listed
  pub label : (i : ℕ) → i < at → IsLabelOf l listed labels (equation_in equations i) (get_or own i 0)

abbrev pub invariant-loop-at : goal.invariant-loop-at
invariant-loop-at l = Labelled l.lattice l.blocks l.labels l.equations l.at l.own.items
