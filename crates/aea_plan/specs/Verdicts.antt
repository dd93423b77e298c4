-- What happens to each block that is not known, and the lines of a report that say it.
use Rattle.std.specs.Prelude.{◌≡◌, ℕ, Bool, true, false, List, map, filter, drop, get_or, Option, None, Some}
use Rattle.aea_lattice.specs.declared.blocks.BlockId.{BlockId}
use Rattle.aea_lattice.specs.Blocks.{blocks_of, number_of}
use Rattle.aea_view.specs.Marked.{is_marked}
use Rattle.aea_report.specs.declared.line.Line.{Line}
use Rattle.aea_report.specs.declared.line.Line.TheVariants.{Peeled, Solved, Lost}
use Rattle.aea_plan.specs.declared.verdicts.Verdicts.{Verdicts}

-- the nodes that are listed for the block of this number; none where there is no list
abbrev pub nodes_at : Option (List (Option (List ℕ))) → ℕ → Option (List ℕ)
nodes_at None k = None
nodes_at (Some list) k = get_or list k None

-- the line of a block that is not reached: it is lost by its nodes, and solved where it has none
abbrev pub line_with : BlockId → Option (List ℕ) → Line
line_with b None = Solved b
line_with b (Some nodes) = Lost b nodes

-- the line of a block by whether it is reached
abbrev pub line_where : Bool → BlockId → Option (List ℕ) → Line
line_where true b nodes = Peeled b
line_where false b nodes = line_with b nodes

-- the line of a damaged block: it is peeled where it is reached, and else solved or lost
abbrev pub line_of : Verdicts → BlockId → Line
line_of v b = line_where (is_marked v.reached b) b (nodes_at v.losses (number_of v.damaged.lattice b))

-- the lines of the damaged blocks of this number and of later ones
abbrev pub lines_after : Verdicts → ℕ → List Line
lines_after v from = map (line_of v) (filter (is_marked v.damaged) (drop from (blocks_of v.damaged.lattice)))

-- the lines of all damaged blocks
abbrev pub lines_by : Verdicts → List Line
lines_by v = lines_after v 0

-- The marks are of one lattice.
pub record AreVerdicts (v : Verdicts) : Type 0 where
  pub same : v.reached.lattice ≡ v.damaged.lattice
