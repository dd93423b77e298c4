-- “Plan”: what is done for each block that is not known, and the report that says so.
use Rattle.std.specs.Prelude.{◌≡◌, ℕ, ◌+◌, ◌*◌, ◌≤◌, ◌^◌, Bool, false, not, List, length, count_by, Option, None, Some}
use Rattle.aea_lattice.specs.declared.blocks.BlockId.{BlockId}
use Rattle.aea_lattice.specs.declared.grid.Lattice.{Lattice}
use Rattle.aea_lattice.specs.Blocks.{HasBlock, number_of}
use Rattle.aea_view.specs.Marked.{AreMarks, is_marked}
use Rattle.aea_peel.specs.Plans.{IsPlan, AreReached}
use Rattle.aea_sweep.specs.Losses.{IsLoss}
use Rattle.aea_report.specs.declared.head.Head.{Head}
use Rattle.aea_report.specs.declared.line.Line.{Line}
use Rattle.aea_report.specs.Fits.{is_peeled, is_solved, is_lost}
use Rattle.aea_plan.specs.declared.counts.Counts.{Counts}
use Rattle.aea_plan.specs.declared.plan.Plan.{Plan}
use Rattle.aea_plan.specs.Verdicts.{nodes_at, AreVerdicts, lines_by}

-- what the list says of each block that is not known is so: it is lost by these nodes, or the known blocks determine it
abbrev pub AreLossesOf : Lattice → (BlockId → Bool) → Option (List (Option (List ℕ))) → Type 0
AreLossesOf l known losses = (b : BlockId) → HasBlock l b → known b ≡ false → IsLoss l known b (nodes_at losses (number_of l b))

-- The damaged blocks are those that are not known. The steps give, by single equations, all that the known ones reach, one
-- after the other; the marks are those of what is known or reached so; and each other block is lost by its listed nodes, or
-- determined, where all of that is known.
pub record IsPlanOf (known : BlockId → Bool) (p : Plan) : Type 0 where
  pub damaged : AreMarks p.verdicts.damaged (λ b. not (known b))
  pub steps : IsPlan p.verdicts.damaged.lattice known p.steps
  pub reached : AreReached p.verdicts.reached known
  pub losses : AreLossesOf p.verdicts.damaged.lattice (is_marked p.verdicts.reached) p.verdicts.losses

-- how many lines there are of each kind
pub record AreCounts (counts : Counts) (lines : List Line) : Type 0 where
  pub peeled : counts.peeled ≡ count_by is_peeled lines
  pub solved : counts.solved ≡ count_by is_solved lines
  pub lost : counts.lost ≡ count_by is_lost lines

-- the number of nodes by which a block is lost; none where it is not
abbrev pub nodes_count : Option (List ℕ) → ℕ
nodes_count None = 0
nodes_count (Some nodes) = length nodes

-- no block has more nodes
abbrev pub AtMost : ℕ → Option (List (Option (List ℕ))) → Type 0
AtMost most losses = (k : ℕ) → nodes_count (nodes_at losses k) ≤ most

-- The parts of a plan fit each other, and its numbers are those of its lines: whichever blocks are known.
pub record IsSound (p : Plan) : Type 0 where
  pub verdicts : AreVerdicts p.verdicts
  pub counts : AreCounts p.counts (lines_by p.verdicts)
  pub few : p.counts.peeled + p.counts.solved + p.counts.lost ≤ 2 ^ 23
  pub most : AtMost p.most_nodes p.verdicts.losses

-- the head of the report of a plan
abbrev pub head_by : Option (List ℕ) → Plan → Head
head_by seal plan = record {
  alpha = plan.verdicts.damaged.lattice.alpha;
  s = plan.verdicts.damaged.lattice.s;
  p = plan.verdicts.damaged.lattice.p;
  n = plan.verdicts.damaged.lattice.n;
  seal = seal;
  damaged = plan.counts.peeled + plan.counts.solved + plan.counts.lost;
  peeled = plan.counts.peeled;
  solved = plan.counts.solved;
  lost = plan.counts.lost;
}

-- so many bytes are space for the text of the nodes of each lost block: 11 for each node, a space and up to ten digits
abbrev pub HasRoom : Plan → ℕ → Type 0
HasRoom plan bytes = 11 * plan.most_nodes ≤ bytes
