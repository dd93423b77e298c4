-- “Printed report”: what is printed for a lattice and the set of its blocks that are known.
use Rattle.std.specs.Prelude.{◌≡◌, ℕ, Bool, not, List, map, filter, All, Option}
use Rattle.aea_lattice.specs.declared.blocks.BlockId.{BlockId}
use Rattle.aea_lattice.specs.declared.grid.Lattice.{Lattice}
use Rattle.aea_lattice.specs.Blocks.{blocks_of}
use Rattle.aea_lattice.specs.Closure.{IsReached}
use Rattle.aea_lattice.specs.Data.{Determines}
use Rattle.aea_lattice.specs.LeastWord.{IsWord}
use Rattle.aea_report.specs.declared.head.Head.{Head}
use Rattle.aea_report.specs.declared.line.Line.{Line}
use Rattle.aea_report.specs.declared.line.Line.TheVariants.{Peeled, Solved, Lost}
use Rattle.aea_report.specs.Format.{block_in}
use Rattle.aea_report.specs.Fits.{AreCounted}

-- A block is peeled where single equations reach it from the known ones; solved where these determine it and do not reach
-- it so; and else lost, with its listed nodes.
abbrev pub IsLineOf : Lattice → (BlockId → Bool) → Line → Type 0
IsLineOf l known (Peeled b) = IsReached l known b
IsLineOf l known (Solved b) = Determines l known b × (IsReached l known b → ⊥)
IsLineOf l known (Lost b nodes) = (Determines l known b → ⊥) × IsWord l known b nodes

-- The printed report: a line for each block that is not known, in number order; and the lattice, the seal or none, and the
-- counts of the lines.
pub record IsPrinted (l : Lattice) (known : BlockId → Bool) (seal : Option (List ℕ)) (h : Head) (lines : List Line) : Type 0 where
  pub alpha : h.alpha ≡ l.alpha
  pub s : h.s ≡ l.s
  pub p : h.p ≡ l.p
  pub n : h.n ≡ l.n
  pub seal_is : h.seal ≡ seal
  pub blocks : map block_in lines ≡ filter (λ b. not (known b)) (blocks_of l)
  pub each : All (IsLineOf l known) lines
  pub counted : AreCounted h lines
