-- What an accepted report shows. The blocks that are intact are given by a test.
use Rattle.std.specs.Prelude.{◌≡◌, ◌≢◌, ◌↔◌, ◌≤◌, ℕ, Bool, List, Contains}
use Rattle.aea_lattice.specs.declared.blocks.BlockId.{BlockId}
use Rattle.aea_lattice.specs.declared.grid.Lattice.{Lattice}
use Rattle.aea_lattice.specs.Blocks.{HasBlock}
use Rattle.aea_lattice.specs.Data.{IsDataList, Agree, value_of}
use Rattle.aea_report.specs.declared.head.Head.{Head}
use Rattle.aea_report.specs.declared.line.Line.{Line}
use Rattle.aea_report.specs.declared.line.Line.TheVariants.{Lost}
use Rattle.aea_report.specs.Grammar.{AreLines}
use Rattle.aea_report.specs.Fits.{Fits}
use Rattle.aea_verify.specs.declared.verdict.Verdict.TheVariants.{Accepted}
use Rattle.aea_verify.specs.Rules.{verdict_of}

-- What the known blocks leave open: two data lists of this width whose lattices agree on all of them, and differ at this
-- block.
pub record IsOpenTo (l : Lattice) (w : ℕ) (known : BlockId → Bool) (b : BlockId) : Type 0 where
  pub xs : List (List ℕ)
  pub ys : List (List ℕ)
  pub is_xs : IsDataList l w xs
  pub is_ys : IsDataList l w ys
  pub agree : Agree l w known xs ys
  pub differ : value_of l w xs b ≢ value_of l w ys b

-- A report of this lattice is accepted exactly where it fits.
abbrev pub AcceptedAreFitting : Type 0
AcceptedAreFitting =
    (l : Lattice) (seal : List ℕ) (intact : BlockId → Bool) (h : Head) (lines : List Line) → AreLines l lines
    → (verdict_of l seal intact h lines ≡ Accepted) ↔ Fits l seal intact h lines

-- Where a report fits, the intact blocks leave open each lost one, for each width.
abbrev pub LostAreOpen : Type 0
LostAreOpen =
    (l : Lattice) (seal : List ℕ) (intact : BlockId → Bool) (h : Head) (lines : List Line) (w : ℕ)
    → 1 ≤ w → Fits l seal intact h lines
    → (b : BlockId) (nodes : List ℕ) → HasBlock l b → Contains lines (Lost b nodes) → IsOpenTo l w intact b
