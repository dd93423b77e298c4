-- “Check”: when a report fits an archive. The blocks that are intact are given by a test.
use Rattle.std.specs.Prelude.{◌≡◌, ℕ, ◌+◌, Bool, true, false, List, map, All, Contains, count_by, Some}
use Rattle.aea_lattice.specs.declared.blocks.BlockId.{BlockId}
use Rattle.aea_lattice.specs.declared.grid.Lattice.{Lattice}
use Rattle.aea_lattice.specs.Blocks.{HasBlock}
use Rattle.aea_lattice.specs.Equations.{is_in_codeword}
use Rattle.aea_lattice.specs.Facts.{Misses}
use Rattle.aea_lattice.specs.Lists.{has_node}
use Rattle.aea_report.specs.declared.head.Head.{Head}
use Rattle.aea_report.specs.declared.line.Line.{Line}
use Rattle.aea_report.specs.declared.line.Line.TheVariants.{Peeled, Solved, Lost}
use Rattle.aea_report.specs.Format.{block_in}

-- whether the line says that its block is peeled
abbrev pub is_peeled : Line → Bool
is_peeled (Peeled b) = true
is_peeled (Solved b) = false
is_peeled (Lost b nodes) = false

-- whether it says that its block is solved
abbrev pub is_solved : Line → Bool
is_solved (Peeled b) = false
is_solved (Solved b) = true
is_solved (Lost b nodes) = false

-- whether it says that its block is lost
abbrev pub is_lost : Line → Bool
is_lost (Peeled b) = false
is_lost (Solved b) = false
is_lost (Lost b nodes) = true

-- the counts of the head are those of the lines
pub record AreCounted (h : Head) (lines : List Line) : Type 0 where
  pub damaged : h.damaged ≡ h.peeled + h.solved + h.lost
  pub peeled : h.peeled ≡ count_by is_peeled lines
  pub solved : h.solved ≡ count_by is_solved lines
  pub lost : h.lost ≡ count_by is_lost lines

-- The nodes show that the block is lost: it is not intact, their codeword contains it, and it contains no intact block. So
-- the intact blocks leave open what this one was.
pub record ShowLost (l : Lattice) (intact : BlockId → Bool) (b : BlockId) (nodes : List ℕ) : Type 0 where
  pub damaged : intact b ≡ false
  pub contains : is_in_codeword l (has_node nodes) b ≡ true
  pub misses : Misses l intact (has_node nodes)

-- A line is true: a restored block is intact, and of a lost one its nodes show that it is.
abbrev pub IsRevealed : Lattice → (BlockId → Bool) → Line → Type 0
IsRevealed l intact (Peeled b) = intact b ≡ true
IsRevealed l intact (Solved b) = intact b ≡ true
IsRevealed l intact (Lost b nodes) = ShowLost l intact b nodes

-- The report is one of an archive with this lattice and seal: each damaged block has a line, each line is true, and
-- the counts are those of the lines.
pub record Fits (l : Lattice) (seal : List ℕ) (intact : BlockId → Bool) (h : Head) (lines : List Line) : Type 0 where
  pub alpha : h.alpha ≡ l.alpha
  pub s : h.s ≡ l.s
  pub p : h.p ≡ l.p
  pub n : h.n ≡ l.n
  pub seal_is : h.seal ≡ Some seal
  pub whole : (b : BlockId) → HasBlock l b → intact b ≡ false → Contains (map block_in lines) b
  pub revealed : All (IsRevealed l intact) lines
  pub counted : AreCounted h lines
