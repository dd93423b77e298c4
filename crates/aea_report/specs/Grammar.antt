-- “Report grammar”: which bytes are a loss report of which head and lines.
use Rattle.std.specs.Prelude.{◌≡◌, ℕ, ◌+◌, ◌<◌, ◌≤◌, ◌^◌, List, [], ◌∷◌, length, IfSome, ⊤}
use Rattle.aea_lattice.specs.declared.grid.Lattice.{Lattice}
use Rattle.aea_lattice.specs.Blocks.{HasBlock, number_of}
use Rattle.aea_lattice.specs.Data.{IsBytes}
use Rattle.aea_report.specs.declared.head.Head.{Head}
use Rattle.aea_report.specs.declared.line.Line.{Line}
use Rattle.aea_report.specs.declared.line.Line.TheVariants.{Peeled, Solved, Lost}
use Rattle.aea_report.specs.Format.{block_in, report_bytes}

-- The head is one of this lattice: it has its shape and its number of nodes, a seal of 32 bytes if it has one, and counts of
-- 32 bits. A lattice has a shape of the profile and at most 1,048,576 nodes; of its fences a report says nothing.
pub record IsHeadOf (l : Lattice) (h : Head) : Type 0 where
  pub alpha : h.alpha ≡ l.alpha
  pub s : h.s ≡ l.s
  pub p : h.p ≡ l.p
  pub n : h.n ≡ l.n
  pub seal : IfSome h.seal (IsBytes 32)
  pub damaged : h.damaged < 2 ^ 32
  pub peeled : h.peeled < 2 ^ 32
  pub solved : h.solved < 2 ^ 32
  pub lost : h.lost < 2 ^ 32

-- nodes of the lattice, each greater than the one before, and the first greater than this one
abbrev pub RiseFrom : Lattice → ℕ → List ℕ → Type 0
RiseFrom l i [] = ⊤
RiseFrom l i (j ∷ nodes) = (i < j) × (j ≤ l.n) × RiseFrom l j nodes

-- one or more nodes of the lattice, each greater than the one before
abbrev pub AreNodes : Lattice → List ℕ → Type 0
AreNodes l nodes = (0 < length nodes) × RiseFrom l 0 nodes

-- the nodes of a line by which a block is lost are such
abbrev pub HasNodes : Lattice → Line → Type 0
HasNodes l (Peeled b) = ⊤
HasNodes l (Solved b) = ⊤
HasNodes l (Lost b nodes) = AreNodes l nodes

-- the line is one of a block of the lattice whose number is this one or a greater one
pub record IsLine (l : Lattice) (least : ℕ) (line : Line) : Type 0 where
  pub block : HasBlock l (block_in line)
  pub later : least ≤ number_of l (block_in line)
  pub nodes : HasNodes l line

-- lines of blocks in number order, each once, from this number on
abbrev pub AreLinesFrom : Lattice → ℕ → List Line → Type 0
AreLinesFrom l least [] = ⊤
AreLinesFrom l least (line ∷ lines) = IsLine l least line × AreLinesFrom l (number_of l (block_in line) + 1) lines

-- the lines may be in a report of this lattice
abbrev pub AreLines : Lattice → List Line → Type 0
AreLines l lines = AreLinesFrom l 0 lines

-- The bytes are a report with this head and these lines.
pub record IsReport (bytes : List ℕ) (h : Head) (lines : List Line) : Type 0 where
  pub lattice : Lattice
  pub head : IsHeadOf lattice h
  pub valid : AreLines lattice lines
  pub spelling : bytes ≡ report_bytes h lines
