-- How fates are read off a reduced matrix.
use Rattle.std.specs.Prelude.{◌≡◌, ◌≢◌, ℕ, suc, zero, ◌<◌, Bool, true, false, not, ◌&&◌, ◌||◌, ◌==◌, List, filter, IsTrue}
use Rattle.aea_lattice.specs.declared.blocks.Class.TheVariants.{Datum}
use Rattle.aea_lattice.specs.declared.blocks.BlockId.{BlockId}
use Rattle.aea_lattice.specs.declared.blocks.EqId.{EqId}
use Rattle.aea_lattice.specs.declared.grid.Lattice.{Lattice}
use Rattle.aea_lattice.specs.Blocks.{block_of, number_of, blocks_count}
use Rattle.aea_lattice.specs.Strands.{nodes_to}
use Rattle.aea_lattice.specs.Equations.{equations_of}
use Rattle.aea_gauss_laws.specs.Parities.{odd_below}
use Rattle.aea_gauss_words.specs.Matrices.{IsLead}
use Rattle.aea_readings.specs.Starts.{equation_column, columns}

-- the row has no column below k
abbrev pub has_none_below : (ℕ → Bool) → ℕ → Bool
has_none_below row zero = true
has_none_below row (suc k) = has_none_below row k && not (row k)

-- whether k is the least column of the row
abbrev pub is_lead : (ℕ → Bool) → ℕ → Bool
is_lead row k = row k && has_none_below row k

-- The equations of a row, in equation order.
abbrev pub equations_in : Lattice → (ℕ → Bool) → List EqId
equations_in l row = filter (λ e. row (equation_column l e)) (equations_of l)

-- the row gives the block: the block is its least column, and it has no further block
pub record IsRowOf (l : Lattice) (row : ℕ → Bool) (b : BlockId) : Type 0 where
  pub lead : IsLead (columns l) row (number_of l b)
  pub single : (k : ℕ) → k < blocks_count l → k ≢ number_of l b → row k ≡ false

-- no row has the column as its least
abbrev pub IsFree : ℕ → ℕ → (ℕ → ℕ → Bool) → ℕ → Type 0
IsFree rows cols matrix c = (i : ℕ) → i < rows → IsLead cols (matrix i) c → ⊥

-- The word of a free column f: f itself, and the least columns of the rows that have f.
abbrev pub word_at : ℕ → (ℕ → ℕ → Bool) → ℕ → ℕ → Bool
word_at rows matrix f k = k == f || odd_below (λ i. is_lead (matrix i) k && matrix i f) rows

-- its nodes, in rising order
abbrev pub nodes_in : Lattice → ℕ → (ℕ → ℕ → Bool) → ℕ → List ℕ
nodes_in l rows matrix f = filter (λ i. word_at rows matrix f (number_of l (block_of i Datum))) (nodes_to l.n)

-- the row shows that the block is lost with f: the block is its least column and f its next, also a block
pub record IsRowWith (l : Lattice) (row : ℕ → Bool) (b f : BlockId) : Type 0 where
  pub lead : IsLead (columns l) row (number_of l b)
  pub after : number_of l b < number_of l f
  pub next : IsTrue (row (number_of l f))
  pub between : (k : ℕ) → number_of l b < k → k < number_of l f → row k ≡ false
