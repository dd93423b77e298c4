-- The matrix of a lattice and its known blocks. The columns are first the blocks in number order and then the equations
-- in falling order; known blocks and equations without an unknown block are in no row.
use Rattle.std.specs.Prelude.{ℕ, ◌+◌, ◌-◌, ◌*◌, Bool, not, ◌&&◌, ◌==◌, cond, nat_lt, get_or, length}
use Rattle.aea_lattice.specs.declared.blocks.Class.TheVariants.{Datum}
use Rattle.aea_lattice.specs.declared.blocks.BlockId.{BlockId}
use Rattle.aea_lattice.specs.declared.blocks.EqId.{EqId}
use Rattle.aea_lattice.specs.declared.grid.Lattice.{Lattice}
use Rattle.aea_lattice.specs.Blocks.{blocks_count, block_at}
use Rattle.aea_lattice.specs.Equations.{is_in_equation, equation_of}
use Rattle.aea_fates.specs.Sums.{output_number}
use Rattle.aea_fates.specs.Live.{live_equations}

-- the column of an equation: those of greater equations come first
abbrev pub equation_column : Lattice → EqId → ℕ
equation_column l e = blocks_count l + (blocks_count l - 1 - output_number l e)

-- the number of columns
abbrev pub columns : Lattice → ℕ
columns l = 2 * blocks_count l

-- the row of an equation: its unknown blocks, and the equation itself
abbrev pub row_at : Lattice → (BlockId → Bool) → EqId → ℕ → Bool
row_at l known e k =
    cond (nat_lt k (blocks_count l))
    (not (known (block_at l k)) && is_in_equation l e (block_at l k))
    (k == equation_column l e)

-- the matrix at first: a row for each equation that has an unknown block
abbrev pub start : Lattice → (BlockId → Bool) → ℕ → ℕ → Bool
start l known i = row_at l known (get_or (live_equations l known) i (equation_of 0 Datum))

-- the number of its rows
abbrev pub rows_of : Lattice → (BlockId → Bool) → ℕ
rows_of l known = length (live_equations l known)
