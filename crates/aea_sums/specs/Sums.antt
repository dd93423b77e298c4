-- Sums: the listed equations of blocks that known blocks determine.
use Rattle.std.specs.Prelude.{◌≡◌, ℕ, ◌<◌, Bool, true, false, List, filter, length, get_or, Option, MatchOption}
use Rattle.aea_lattice.specs.declared.blocks.Class.TheVariants.{Datum}
use Rattle.aea_lattice.specs.declared.blocks.BlockId.{BlockId}
use Rattle.aea_lattice.specs.declared.blocks.EqId.{EqId}
use Rattle.aea_lattice.specs.declared.grid.Lattice.{Lattice}
use Rattle.aea_lattice.specs.Blocks.{HasBlock, block_of, blocks_count}
use Rattle.aea_lattice.specs.Equations.{equations_of}
use Rattle.aea_lattice.specs.Data.{Determines}
use Rattle.aea_fates.specs.Sums.{IsSum, output_number}
use Rattle.aea_view.specs.Bits.{has_bit}
use Rattle.aea_sums.specs.declared.sums.SumTable.{SumTable}
use Rattle.aea_sums.specs.Places.{places_of}
use Rattle.aea_sums.specs.Vectors.{parities_count}

-- the block that is wanted at a place
abbrev pub wanted_at : List BlockId → ℕ → BlockId
wanted_at wanted k = get_or wanted k (block_of 0 Datum)

-- the wanted blocks are blocks of the lattice that are not known
abbrev pub AreWanted : Lattice → (BlockId → Bool) → List BlockId → Type 0
AreWanted l known wanted = (k : ℕ) → k < length wanted → HasBlock l (wanted_at wanted k) × (known (wanted_at wanted k) ≡ false)

-- whether the table has the equation for wanted block k
abbrev pub has_equation : Lattice → List ℕ → ℕ → EqId → Bool
has_equation l table k e = has_bit (get_or table (output_number l e) 0) k

-- its equations, in equation order
abbrev pub equations_in : Lattice → List ℕ → ℕ → List EqId
equations_in l table k = filter (has_equation l table k) (equations_of l)

-- Each wanted block is not determined, where it is lost, and else the equations of the table are its listed ones.
pub record AreSums (l : Lattice) (known : BlockId → Bool) (wanted : List BlockId) (table : List ℕ) (bits : ℕ) : Type 0 where
  pub lost : (k : ℕ) → k < length wanted → has_bit bits k ≡ true → ¬ Determines l known (wanted_at wanted k)
  pub sum : (k : ℕ) → k < length wanted → has_bit bits k ≡ false → IsSum l known (wanted_at wanted k) (equations_in l table k)

-- The block is not determined, or these are its listed equations.
abbrev pub IsFound : Lattice → (BlockId → Bool) → BlockId → Option (List EqId) → Type 0
IsFound l known b found = MatchOption found (¬ Determines l known b) (IsSum l known b)

-- there is space for the blocks and the strands of the lattice
pub record HasSpace (l : Lattice) (s : SumTable) : Type 0 where
  pub rows : length s.rows.items ≡ places_of l
  pub records : length s.records.items ≡ parities_count l
  pub words : length s.words.items ≡ places_of l
  pub table : length s.table.items ≡ blocks_count l
