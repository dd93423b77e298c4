-- What the pass back holds.
use Rattle.std.specs.Prelude.{◌≡◌, ℕ, ◌+◌, ◌<◌, ◌≤◌, Bool, true, false, ◌==◌, cond, nat_lt, List, length, get_or, slice_set, Option, Some}
use Rattle.aea_lattice.specs.declared.blocks.BlockId.{BlockId}
use Rattle.aea_lattice.specs.declared.blocks.EqId.{EqId}
use Rattle.aea_lattice.specs.declared.grid.Lattice.{Lattice}
use Rattle.aea_lattice.specs.Blocks.{HasBlock, number_of, class_number, blocks_count}
use Rattle.aea_lattice.specs.Strands.{IsNext}
use Rattle.aea_lattice.specs.Parity.{differ}
use Rattle.aea_view.specs.Bits.{has_bit}
use Rattle.aea_sums.specs.declared.row.Row.{Row}
use Rattle.aea_sums.specs.Rows.{row_bit, meets}
use Rattle.aea_sums.specs.Places.{places_of, place_at, is_wanted}
use Rattle.aea_sums.specs.Vectors.{equation_at, vector_at, onward, IsMet, record_at, IsTold, IsTaken}

-- bit k of the words at the places, and tag k
abbrev pub column : List ℕ → ℕ → ℕ → Bool
column words k t = cond (nat_lt t 192) (has_bit (get_or words t 0) k) (t == 192 + k)

-- The value at a known parity is what the row taken out there tells.
pub record IsKnownValue (l : Lattice) (records : List Row) (b : BlockId) (words : List ℕ) (value : ℕ) : Type 0 where
  pub told : (k : ℕ) → k < 64 → meets (row_bit (record_at l records b)) (column (slice_set words (place_at l b) value) k) ≡ false
  pub has : (k : ℕ) → has_bit value k ≡ true → row_bit (record_at l records b) (place_at l b) ≡ true

-- The value at a parity that is not known is that of the next one of its strand, but for the wanted block itself.
pub record IsOpenValue (l : Lattice) (wanted : List BlockId) (b : BlockId) (words : List ℕ) (value : ℕ) : Type 0 where
  pub answer : Option ℕ
  pub next : IsNext l b.class b.node answer
  pub later : (j : ℕ) → answer ≡ Some j → b.node < j
  pub is : (k : ℕ) → k < 64 → has_bit value k ≡ differ (onward (has_bit (get_or words (place_at l b) 0) k) answer) (is_wanted wanted k b)

-- what was taken out at each known parity has its place, or no bits
abbrev pub AreTaken : Lattice → (BlockId → Bool) → List Row → Type 0
AreTaken l known records = (d : BlockId) → HasBlock l d → 1 ≤ class_number d.class → known d ≡ true → IsTaken l d (record_at l records d)

-- From a number on the set has the equations that the table has.
abbrev pub Agrees : Lattice → List ℕ → ℕ → ℕ → (EqId → Bool) → Type 0
Agrees l table k from set = (d : BlockId) → HasBlock l d → 1 ≤ class_number d.class → from ≤ number_of l d → set (equation_at d) ≡ has_bit (get_or table (number_of l d) 0) k

-- The pass back has gone over the blocks from a number on.
pub record AreBack (l : Lattice) (known : BlockId → Bool) (wanted : List BlockId) (records : List Row) (table words : List ℕ) (from : ℕ) : Type 0 where
  pub long : length words ≡ places_of l
  pub table_long : length table ≡ blocks_count l
  pub columns_are : (set : EqId → Bool) (k : ℕ) → k < 64 → Agrees l table k from set → (t : ℕ) → t < 256 → column words k t ≡ vector_at l set k true from t
  pub met : (set : EqId → Bool) (k : ℕ) → k < 64 → Agrees l table k from set
      → (d : BlockId) → HasBlock l d → 1 ≤ class_number d.class → from ≤ number_of l d → IsMet l known wanted k true set d
  pub told : (set : EqId → Bool) (k : ℕ) → k < 64 → Agrees l table k from set
      → (d : BlockId) → HasBlock l d → 1 ≤ class_number d.class → from ≤ number_of l d → known d ≡ true → IsTold l records k true set d
  pub has : (set : EqId → Bool) (k : ℕ) → k < 64 → Agrees l table k from set
      → (d : BlockId) → HasBlock l d → 1 ≤ class_number d.class → from ≤ number_of l d → known d ≡ true → set (equation_at d) ≡ true
      → row_bit (record_at l records d) (place_at l d) ≡ true
