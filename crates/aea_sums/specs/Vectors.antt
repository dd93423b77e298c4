-- A set of equations as the pass sees it at a block: at each place the equation that goes on there.
use Rattle.std.specs.Prelude.{◌≡◌, ◌↔◌, ◌⊎◌, Option, Some, None, ℕ, zero, suc, ◌+◌, ◌-◌, ◌<◌, ◌≤◌, Bool, true, false, ◌&&◌, ◌==◌, cond, nat_lt, List, length, get_or}
use Rattle.aea_lattice.specs.declared.blocks.BlockId.{BlockId}
use Rattle.aea_lattice.specs.declared.blocks.EqId.{EqId}
use Rattle.aea_lattice.specs.declared.grid.Lattice.{Lattice}
use Rattle.aea_lattice.specs.Blocks.{HasBlock, block_of, block_at, blocks_count, number_of, class_number}
use Rattle.aea_lattice.specs.declared.blocks.Class.TheVariants.{Datum}
use Rattle.aea_lattice.specs.Strands.{IsNext}
use Rattle.aea_lattice.specs.Parity.{differ}
use Rattle.aea_lattice.specs.Equations.{equation_of, adds_up_to}
use Rattle.aea_fates.specs.Sums.{IsSpare}
use Rattle.aea_view.specs.Bits.{has_bit}
use Rattle.aea_sums.specs.declared.row.Row.{Row}
use Rattle.aea_sums.specs.Rows.{row_bit, no_row, meets, with_at, IsTagged, Fits}
use Rattle.aea_sums.specs.Places.{places_of, place_at, odd_classes, is_wanted}

-- the equation that has the parity as its output
abbrev pub equation_at : BlockId → EqId
equation_at b = equation_of b.node b.class

abbrev pub is_parity : BlockId → Bool
is_parity b = nat_lt 0 (class_number b.class)

-- a test with tag k alone, where there is one
abbrev pub tag_alone : ℕ → Bool → ℕ → Bool
tag_alone k some t = some && t == 192 + k

-- The test where the pass comes to block number `from` with so many blocks left: at each place whether the set has the equation
-- of the first parity there.
unfoldable pub vector_from : Lattice → (EqId → Bool) → (ℕ → Bool) → ℕ → ℕ → ℕ → Bool
vector_from l set last zero from t = last t
vector_from l set last (suc left) from t =
    cond (is_parity (block_at l from) && t == place_at l (block_at l from)) (set (equation_at (block_at l from)))
    (vector_from l set last left (suc from) t)

abbrev pub vector_at : Lattice → (EqId → Bool) → ℕ → Bool → ℕ → ℕ → Bool
vector_at l set k some from = vector_from l set (tag_alone k some) (blocks_count l - from) from

-- The set adds up at the block to nothing, or to the wanted block, where the block is not known.
abbrev pub IsMet : Lattice → (BlockId → Bool) → List BlockId → ℕ → Bool → (EqId → Bool) → BlockId → Type 0
IsMet l known wanted k some set d = known d ≡ false → adds_up_to l set d ≡ (some && is_wanted wanted k d)

-- the place of a parity among the parities in number order: as many data are before it as its node's number
abbrev pub parity_number : Lattice → BlockId → ℕ
parity_number l d = number_of l d - d.node

-- how many parities the lattice has
abbrev pub parities_count : Lattice → ℕ
parities_count l = blocks_count l - l.n

-- the row that was taken out at the parity
abbrev pub record_at : Lattice → List Row → BlockId → Row
record_at l records d = get_or records (parity_number l d) no_row

-- The set is one that the rows tell: what was taken out at a known parity meets it evenly.
abbrev pub IsTold : Lattice → List Row → ℕ → Bool → (EqId → Bool) → BlockId → Type 0
IsTold l records k some set d = meets (row_bit (record_at l records d)) (vector_at l set k some (number_of l d)) ≡ false

-- nothing has changed
abbrev pub SameFits : List Row → ℕ → List Row → ℕ → Type 0
SameFits old lost new less = (k : ℕ) (some : Bool) (y : ℕ → Bool) → Fits new less k some y ↔ Fits old lost k some y

-- The pass has gone over a datum that is not known.
abbrev pub PassesDatum : Lattice → List BlockId → ℕ → List Row → ℕ → List Row → ℕ → Type 0
PassesDatum l wanted node old lost new less =
    (k : ℕ) (some : Bool) (y : ℕ → Bool) → k < 64 → IsTagged k some y
    → Fits new less k some y
    ↔ (Fits old lost k some y × (differ (some && is_wanted wanted k (block_of node Datum)) (odd_classes l (λ c. y (place_at l (block_of node c)))) ≡ false))

-- the value at a place, where the strand goes on
abbrev pub onward : Bool → Option ℕ → Bool
onward value None = false
onward value (Some j) = value

-- It has gone over a parity that is not known.
pub record PassesOpen (l : Lattice) (wanted : List BlockId) (b : BlockId) (old : List Row) (lost : ℕ) (new : List Row) (less : ℕ) : Type 0 where
  pub answer : Option ℕ
  pub next : IsNext l b.class b.node answer
  pub later : (j : ℕ) → answer ≡ Some j → b.node < j
  pub fits : (k : ℕ) (some : Bool) (y : ℕ → Bool) → k < 64 → IsTagged k some y
      → Fits old lost k some (with_at y (place_at l b) (differ (onward (y (place_at l b)) answer) (some && is_wanted wanted k b))) ↔ Fits new less k some y

-- The row has the place of the block's strand, or no bits, and no place past those of strands.
pub record IsTaken (l : Lattice) (b : BlockId) (row : Row) : Type 0 where
  pub has : (row_bit row (place_at l b) ≡ true) ⊎ ((t : ℕ) → row_bit row t ≡ false)
  pub narrow : (t : ℕ) → places_of l ≤ t → t < 192 → row_bit row t ≡ false

-- It has gone over the block.
pub record IsPass (l : Lattice) (known : BlockId → Bool) (wanted : List BlockId) (b : BlockId) (row : Row) (old : List Row) (lost : ℕ) (new : List Row) (less : ℕ) : Type 0 where
  pub datum_known : class_number b.class ≡ 0 → known b ≡ true → SameFits old lost new less
  pub datum_open : class_number b.class ≡ 0 → known b ≡ false → PassesDatum l wanted b.node old lost new less
  pub parity_known : 1 ≤ class_number b.class → known b ≡ true → (k : ℕ) (some z : Bool) (y : ℕ → Bool)
      → Fits old lost k some (with_at y (place_at l b) z) ↔ (Fits new less k some y × (meets (row_bit row) (with_at y (place_at l b) z) ≡ false))
  pub parity_open : 1 ≤ class_number b.class → known b ≡ false → PassesOpen l wanted b old lost new less
  pub kind : 1 ≤ class_number b.class → known b ≡ true → IsTaken l b row

-- What the pass holds when it has gone over the blocks below a number.
pub record ArePassed (l : Lattice) (known : BlockId → Bool) (wanted : List BlockId) (upto : ℕ) (records rows : List Row) (lost : ℕ) : Type 0 where
  -- each set that adds up to what it is to fits the rows,
  pub fits : (set : EqId → Bool) (k : ℕ) (some : Bool) → k < 64
      → ((d : BlockId) → HasBlock l d → number_of l d < upto → IsMet l known wanted k some set d)
      → Fits rows lost k some (vector_at l set k some upto)
  -- each that fits them, and that is told by the rows taken out, adds up at each datum to what it is to,
  pub adds : (set : EqId → Bool) (k : ℕ) → k < 64
      → ((d : BlockId) → HasBlock l d → number_of l d < upto → 1 ≤ class_number d.class → IsMet l known wanted k true set d)
      → ((d : BlockId) → HasBlock l d → number_of l d < upto → 1 ≤ class_number d.class → known d ≡ true → IsTold l records k true set d)
      → Fits rows lost k true (vector_at l set k true upto)
      → (d : BlockId) → HasBlock l d → number_of l d < upto → class_number d.class ≡ 0 → IsMet l known wanted k true set d
  -- and no equation is spare whose parity is not known, or where a row was taken out.
  pub not_spare : (d : BlockId) → HasBlock l d → number_of l d < upto → 1 ≤ class_number d.class
      → (known d ≡ true → row_bit (record_at l records d) (place_at l d) ≡ true) → IsSpare l known (equation_at d) → ⊥
  -- What was taken out there has the place, or no bits.
  pub kind : (d : BlockId) → HasBlock l d → number_of l d < upto → 1 ≤ class_number d.class → known d ≡ true → IsTaken l d (record_at l records d)

-- What the pass has found when it has gone over all blocks.
pub record AreRecords (l : Lattice) (known : BlockId → Bool) (wanted : List BlockId) (records : List Row) (lost : ℕ) : Type 0 where
  pub long : length records ≡ parities_count l
  -- A wanted block that some set gives is not lost.
  pub open' : (set : EqId → Bool) (k : ℕ) → k < 64 → ((d : BlockId) → HasBlock l d → IsMet l known wanted k true set d) → has_bit lost k ≡ false
  -- Of one that is not lost, a set that is told adds up at each datum to what it is to.
  pub adds : (set : EqId → Bool) (k : ℕ) → k < 64 → has_bit lost k ≡ false
      → ((d : BlockId) → HasBlock l d → 1 ≤ class_number d.class → IsMet l known wanted k true set d)
      → ((d : BlockId) → HasBlock l d → 1 ≤ class_number d.class → known d ≡ true → IsTold l records k true set d)
      → (d : BlockId) → HasBlock l d → class_number d.class ≡ 0 → IsMet l known wanted k true set d
  pub not_spare : (d : BlockId) → HasBlock l d → 1 ≤ class_number d.class
      → (known d ≡ true → row_bit (record_at l records d) (place_at l d) ≡ true) → IsSpare l known (equation_at d) → ⊥
  pub kind : (d : BlockId) → HasBlock l d → 1 ≤ class_number d.class → known d ≡ true → IsTaken l d (record_at l records d)
