-- “Lattice of X” and “Determined”: data lists, the lattice of a data list, and what a set of blocks determines.
use Rattle.std.specs.Prelude.{◌≡◌, ℕ, ◌-◌, ◌<◌, ◌≤◌, ◌^◌, Bool, List, map, zip, fold, replicate, length, bit_xor, All, IsTrue, slice_get, unwrap_or}
use Rattle.aea_lattice.specs.declared.blocks.Class.{Class}
use Rattle.aea_lattice.specs.declared.blocks.Class.TheVariants.{Datum}
use Rattle.aea_lattice.specs.declared.blocks.BlockId.{BlockId}
use Rattle.aea_lattice.specs.declared.grid.Lattice.{Lattice}
use Rattle.aea_lattice.specs.Blocks.{HasBlock}
use Rattle.aea_lattice.specs.Strands.{prefix}

-- a block of w bytes
pub record IsBytes (w : ℕ) (bytes : List ℕ) : Type 0 where
  pub wide : length bytes ≡ w
  pub each : All (λ x. x < 2 ^ 8) bytes

-- a data list of width w, at least 1, for a lattice: as many blocks of w bytes as it has nodes
pub record IsDataList (l : Lattice) (w : ℕ) (datas : List (List ℕ)) : Type 0 where
  pub some_bytes : 1 ≤ w
  pub long : length datas ≡ l.n
  pub each : All (IsBytes w) datas

-- the XOR of two blocks, byte by byte
abbrev pub xor_bytes : List ℕ → List ℕ → List ℕ
xor_bytes xs ys = map (λ q. bit_xor q.0 q.1) (zip xs ys)

-- the XOR of blocks of w bytes; of none it is w zeros
abbrev pub xor_all : ℕ → List (List ℕ) → List ℕ
xor_all w blocks = fold xor_bytes (replicate w 0) blocks

-- the datum of node i
abbrev pub datum_at : ℕ → List (List ℕ) → ℕ → List ℕ
datum_at w datas i = unwrap_or (slice_get datas (i - 1)) (replicate w 0)

-- The block (i,c) of the lattice of a data list X: X_i for a datum, and for a parity the XOR of X_k over the
-- nodes k of pre(i,c).
abbrev pub value_at : Lattice → ℕ → List (List ℕ) → ℕ → Class → List ℕ
value_at l w datas i Datum = datum_at w datas i
value_at l w datas i c = xor_all w (map (datum_at w datas) (prefix l c i))

-- the block b of the lattice of a data list
abbrev pub value_of : Lattice → ℕ → List (List ℕ) → BlockId → List ℕ
value_of l w datas b = value_at l w datas b.node b.class

-- the lattices of two data lists agree on the blocks of a set
abbrev pub Agree : Lattice → ℕ → (BlockId → Bool) → List (List ℕ) → List (List ℕ) → Type 0
Agree l w known xs ys =
    (d : BlockId) → HasBlock l d → IsTrue (known d) → value_of l w xs d ≡ value_of l w ys d

-- A set of blocks determines b: for every width, any two data lists whose lattices agree on the set have
-- lattices that agree at b.
abbrev pub Determines : Lattice → (BlockId → Bool) → BlockId → Type 0
Determines l known b =
    (w : ℕ) (xs ys : List (List ℕ)) → IsDataList l w xs → IsDataList l w ys → Agree l w known xs ys
    → value_of l w xs b ≡ value_of l w ys b
