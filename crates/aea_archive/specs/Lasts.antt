-- The last parities of a lattice: those that enter what is woven next. After a fence there are none.
use Rattle.std.specs.Prelude.{◌≡◌, ℕ, ◌≤◌, List, Some}
use Rattle.aea_lattice.specs.declared.blocks.BlockId.{BlockId}
use Rattle.aea_lattice.specs.declared.grid.Lattice.{Lattice}
use Rattle.aea_lattice.specs.declared.shape.Shape.{Shape}
use Rattle.aea_lattice.specs.Blocks.{HasParity}
use Rattle.aea_lattice.specs.Strands.{strand_of}
use Rattle.aea_lattice.specs.Ends.{last_open}
use Rattle.aea_lattice.specs.Shapes.{number_in}
use Rattle.aea_lattice.specs.Data.{value_of}
use Rattle.aea_envelope.specs.Cells.{block_digest, cell_of}
use Rattle.aea_disk.specs.Files.{Files}
use Rattle.aea_shelf.specs.Places.{HasAtHome}
use Rattle.aea_shelf.specs.Intact.{payload_at}
use Rattle.aea_archive.specs.Blocks.{recorded_in, IsIntactBy}

-- a last parity: one of the last node of its strand that no fence parts from the next
pub record IsLastParity (l : Lattice) (b : BlockId) : Type 0 where
  pub parity : HasParity l b.class
  pub last : last_open l b.class (strand_of l b.class b.node) ≡ Some b.node

-- a last parity that is damaged
pub record IsDamagedLast (shape : Shape) (l : Lattice) (digests : List (List ℕ)) (c : Files) (b : BlockId) : Type 0 where
  pub last : IsLastParity l b
  pub damaged : IsIntactBy shape digests c b → ⊥

-- the one with the least number
pub record IsFirstDamagedLast (shape : Shape) (l : Lattice) (digests : List (List ℕ)) (c : Files) (b : BlockId) : Type 0 where
  pub damaged : IsDamagedLast shape l digests c b
  pub least : (a : BlockId) → IsDamagedLast shape l digests c a → number_in shape b ≤ number_in shape a

-- all last parities are intact
abbrev pub AreLastsIntact : Shape → Lattice → List (List ℕ) → Files → Type 0
AreLastsIntact shape l digests c = (b : BlockId) → IsLastParity l b → IsIntactBy shape digests c b

-- They are honest for a data list: each that is intact has the payload of the list's lattice.
abbrev pub AreLastsHonest : Shape → Lattice → List (List ℕ) → List (List ℕ) → Files → Type 0
AreLastsHonest shape l digests datas c =
    (b : BlockId) → IsLastParity l b → IsIntactBy shape digests c b
    → payload_at shape c b ≡ value_of l shape.block datas b

-- The payloads of the last parities are those that the ledger keeps the digests of,
abbrev pub AreLastsRecorded : Shape → Lattice → List (List ℕ) → (BlockId → List ℕ) → Type 0
AreLastsRecorded shape l digests payload = (b : BlockId) → IsLastParity l b → block_digest b (payload b) ≡ recorded_in shape digests b

-- those that are at their homes,
abbrev pub AreLastsAtHome : Shape → Lattice → (BlockId → List ℕ) → Files → Type 0
AreLastsAtHome shape l payload c = (b : BlockId) → IsLastParity l b → HasAtHome shape b (cell_of b (payload b)) c

-- and those of the lattice of a data list.
abbrev pub AreLastsOf : Shape → Lattice → List (List ℕ) → (BlockId → List ℕ) → Type 0
AreLastsOf shape l datas payload = (b : BlockId) → IsLastParity l b → payload b ≡ value_of l shape.block datas b
