-- What a stretch of a run leaves in which records are added to a ledger: at each of its moments, and at its end. A stretch
-- goes from one state of the disk to a later one.
use Rattle.std.specs.Prelude.{ℕ, ◌≤◌, List, ◌++◌, length, take}
use Rattle.aea_lattice.specs.declared.blocks.BlockId.{BlockId}
use Rattle.aea_lattice.specs.declared.shape.Shape.{Shape}
use Rattle.aea_envelope.specs.Cells.{cell_of}
use Rattle.aea_disk.specs.State.{State, During, SomeGivesEvery, Stays, IsSynced}
use Rattle.aea_shelf.specs.Places.{HasAtHome}
use Rattle.aea_records.specs.Format.{Record, nodes_of, digests_of}
use Rattle.aea_ledger.specs.Stops.{HasLedger}
use Rattle.aea_archive.specs.Blocks.{IsBlockOn, IsHeldBy}

-- The ledger has these records and, after them, k of the added ones or more, in order.
pub record HasAtLeast (shape : Shape) (records added : List Record) (k : ℕ) (bytes : List ℕ) : Type 0 where
  pub count : ℕ
  pub enough : k ≤ count
  pub within : count ≤ length added
  pub ledger : HasLedger shape (records ++ take count added) bytes

-- the ledger has these records followed by the first of the added ones, none or some or all of them
abbrev pub HasPrefix : Shape → List Record → List Record → List ℕ → Type 0
HasPrefix shape records added bytes = HasAtLeast shape records added 0 bytes

-- In a stretch these records are added one by one after those that the ledger had, with these payloads of their blocks.
pub record Adds (shape : Shape) (records added : List Record) (payload : BlockId → List ℕ) (old new : State) : Type 0 where
  -- every image of every moment has the old records and the first of the added ones, and so does what is read
  pub prefix : During old new (λ c. HasPrefix shape records added (c 0))
  pub reads : HasPrefix shape records added (new.files 0)
  -- an added record that every image of one moment has, every image of each later moment has
  pub stays : (k : ℕ) → k ≤ length added → Stays old new (λ c. HasAtLeast shape records added k (c 0))
  -- at each moment where some image has an added record, every image has the cells of its blocks
  pub held : (k : ℕ) (b : BlockId) → k ≤ length added
      → IsBlockOn shape (nodes_of records) (nodes_of (records ++ take k added)) b
      → SomeGivesEvery old new (λ c. HasAtLeast shape records added k (c 0)) (HasAtHome shape b (cell_of b (payload b)))

-- and all of them are there at its end, where nothing is pending: the ledger has them, and their blocks are held
pub record HasAdded (shape : Shape) (records added : List Record) (s : State) : Type 0 where
  pub ledger : HasLedger shape (records ++ added) (s.files 0)
  pub synced : IsSynced s
  pub blocks : (b : BlockId) → IsBlockOn shape (nodes_of records) (nodes_of (records ++ added)) b
      → IsHeldBy shape (digests_of (records ++ added)) s b
