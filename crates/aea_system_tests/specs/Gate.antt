-- A file with a gate, for the tests: a byte of 1 opens what follows it, any other byte closes it.
use Rattle.std.specs.Prelude.{◌≡◌, ◌≢◌, ◌⊎◌, ◌+◌, ◌≤◌, ◌<◌, ℕ, List, [], ◌∷◌, length, take, drop, slice_index}
use Rattle.aea_disk.specs.Files.{Files, ChangesFile, Holds}
use Rattle.aea_disk.specs.State.{State, TakesFrom, HasRoomTo}

-- the file has this gate, and it is closed
pub record IsClosed (gate : ℕ) (bytes : List ℕ) : Type 0 where
  pub there : gate < length bytes
  pub closed : slice_index bytes gate ≢ 1

-- the old bytes before a closed gate
pub record HasOld (gate : ℕ) (old new : List ℕ) : Type 0 where
  pub before : take gate new ≡ take gate old
  pub shut : IsClosed gate new

-- the old bytes, an open gate and the body after it
pub record HasNew (gate : ℕ) (body old new : List ℕ) : Type 0 where
  pub before : take gate new ≡ take gate old
  pub opened : slice_index new gate ≡ 1
  pub behind : take (length body) (drop (gate + 1) new) ≡ body

abbrev pub HasOldOrNew : ℕ → List ℕ → List ℕ → List ℕ → Type 0
HasOldOrNew gate body old new = HasOld gate old new ⊎ HasNew gate body old new

-- two ranges of one file have no byte in common
abbrev pub IsApart : ℕ → ℕ → ℕ → ℕ → Type 0
IsApart a m at n = (a + m ≤ at) ⊎ (at + n ≤ a)

-- The disk takes a write of these bytes of a file, and then a sync: whatever the files are that the write leaves.
pub record TakesWrite (s : State) (file at : ℕ) (bytes : List ℕ) : Type 0 where
  pub here : TakesFrom s file at
  pub then : (d : Files) → ChangesFile file (Holds at bytes) s.files d → (a : ℕ) × s.takes 0 (d 0) a

-- it has space for both
pub record FitsWrite (s : State) (file at : ℕ) (bytes : List ℕ) : Type 0 where
  pub room : HasRoomTo s file (at + length bytes)
  pub sync : (d : Files) → ChangesFile file (Holds at bytes) s.files d → s.keeps (d 0)

-- the disk takes a commit of a body: its write, and then that of the gate, with a sync after each
pub record TakesGate (s : State) (gate : ℕ) (body : List ℕ) : Type 0 where
  pub first : TakesWrite s 0 (gate + 1) body
  pub second : (d : Files) → ChangesFile 0 (Holds (gate + 1) body) s.files d → s.takes 0 (d 0) gate
  pub done : (d e : Files) → ChangesFile 0 (Holds (gate + 1) body) s.files d → ChangesFile 0 (Holds gate (1 ∷ [])) d e → (a : ℕ) × s.takes 0 (e 0) a

-- it has space for all of them
pub record FitsGate (s : State) (gate : ℕ) (body : List ℕ) : Type 0 where
  pub first : FitsWrite s 0 (gate + 1) body
  pub done : (d e : Files) → ChangesFile 0 (Holds (gate + 1) body) s.files d → ChangesFile 0 (Holds gate (1 ∷ [])) d e → s.keeps (e 0)
