-- “Search”: which blocks were read, which of them are unknown, and what a search that goes on leaves.
use Rattle.std.specs.Prelude.{◌≡◌, ◌≢◌, ◌⊎◌, ◌↔◌, ◌+◌, ◌≤◌, Bool, true, false, not, List, [], ◌∷◌, ◌++◌, Contains, length, IsTrue, refl}
use Rattle.std.specs.Coded.{Coded, code_by, coded×, coded_list}
use Rattle.aea_lattice.specs.declared.blocks.BlockId.{BlockId}
use Rattle.aea_lattice.specs.declared.blocks.EqId.{EqId}
use Rattle.aea_lattice.specs.declared.grid.Lattice.{Lattice}
use Rattle.aea_lattice.specs.contracts.blocks.BlockId as blocks
use Rattle.aea_lattice.specs.Blocks.{HasBlock}
use Rattle.aea_lattice.specs.Equations.{HasEquation, is_in_equation}
use Rattle.aea_view.specs.Marked.{Marked, marked_code, IsWhole, is_marked, unmarked}
use Rattle.aea_disk.specs.Files.{Files}
use Rattle.aea_disk.specs.State.{State}
use Rattle.aea_disk.specs.Frames.{OnlyReads}
use Rattle.aea_ledger.specs.Values.{Opened}
use Rattle.aea_archive.specs.Blocks.{IsIntactBy}

-- What a search has come to: marks of the blocks that were read, marks of those of them that are unknown, which are damaged or
-- were taken as such, and the unknown ones that wait to be gone around, the first of them first.
pub record Searched : Type 0 where
  pub read : Marked
  pub unknown : Marked
  pub waiting : List BlockId

-- a search as the tuple of its parts
abbrev pub searched_code : Coded Searched
searched_code =
    code_by (Marked × (Marked × List BlockId)) (coded× marked_code (coded× marked_code (coded_list blocks.the_row.coded)))
    (λ s. (s.read, (s.unknown, s.waiting)))
    (λ t. record { read = t.0; unknown = t.1.0; waiting = t.1.1 })
    (λ _. refl)

-- nothing was read yet, and so nothing is unknown
pub record IsNew (l : Lattice) (s : Searched) : Type 0 where
  pub lattice : s.read.lattice ≡ l
  pub read : (b : BlockId) → is_marked s.read b ≡ false
  pub unknown : (b : BlockId) → is_marked s.unknown b ≡ false
  pub waiting : s.waiting ≡ []

-- each block of the equation was read
abbrev pub IsAllRead : Lattice → Marked → EqId → Type 0
IsAllRead l read e = (b : BlockId) → IsTrue (is_in_equation l e b) → is_marked read b ≡ true

-- each block that shares an equation with this one was read
abbrev pub IsGoneAround : Lattice → Marked → BlockId → Type 0
IsGoneAround l read b = (e : EqId) → HasEquation l e → IsTrue (is_in_equation l e b) → IsAllRead l read e

-- What is so of every search: the marks are of one lattice, and so are the blocks that wait; each unknown block was read, and it
-- waits or was gone around.
pub record IsSearch (s : Searched) : Type 0 where
  pub same : s.unknown.lattice ≡ s.read.lattice
  pub read : IsWhole s.read
  pub unknown : IsWhole s.unknown
  pub inside : (b : BlockId) → Contains s.waiting b → HasBlock s.read.lattice b
  pub within : (b : BlockId) → HasBlock s.read.lattice b → is_marked s.unknown b ≡ true → is_marked s.read b ≡ true
  pub rest : (b : BlockId) → HasBlock s.read.lattice b → is_marked s.unknown b ≡ true → Contains s.waiting b ⊎ IsGoneAround s.read.lattice s.read b

-- What a search that goes on leaves: what was read stays read, and unknown or not as it was. Where the contents of the disk are
-- known, each block that was read meanwhile is unknown exactly where it is not intact.
pub record Goes (reveals : Type 0) (v : Opened) (c : Files) (old new : Searched) : Type 0 where
  pub same : new.read.lattice ≡ old.read.lattice
  pub read : (b : BlockId) → HasBlock v.lattice b → is_marked old.read b ≡ true → is_marked new.read b ≡ true
  pub kept : (b : BlockId) → HasBlock v.lattice b → is_marked old.read b ≡ true → is_marked new.unknown b ≡ is_marked old.unknown b
  pub revealed : reveals → (b : BlockId) → HasBlock v.lattice b → is_marked old.read b ≡ false → is_marked new.read b ≡ true
      → (is_marked new.unknown b ≡ false) ↔ IsIntactBy v.shape v.digests c b

-- of the blocks of the lattice these marks have this one too, and otherwise those that the others have
pub record IsMarkedToo (l : Lattice) (old new : Marked) (b : BlockId) : Type 0 where
  pub same : new.lattice ≡ old.lattice
  pub here : is_marked new b ≡ true
  pub others : (d : BlockId) → HasBlock l d → d ≢ b → is_marked new d ≡ is_marked old d
  pub one : is_marked old b ≡ false → unmarked new + 1 ≡ unmarked old

-- the block was taken as read and unknown, and waits last
pub record Begins (old new : Searched) (b : BlockId) : Type 0 where
  pub read : IsMarkedToo old.read.lattice old.read new.read b
  pub unknown : IsMarkedToo old.read.lattice old.unknown new.unknown b
  pub waiting : new.waiting ≡ old.waiting ++ b ∷ []

-- the block was taken as read
pub record Passes (old new : Searched) (b : BlockId) : Type 0 where
  pub read : IsMarkedToo old.read.lattice old.read new.read b
  pub unknown : new.unknown ≡ old.unknown
  pub waiting : new.waiting ≡ old.waiting

-- The test is right about what was read: each such block is unknown exactly where it does not pass.
abbrev pub IsRightBy : Lattice → (BlockId → Bool) → Searched → Type 0
IsRightBy l known s = (b : BlockId) → HasBlock l b → is_marked s.read b ≡ true → is_marked s.unknown b ≡ not (known b)

-- the first block that waits
pub record IsFirst (s : Searched) (b : BlockId) : Type 0 where
  pub others : List BlockId
  pub waits : s.waiting ≡ b ∷ others
  pub block : HasBlock s.read.lattice b

-- Blocks that were looked at: the search goes on, and of those that wait no one was gone around. Each that waits now takes a
-- place among those that waited and the blocks that were not read. The disk was only read.
pub record Looks (reveals fault : Type 0) (v : Opened) (old new : Searched) (before after : State) : Type 0 where
  pub goes : Goes reveals v before.files old new
  pub more : List BlockId
  pub waits : new.waiting ≡ old.waiting ++ more
  pub few : length new.waiting + unmarked new.read ≤ length old.waiting + unmarked old.read
  pub reads : OnlyReads reveals fault before after
