-- Changes of one file of a disk: what they keep of it, and when there is space for them.
use Rattle.std.specs.Prelude.{◌≡◌, ◌≤◌, ℕ, List, length, take}
use Rattle.aea_disk.specs.Files.{Files, ChangesOnly}
use Rattle.aea_disk.specs.State.{State, HasRoomTo}

-- the first so many bytes stay, as many as there are
abbrev pub KeepsFront : ℕ → List ℕ → List ℕ → Type 0
KeepsFront n old new = (m : ℕ) → m ≤ n → m ≤ length old → take m new ≡ take m old

-- The disk has space for so many bytes of the file, and to sync, whatever the file becomes; all other files stay.
pub record FitsChange (s : State) (file end : ℕ) : Type 0 where
  pub room : HasRoomTo s file end
  pub sync : (c : Files) → ChangesOnly file s.files c → s.keeps (c 0)
