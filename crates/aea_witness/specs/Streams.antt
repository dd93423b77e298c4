-- What the stream of the witness begins with.
use Rattle.std.specs.Prelude.{◌≡◌, ◌<◌, ◌≤◌, ℕ, List, ◌++◌, length}
use Rattle.aea_disk.specs.Files.{Files}
use Rattle.aea_ledger.specs.Values.{Opened}
use Rattle.aea_archive.specs.Next.{NewObject}
use Rattle.aea_append.specs.Frames.{frame_head, frame_of}
use Rattle.aea_witness.specs.Objects.{IsSmall, IsNewName, HasPuts}

-- The stream begins with the frame of a small object, whose name is new in an archive with a few others.
pub record BeginsWithNew (v : Opened) (c : Files) (stream : List ℕ) : Type 0 where
  pub object : NewObject
  pub rest : List ℕ
  pub small : IsSmall object
  pub begins : stream ≡ frame_of object ++ rest
  pub brief : length stream ≤ 1000
  pub puts : List NewObject
  pub has : HasPuts v puts c
  pub few : length puts ≤ 3
  pub new : IsNewName object.name puts

-- The stream begins with the head of such a frame, and ends inside the bytes of the object.
pub record IsCutShort (v : Opened) (c : Files) (stream : List ℕ) : Type 0 where
  pub object : NewObject
  pub front : List ℕ
  pub small : IsSmall object
  pub begins : stream ≡ frame_head object.name (length object.bytes) ++ front
  pub cut : length front < length object.bytes
  pub puts : List NewObject
  pub has : HasPuts v puts c
  pub few : length puts ≤ 3
  pub new : IsNewName object.name puts
