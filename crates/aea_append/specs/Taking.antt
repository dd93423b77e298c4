-- Bytes that are taken of a source, and woven.
use Rattle.std.specs.Prelude.{◌≡◌, ⊤, ℕ, ◌+◌, ◌-◌, ◌*◌, ◌<◌, ◌≤◌, List, ◌++◌, length, min, Option, None, Some}
use Rattle.std.specs.Io.KnownBytes.{Consumes, IsAtEnd}
use Rattle.sha2.specs.declared.Sha256.{Sha256}
use Rattle.sha2.specs.Hashers.{Holds256}
use Rattle.sha2.specs.Sha256.{sha256}
use Rattle.aea_lattice.specs.declared.grid.Lattice.{Lattice}
use Rattle.aea_lattice.specs.declared.shape.Shape.{Shape}
use Rattle.aea_lattice.specs.Growth.{IsGrown}
use Rattle.aea_disk.specs.Files.{Files}
use Rattle.aea_weave.specs.Woven.{Woven}
use Rattle.aea_records.specs.TableLaws.{AreBytes}
use Rattle.aea_records.specs.Format.{nodes_for, limit_when}
use Rattle.aea_ledger.specs.Values.{Opened}
use Rattle.aea_archive.specs.Next.{object_blocks}
use Rattle.aea_append.specs.Weaving.{HasWoven}

-- Bytes of the source were taken, k of them, and woven: the hasher took them too, and whatever had been woven is now woven
-- with their blocks after it.
pub record Takes (reveals : Type 0) (shape : Shape) (k : ℕ) (left rest : Option (List ℕ)) (h g : Sha256) (v w : Woven) (digests more : List (List ℕ)) (old new : Files) : Type 0 where
  pub bytes : List ℕ
  pub are : AreBytes bytes
  pub taken : Consumes left rest bytes
  pub long : length bytes ≡ k
  pub holds : (m : List ℕ) → Holds256 h m → Holds256 g (m ++ bytes)
  pub woven : (l : Lattice) (recorded : List (List ℕ)) (first : Files) (datas : List (List ℕ))
      → HasWoven reveals shape l recorded first old v datas digests
      → HasWoven reveals shape l recorded first new w (datas ++ object_blocks shape bytes) more
  pub grown : IsGrown v.lattice (v.lattice.n + nodes_for shape k) w.lattice
  pub size : w.size ≡ v.size

-- The same of one piece of at most `want` bytes, which has fewer only at the source's end.
pub record TakesPiece (reveals : Type 0) (shape : Shape) (want k : ℕ) (left rest : Option (List ℕ)) (h g : Sha256) (v w : Woven) (digests more : List (List ℕ)) (old new : Files) : Type 0 where
  pub takes : Takes reveals shape k left rest h g v w digests more old new
  pub most : k ≤ want
  pub end : k < want → IsAtEnd rest

-- Bytes of the source were taken and woven after the nodes of a lattice: so many bytes, with this digest, and these
-- digests of the new blocks. The heads are those after the last of them.
pub record TakesObject (reveals : Type 0) (shape : Shape) (l : Lattice) (recorded : List (List ℕ)) (k : ℕ) (digest : List ℕ) (left rest : Option (List ℕ)) (digests : List (List ℕ)) (first files : Files) (heads : Woven) : Type 0 where
  pub bytes : List ℕ
  pub are : AreBytes bytes
  pub taken : Consumes left rest bytes
  pub long : length bytes ≡ k
  pub digest_is : digest ≡ sha256 bytes
  pub size : heads.size ≡ shape.block
  pub nodes : heads.lattice.n ≡ l.n + nodes_for shape k
  pub woven : HasWoven reveals shape l recorded first files heads (object_blocks shape bytes) digests

-- how many bytes the nodes that are left can hold
abbrev pub room_left : Opened → ℕ
room_left v = (limit_when v.raised - v.lattice.n) * v.shape.block

-- more bytes were taken than the nodes that are left can hold, by one
abbrev pub HasPassedRoom : Opened → Option (List ℕ) → Option (List ℕ) → Type 0
HasPassedRoom v left rest = (bytes : List ℕ) × Consumes left rest bytes × (length bytes ≡ room_left v + 1)

-- How many bytes are wanted: a number of them, or all that there are, within the space.
abbrev pub limit_of : Option ℕ → ℕ → ℕ
limit_of None room = room
limit_of (Some want) room = want

-- How many bytes are taken at most: of a number that is wanted none where the space is less; of all one more than the space.
abbrev pub most_of : Option ℕ → ℕ → ℕ
most_of None room = room + 1
most_of (Some want) room = min want room

-- how many of these bytes are wanted: a number of them, or all
abbrev pub long_of : Option ℕ → List ℕ → ℕ
long_of None bytes = length bytes
long_of (Some want) bytes = want

-- what is wanted is there
abbrev pub IsThere : Option ℕ → List ℕ → Type 0
IsThere None bytes = ⊤
IsThere (Some want) bytes = want ≤ length bytes

-- More is wanted than the nodes that are left can hold: that number, or all, and a byte more than they can hold was taken.
abbrev pub IsOver : Opened → Option ℕ → Option (List ℕ) → Option (List ℕ) → Type 0
IsOver v None left rest = HasPassedRoom v left rest
IsOver v (Some want) left rest = room_left v < want

-- fewer bytes than the number that was wanted were taken, since the source ended
abbrev pub HasEnded : Option ℕ → Option (List ℕ) → Option (List ℕ) → Type 0
HasEnded want left rest = (n : ℕ) × (want ≡ Some n) × IsAtEnd rest × ((bytes : List ℕ) × Consumes left rest bytes × (length bytes < n))
