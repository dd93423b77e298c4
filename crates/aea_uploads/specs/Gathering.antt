-- Bytes that join an upload, the blocks that they fill, and the last one.
use Rattle.std.specs.Prelude.{◌≡◌, ℕ, suc, ◌+◌, ◌*◌, ◌<◌, ◌≤◌, List, ◌++◌, length, replicate, All}
use Rattle.std.specs.List.{flat_map, range_with_len}
use Rattle.sha2.specs.Hashers.{Holds256}
use Rattle.aea_lattice.specs.declared.grid.Lattice.{Lattice}
use Rattle.aea_lattice.specs.declared.shape.Shape.{Shape}
use Rattle.aea_lattice.specs.Growth.{IsGrown}
use Rattle.aea_disk.specs.Files.{Files}
use Rattle.aea_weave.specs.Woven.{Woven}
use Rattle.aea_machine.specs.Holding.{blocks_at}
use Rattle.aea_machine.specs.Machine.{Upload, runs_of}
use Rattle.aea_append.specs.Weaving.{IsWovenOf, AreIntactOn}
use Rattle.aea_uploads.specs.declared.slot.Slot.{Slot}
use Rattle.aea_uploads.specs.Slots.{Rise, Keeps}

-- the upload with these bytes after its own, and with so many nodes after that one
abbrev pub with_bytes : Upload → List ℕ → ℕ → ℕ → Upload
with_bytes u bytes node count = record { name = u.name; bytes = u.bytes ++ bytes; nodes = u.nodes ++ range_with_len (suc node) count }

-- These bytes joined what the slot keeps, and the blocks that they filled were woven, in order: so it is of whatever upload
-- the slot keeps, and whatever data list is woven after.
pub record Gathers (reveals : Type 0) (shape : Shape) (bytes : List ℕ) (v w : Woven) (s t : Slot) (digests more : List (List ℕ)) (old new : Files) : Type 0 where
  pub filled : List (List ℕ)
  pub wide : All (λ d. length d ≡ shape.block) filled
  pub grown : IsGrown v.lattice (v.lattice.n + length filled) w.lattice
  pub size : w.size ≡ v.size
  pub sum : length filled * shape.block + t.have ≡ s.have + length bytes
  pub room : length t.block.items ≡ shape.block
  pub values : (l : Lattice) (datas woven : List (List ℕ)) → IsWovenOf shape l v datas woven digests → IsWovenOf shape l w datas (woven ++ filled) more
  pub intact : (before : ℕ) → before ≤ v.lattice.n → AreIntactOn reveals shape before v.lattice.n digests old → AreIntactOn reveals shape before w.lattice.n more new
  pub keeps : (datas : List (List ℕ)) (u : Upload) → length datas ≡ v.lattice.n → Keeps shape datas s u
      → Keeps shape (datas ++ filled) t (with_bytes u bytes v.lattice.n (length filled))

-- The slot has all of the upload in blocks: its name, its length and running hash, its nodes as their longest runs, and after
-- its bytes so many zeros.
pub record Closes (datas : List (List ℕ)) (u : Upload) (nodes : List ℕ) (zeros : ℕ) (t : Slot) : Type 0 where
  pub name : t.name ≡ u.name
  pub long : t.length ≡ length u.bytes
  pub hash : Holds256 t.hasher u.bytes
  pub rise : Rise 0 (length datas) nodes
  pub parts : t.parts.items ≡ runs_of nodes
  pub blocks : flat_map (λ d. d) (blocks_at nodes datas) ≡ u.bytes ++ replicate zeros 0

-- The rest of what the slot keeps was filled with zeros and woven as a last block, where there was one: the blocks at its nodes
-- are then its bytes and fewer zeros than a block has.
pub record Finishes (reveals : Type 0) (shape : Shape) (v w : Woven) (s t : Slot) (digests more : List (List ℕ)) (old new : Files) : Type 0 where
  pub filled : List (List ℕ)
  pub wide : All (λ d. length d ≡ shape.block) filled
  pub grown : IsGrown v.lattice (v.lattice.n + length filled) w.lattice
  pub size : w.size ≡ v.size
  pub values : (l : Lattice) (datas woven : List (List ℕ)) → IsWovenOf shape l v datas woven digests → IsWovenOf shape l w datas (woven ++ filled) more
  pub intact : (before : ℕ) → before ≤ v.lattice.n → AreIntactOn reveals shape before v.lattice.n digests old → AreIntactOn reveals shape before w.lattice.n more new
  pub zeros : ℕ
  pub few : zeros < shape.block
  pub closes : (datas : List (List ℕ)) (u : Upload) → length datas ≡ v.lattice.n → Keeps shape datas s u
      → Closes (datas ++ filled) u (u.nodes ++ range_with_len (suc v.lattice.n) (length filled)) zeros t
