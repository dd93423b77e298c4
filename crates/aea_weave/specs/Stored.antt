-- How heads are kept: the bytes of all, one after the other.
use Rattle.std.specs.Prelude.{◌≡◌, ℕ, zero, suc, ◌+◌, ◌-◌, ◌*◌, ◌<◌, ◌≤◌, List, [], ◌∷◌, take, drop, length, slice_set, slice_index_or}
use Rattle.aea_lattice.specs.declared.blocks.Class.{Class}
use Rattle.aea_lattice.specs.declared.grid.Lattice.{Lattice}
use Rattle.aea_lattice.specs.Blocks.{class_number, HasParity}
use Rattle.aea_lattice.specs.Strands.{strand_of}
use Rattle.aea_lattice.specs.Data.{xor_bytes}
use Rattle.aea_weave.specs.Woven.{strands_before}

-- the first n pieces of w bytes
abbrev pub pieces : ℕ → ℕ → List ℕ → List (List ℕ)
pieces w zero bytes = []
pieces w (suc n) bytes = take w bytes ∷ pieces w n (drop w bytes)

-- how many strands the lattice has: s of Horiz, and p of each further class
abbrev pub all_strands : Lattice → ℕ
all_strands l = l.s + l.p * (l.alpha - 1)

-- there are the bytes of a block of this size for each strand
pub record IsStored (l : Lattice) (size : ℕ) (bytes : List ℕ) : Type 0 where
  pub least : 16 ≤ size
  pub most : size ≤ 65536
  pub long : length bytes ≡ all_strands l * size

-- the place, in strand order, of the strand of the last node
abbrev pub last_place : Lattice → Class → ℕ
last_place l c = strands_before l c + strand_of l c l.n

-- the heads in which the payload is added by XOR to that of the last node's strand
abbrev pub add_head : Lattice → Class → List ℕ → List (List ℕ) → List (List ℕ)
add_head l c payload heads =
    slice_set heads (last_place l c) (xor_bytes (slice_index_or heads (last_place l c) []) payload)

-- the payload was added to the head of the last node's strand of the class, if the lattice has parities of it
pub record IsAdded (l : Lattice) (c : Class) (payload : List ℕ) (old new : List (List ℕ)) : Type 0 where
  pub added : HasParity l c → new ≡ add_head l c payload old
  pub unused : l.alpha < class_number c → new ≡ old
