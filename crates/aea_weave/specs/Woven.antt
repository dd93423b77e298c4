-- The heads of a lattice's strands, as contracts see them.
use Rattle.std.specs.Prelude.{◌≡◌, ◌≢◌, ℕ, ◌+◌, ◌<◌, List, [], slice_index_or}
use Rattle.aea_lattice.specs.declared.blocks.Class.{Class}
use Rattle.aea_lattice.specs.declared.blocks.Class.TheVariants.{Datum, Horiz, Right, Left}
use Rattle.aea_lattice.specs.declared.grid.Lattice.{Lattice}
use Rattle.aea_lattice.specs.Blocks.{HasParity}
use Rattle.aea_lattice.specs.Strands.{strand_of}
use Rattle.aea_lattice.specs.Data.{xor_bytes}
use Rattle.aea_lattice.specs.Ends.{strands_of}
use Rattle.aea_lattice.specs.Growth.{IsGrown}

-- A block of `size` bytes for each strand of a lattice, whose nodes are those that were woven so far. The blocks are
-- in strand order: first those of Horiz, then those of Right and of Left.
pub record Woven : Type 0 where
  pub lattice : Lattice
  pub size : ℕ
  pub heads : List (List ℕ)

-- how many strands the classes before this one have
abbrev pub strands_before : Lattice → Class → ℕ
strands_before l Datum = 0
strands_before l Horiz = 0
strands_before l Right = l.s
strands_before l Left = l.s + l.p

-- the head of this strand of the class
abbrev pub head_of : Woven → Class → ℕ → List ℕ
head_of v c strand = slice_index_or v.heads (strands_before v.lattice c + strand) []

-- One node was woven: the head of each of its strands has the payload added by XOR, and each other head is as before.
pub record Weaves (old new : Woven) (payload : List ℕ) : Type 0 where
  pub grown : IsGrown old.lattice (old.lattice.n + 1) new.lattice
  pub size : new.size ≡ old.size
  pub own : (c : Class) → HasParity new.lattice c
      → head_of new c (strand_of new.lattice c new.lattice.n)
      ≡ xor_bytes (head_of old c (strand_of new.lattice c new.lattice.n)) payload
  pub others : (c : Class) (strand : ℕ) → HasParity new.lattice c → strand < strands_of new.lattice c
      → strand ≢ strand_of new.lattice c new.lattice.n → head_of new c strand ≡ head_of old c strand

-- The head of this strand is the payload, and each other head is as before.
pub record Sets (old new : Woven) (class : Class) (strand : ℕ) (payload : List ℕ) : Type 0 where
  pub lattice : new.lattice ≡ old.lattice
  pub size : new.size ≡ old.size
  pub own : head_of new class strand ≡ payload
  pub others : (c : Class) (other : ℕ) → HasParity new.lattice c → other < strands_of new.lattice c
      → ((c ≡ class) × (other ≡ strand) → ⊥) → head_of new c other ≡ head_of old c other
