-- Marks: what a contract sees of them, which blocks are marked, and what an equation forces beyond them.
use Rattle.std.specs.Prelude.{◌≡◌, ◌<◌, ◌≤◌, ℕ, Bool, true, false, not, List, length, get_or, count_by, refl}
use Rattle.std.specs.Coded.{Coded, code_by, coded×, coded_list, coded_bool}
use Rattle.aea_lattice.specs.declared.blocks.BlockId.{BlockId}
use Rattle.aea_lattice.specs.declared.blocks.EqId.{EqId}
use Rattle.aea_lattice.specs.declared.grid.Lattice.{Lattice}
use Rattle.aea_lattice.specs.contracts.grid.Lattice as lattices
use Rattle.aea_lattice.specs.Blocks.{HasBlock, number_of, blocks_count}
use Rattle.aea_lattice.specs.Closure.{IsForcedBy}

-- a lattice, and a truth value for each of its blocks, in number order
pub record Marked : Type 0 where
  pub lattice : Lattice
  pub marks : List Bool

-- marks as the pair of their parts
abbrev pub marked_code : Coded Marked
marked_code =
    code_by (Lattice × List Bool) (coded× lattices.the_row.coded (coded_list coded_bool))
    (λ v. (v.lattice, v.marks))
    (λ t. record { lattice = t.0; marks = t.1 })
    (λ _. refl)

-- there is a mark for each block of the lattice
abbrev pub IsWhole : Marked → Type 0
IsWhole m = length m.marks ≡ blocks_count m.lattice

-- whether the block is marked
abbrev pub is_marked : Marked → BlockId → Bool
is_marked m b = get_or m.marks (number_of m.lattice b) false

-- these are the marks of the test: a block of the lattice is marked exactly where it passes
abbrev pub AreMarks : Marked → (BlockId → Bool) → Type 0
AreMarks m test = (b : BlockId) → HasBlock m.lattice b → is_marked m b ≡ test b

-- the number of blocks that are not marked
abbrev pub unmarked : Marked → ℕ
unmarked m = count_by not m.marks

-- the blocks of these numbers, up to the end and without it, are not marked
abbrev pub AreClear : Marked → ℕ → ℕ → Type 0
AreClear m from end = (k : ℕ) → from ≤ k → k < end → get_or m.marks k false ≡ false

-- of the blocks of this number and of later ones, the one of number k is the first that is marked
pub record IsNextMarked (m : Marked) (from k : ℕ) : Type 0 where
  pub later : from ≤ k
  pub inside : k < blocks_count m.lattice
  pub marked : get_or m.marks k false ≡ true
  pub clear : AreClear m from k

-- the equation forces no block that is not marked
abbrev pub IsSpent : Marked → EqId → Type 0
IsSpent m e = (b : BlockId) → IsForcedBy m.lattice (is_marked m) b e → is_marked m b ≡ true
