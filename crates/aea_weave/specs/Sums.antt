-- “Strand sums”: what heads are those of a data list.
use Rattle.std.specs.Prelude.{◌≡◌, ℕ, ◌<◌, List, map, ◌++◌, length, replicate, Option, Some, None}
use Rattle.aea_lattice.specs.declared.blocks.Class.{Class}
use Rattle.aea_lattice.specs.declared.blocks.BlockId.{BlockId}
use Rattle.aea_lattice.specs.declared.grid.Lattice.{Lattice}
use Rattle.aea_lattice.specs.Blocks.{HasParity, HasBlock}
use Rattle.aea_lattice.specs.Data.{IsDataList, xor_all, datum_at, value_at, value_of}
use Rattle.aea_lattice.specs.Ends.{strands_of, open_nodes, last_open}
use Rattle.aea_lattice.specs.Growth.{Continues}
use Rattle.aea_weave.specs.Woven.{Woven, head_of}

-- The sum of a strand: the XOR of the data of its open nodes, those after the last fence. Of none it is w zeros.
abbrev pub strand_sum : Lattice → ℕ → List (List ℕ) → Class → ℕ → List ℕ
strand_sum l w datas c strand = xor_all w (map (datum_at w datas) (open_nodes l c strand))

-- X is a data list of the lattice with blocks of this size, and each head is the sum of its strand
pub record AreStrandSums (v : Woven) (datas : List (List ℕ)) : Type 0 where
  pub is_data : IsDataList v.lattice v.size datas
  pub sums : (c : Class) (strand : ℕ) → HasParity v.lattice c → strand < strands_of v.lattice c
      → head_of v c strand ≡ strand_sum v.lattice v.size datas c strand

-- the parity of the last open node of a strand; w zeros where it has none
abbrev pub parity_to : Lattice → ℕ → List (List ℕ) → Class → Option ℕ → List ℕ
parity_to l w datas c None = replicate w 0
parity_to l w datas c (Some last) = value_at l w datas last c

-- Heads are the strand sums of X where each is the parity of the last open node of its strand in the lattice of X, or
-- zeros on a strand without open nodes.
abbrev pub LastParitiesAreSums : Type 0
LastParitiesAreSums =
    (v : Woven) (datas : List (List ℕ)) → IsDataList v.lattice v.size datas
    → ((c : Class) (strand : ℕ) → HasParity v.lattice c → strand < strands_of v.lattice c
    → head_of v c strand ≡ parity_to v.lattice v.size datas c (last_open v.lattice c strand))
    → AreStrandSums v datas

-- Where a lattice continues another and more blocks follow the data, the blocks of the first keep their values.
abbrev pub LongerDataKeepValues : Type 0
LongerDataKeepValues =
    (l m : Lattice) → Continues l m
    → (w : ℕ) (datas more : List (List ℕ)) → length datas ≡ l.n
    → (b : BlockId) → HasBlock l b → value_of m w (datas ++ more) b ≡ value_of l w datas b
