-- How lost blocks are counted, one block after the other, by a list that has the nodes of each block that is lost. No public
-- contract cites these.
use Rattle.std.specs.Prelude.{◌≡◌, ℕ, Bool, List, [], ◌∷◌, filter, take, length, get_or, Option, None, Some}
use Rattle.std.specs.Option.{is_some}
use Rattle.aea_lattice.specs.declared.blocks.BlockId.{BlockId}
use Rattle.aea_lattice.specs.declared.grid.Lattice.{Lattice}
use Rattle.aea_lattice.specs.Blocks.{blocks_of, number_of}
use Rattle.aea_sites.specs.declared.lost.FirstLost.{FirstLost}
use Rattle.aea_sites.specs.declared.lost.SiteLoss.{SiteLoss}

-- the list has nodes for the block
abbrev pub has_nodes : Lattice → List (Option (List ℕ)) → BlockId → Bool
has_nodes l losses b = is_some (get_or losses (number_of l b) None)

-- the first of the blocks, with the nodes that the list has for it; none of no blocks
abbrev pub IsFirstBy : Lattice → List (Option (List ℕ)) → List BlockId → Option FirstLost → Type 0
IsFirstBy l losses [] first = first ≡ None
IsFirstBy l losses (b ∷ blocks) first = (nodes : List ℕ) × (first ≡ Some (record { block = b; nodes = nodes })) × (get_or losses (number_of l b) None ≡ Some nodes)

-- the number of the blocks, and the first of them
pub record IsCountOf (l : Lattice) (losses : List (Option (List ℕ))) (blocks : List BlockId) (loss : SiteLoss) : Type 0 where
  pub count : loss.lost ≡ length blocks
  pub first : IsFirstBy l losses blocks loss.first

-- the first k blocks of the lattice that have nodes
abbrev pub with_nodes : Lattice → List (Option (List ℕ)) → ℕ → List BlockId
with_nodes l losses k = filter (has_nodes l losses) (take k (blocks_of l))
