-- Equations that have a block that is not known.
use Rattle.std.specs.Prelude.{Bool, not, List, filter}
use Rattle.std.specs.List.{list_any}
use Rattle.aea_lattice.specs.declared.blocks.BlockId.{BlockId}
use Rattle.aea_lattice.specs.declared.blocks.EqId.{EqId}
use Rattle.aea_lattice.specs.declared.grid.Lattice.{Lattice}
use Rattle.aea_lattice.specs.Equations.{equation_blocks, equations_of}

-- the equation has a block that is not known
abbrev pub is_live : Lattice → (BlockId → Bool) → EqId → Bool
is_live l known e = list_any (λ d. not (known d)) (equation_blocks l e)

-- these equations, in equation order
abbrev pub live_equations : Lattice → (BlockId → Bool) → List EqId
live_equations l known = filter (is_live l known) (equations_of l)
