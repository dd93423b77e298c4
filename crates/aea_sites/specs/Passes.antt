-- Marks on the way from the known blocks to their closure (no public contract cites them).
use Rattle.std.specs.Prelude.{◌≡◌, Bool, IsTrue}
use Rattle.aea_lattice.specs.declared.blocks.BlockId.{BlockId}
use Rattle.aea_lattice.specs.Blocks.{HasBlock}
use Rattle.aea_lattice.specs.Closure.{IsReached}
use Rattle.aea_view.specs.Marked.{Marked, IsWhole, is_marked}

-- the known blocks are marked, and of the others none that single equations do not reach from them
pub record AreBetween (m : Marked) (known : BlockId → Bool) : Type 0 where
  pub all : (b : BlockId) → HasBlock m.lattice b → IsTrue (known b) → IsTrue (is_marked m b)
  pub reached : (b : BlockId) → HasBlock m.lattice b → IsTrue (is_marked m b) → IsReached m.lattice known b

-- the second marks are of the same lattice and go on from the first: they have no more than the closure has
pub record GoesOn (old new : Marked) : Type 0 where
  pub same : new.lattice ≡ old.lattice
  pub whole : IsWhole new
  pub between : (known : BlockId → Bool) → AreBetween old known → AreBetween new known
