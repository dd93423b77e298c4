-- Where the objects of an archive lie.
use Rattle.std.specs.Prelude.{◌≡◌, ℕ, List, Some, IsTrue}
use Rattle.std.specs.List.{sum_by}
use Rattle.std.specs.FinMap.{get}
use Rattle.aea_lattice.specs.declared.shape.Shape.{Shape}
use Rattle.aea_catalog.specs.Catalogs.{Placed, Objects}
use Rattle.aea_records.specs.Format.{nodes_for}
use Rattle.aea_records.specs.Fields.{are_apart}

-- The parts of an object lie apart and in order within so many nodes, and have as many nodes as the object, which has as
-- many as its length takes.
pub record LiesWithin (shape : Shape) (nodes : ℕ) (placed : Placed) : Type 0 where
  pub apart : IsTrue (are_apart 0 nodes placed.parts)
  pub sum : placed.object.count ≡ sum_by (λ e. e.count) placed.parts
  pub count : placed.object.count ≡ nodes_for shape placed.object.length

-- each of the objects does
abbrev pub LieWithin : Shape → ℕ → Objects → Type 0
LieWithin shape nodes objects = (name : List ℕ) (placed : Placed) → get objects name ≡ Some placed → LiesWithin shape nodes placed
