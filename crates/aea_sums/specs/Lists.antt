-- Lists of equations, one for each wanted block, while they are filled.
use Rattle.std.specs.Prelude.{◌≡◌, ℕ, ◌<◌, cond, List, [], ◌∷◌, ◌++◌, filter, length, get_or}
use Rattle.aea_lattice.specs.declared.blocks.EqId.{EqId}
use Rattle.aea_lattice.specs.declared.grid.Lattice.{Lattice}
use Rattle.aea_view.specs.Bits.{has_bit}
use Rattle.aea_sums.specs.Sums.{has_equation}

-- The equation is put last in each list whose bit of the word is 1.
pub record PutsWhere (word : ℕ) (e : EqId) (old new : List (List EqId)) : Type 0 where
  pub long : length new ≡ length old
  pub each : (k : ℕ) → k < length old → get_or new k [] ≡ get_or old k [] ++ cond (has_bit word k) (e ∷ []) []

-- Those of the equations that the table has for its wanted block are put last in each list.
pub record Puts (l : Lattice) (table : List ℕ) (equations : List EqId) (old new : List (List EqId)) : Type 0 where
  pub long : length new ≡ length old
  pub each : (k : ℕ) → k < length old → get_or new k [] ≡ get_or old k [] ++ filter (has_equation l table k) equations
