-- “Growth”: how the lattice of an archive becomes longer.
use Rattle.std.specs.Prelude.{◌≡◌, ℕ, ◌≤◌, List, [], ◌∷◌, ◌++◌, All}
use Rattle.aea_lattice.specs.declared.grid.Lattice.{Lattice}

-- the two lattices have one shape: the same α, s and p
pub record SameShape (l m : Lattice) : Type 0 where
  pub alpha : m.alpha ≡ l.alpha
  pub s : m.s ≡ l.s
  pub p : m.p ≡ l.p

-- m is l with n nodes
pub record IsGrown (l : Lattice) (n : ℕ) (m : Lattice) : Type 0 where
  pub shape : SameShape l m
  pub nodes : m.n ≡ n
  pub fences : m.fences ≡ l.fences

-- m is l with a fence after its last node
pub record IsFenced (l m : Lattice) : Type 0 where
  pub shape : SameShape l m
  pub nodes : m.n ≡ l.n
  pub fences : m.fences ≡ l.fences ++ l.n ∷ []

-- m continues l: it has the shape, the nodes and the fences of l, and each further fence is at l's last node or
-- after it.
pub record Continues (l m : Lattice) : Type 0 where
  pub shape : SameShape l m
  pub nodes : l.n ≤ m.n
  pub later : List ℕ
  pub fences : m.fences ≡ l.fences ++ later
  pub beyond : All (λ f. l.n ≤ f) later
