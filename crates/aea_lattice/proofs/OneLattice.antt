-- A lattice is its numbers and fences.
use Rattle.std.proofs.Common.{◌≡◌, ◌≤◌, true}
use Rattle.std.proofs.Math.Bridge.{le_prop}
use mathlib.Core.HLevel.{is_prop→PathP}
use mathlib.Core.Bool.{Bool-set}
use Rattle.aea_lattice.specs.declared.grid.Lattice.{Lattice}
use Rattle.aea_lattice.specs.Fences.{are_fences}
use Rattle.aea_lattice.specs.Profile.{is_profile, greatest_nodes}

-- two lattices with the same numbers and fences are one
pub lattice_equal : (a b : Lattice) → a.alpha ≡ b.alpha → a.s ≡ b.s → a.p ≡ b.p → a.n ≡ b.n → a.fences ≡ b.fences → a ≡ b
lattice_equal a b alpha s p n fences = λ i. record {
  alpha = alpha i;
  s = s i;
  p = p i;
  n = n i;
  fences = fences i;
  in_profile = is_prop→PathP (λ j. is_profile (alpha j) (s j) (p j) ≡ true)
      (λ j. Bool-set (is_profile (alpha j) (s j) (p j)) true) a.in_profile b.in_profile i;
  in_range = is_prop→PathP (λ j. n j ≤ greatest_nodes) (λ j h k. le_prop h k) a.in_range b.in_range i;
  fenced = is_prop→PathP (λ j. are_fences (n j) (fences j) ≡ true)
      (λ j. Bool-set (are_fences (n j) (fences j)) true) a.fenced b.fenced i;
}
