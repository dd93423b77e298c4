-- Shapes are known by their numbers.
use Rattle.std.proofs.Common.{◌≡◌, ℕ, ◌≤◌, true, ◌&&◌, arith}
use Rattle.std.specs.Prelude.{nat_le}
use Rattle.std.proofs.lemmas.Bool.{and_parts, and_from, leb-true}
use Rattle.std.proofs.lemmas.Bool.Decides.{nat_tests}
use mathlib.Core.HLevel.{is_prop→PathP}
use mathlib.Core.Bool.{Bool-set}
use Rattle.aea_lattice.specs.declared.shape.Shape.{Shape}
use Rattle.aea_lattice.specs.Profile.{is_profile, is_shape}
use Rattle.aea_records.specs.Faults.{is_alpha, is_s, is_p}

-- two shapes of the same numbers are the same
pub same_shape : (a b : Shape) → a.alpha ≡ b.alpha → a.s ≡ b.s → a.p ≡ b.p → a.block ≡ b.block → a.sites ≡ b.sites → a ≡ b
same_shape a b alpha s p block sites = λ i. record {
  alpha = alpha i;
  s = s i;
  p = p i;
  block = block i;
  sites = sites i;
  in_profile = is_prop→PathP (λ j. is_shape (alpha j) (s j) (p j) (block j) (sites j) ≡ true)
      (λ j. Bool-set (is_shape (alpha j) (s j) (p j) (block j) (sites j)) true) a.in_profile b.in_profile i;
}

-- what a shape says of its numbers
pub record AreSmall (alpha s p block sites : ℕ) : Type 0 where
  pub alpha_some : 1 ≤ alpha
  -- α is at most 3
  pub alpha_small : alpha ≤ 3
  pub s_small : s ≤ 16
  pub p_small : p ≤ 64
  pub block_some : 16 ≤ block
  pub block_small : block ≤ 65536
  pub sites_some : 1 ≤ sites
  pub sites_small : sites ≤ 64

profile-alpha : (alpha s p : ℕ) → is_profile alpha s p ≡ true → is_alpha alpha ≡ true
profile-alpha alpha s p h = grind (arith, nat_tests)

profile-s : (alpha s p : ℕ) → is_profile alpha s p ≡ true → is_s alpha s ≡ true
profile-s alpha s p h = grind (arith, nat_tests)

profile-p : (alpha s p : ℕ) → is_profile alpha s p ≡ true → is_p alpha s p ≡ true
profile-p alpha s p h = grind (arith, nat_tests)

profile-small : (alpha s p : ℕ) → is_profile alpha s p ≡ true → (1 ≤ alpha) × ((alpha ≤ 3) × ((s ≤ 16) × (p ≤ 64)))
profile-small alpha s p h = (grind (arith, nat_tests), (grind (arith, nat_tests), (grind (arith, nat_tests), grind (arith, nat_tests))))

profile-made : (alpha s p : ℕ) → is_alpha alpha ≡ true → is_s alpha s ≡ true → is_p alpha s p ≡ true → is_profile alpha s p ≡ true
profile-made alpha s p a b c = grind (arith, nat_tests)

-- the tests of a header's fields that the numbers of a shape pass
pub record ArePassing (alpha s p block sites : ℕ) : Type 0 where
  pub alpha_fits : is_alpha alpha ≡ true
  pub s_fits : is_s alpha s ≡ true
  pub p_fits : is_p alpha s p ≡ true
  pub block_fits : (nat_le 16 block && nat_le block 65536) ≡ true
  pub sites_fit : (nat_le 1 sites && nat_le sites 64) ≡ true

-- numbers of a shape pass them
pub is_shape-passing : (alpha s p block sites : ℕ) → is_shape alpha s p block sites ≡ true → ArePassing alpha s p block sites
is_shape-passing alpha s p block sites h =
    let whole = and_parts (is_profile alpha s p && (nat_le 16 block && nat_le block 65536)) (nat_le 1 sites && nat_le sites 64) h in
    let front = and_parts (is_profile alpha s p) (nat_le 16 block && nat_le block 65536) whole.0 in
    record {
      alpha_fits = profile-alpha alpha s p front.0;
      s_fits = profile-s alpha s p front.0;
      p_fits = profile-p alpha s p front.0;
      block_fits = front.1;
      sites_fit = whole.1;
    }

-- and numbers that pass them are those of a shape
pub passing-is_shape : (alpha s p block sites : ℕ) → ArePassing alpha s p block sites → is_shape alpha s p block sites ≡ true
passing-is_shape alpha s p block sites h =
    and_from (is_profile alpha s p && (nat_le 16 block && nat_le block 65536)) (nat_le 1 sites && nat_le sites 64)
    (and_from (is_profile alpha s p) (nat_le 16 block && nat_le block 65536) (profile-made alpha s p h.alpha_fits h.s_fits h.p_fits) h.block_fits)
    h.sites_fit

-- the numbers of a shape are small
pub shape_small : (shape : Shape) → AreSmall shape.alpha shape.s shape.p shape.block shape.sites
shape_small shape =
    let passing = is_shape-passing shape.alpha shape.s shape.p shape.block shape.sites shape.in_profile in
    let block = and_parts (nat_le 16 shape.block) (nat_le shape.block 65536) passing.block_fits in
    let sites = and_parts (nat_le 1 shape.sites) (nat_le shape.sites 64) passing.sites_fit in
    let profile = profile-made shape.alpha shape.s shape.p passing.alpha_fits passing.s_fits passing.p_fits in
    let numbers = profile-small shape.alpha shape.s shape.p profile in
    record {
      alpha_some = numbers.0;
      alpha_small = numbers.1.0;
      s_small = numbers.1.1.0;
      p_small = numbers.1.1.1;
      block_some = leb-true 16 shape.block block.0;
      block_small = leb-true shape.block 65536 block.1;
      sites_some = leb-true 1 shape.sites sites.0;
      sites_small = leb-true shape.sites 64 sites.1;
    }

-- α of a shape is at most 3
pub alpha_small : (shape : Shape) → shape.alpha ≤ 3
alpha_small shape = (shape_small shape).alpha_small
