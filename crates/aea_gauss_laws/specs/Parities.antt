-- Parities of tests on the numbers below a bound.
use Rattle.std.specs.Prelude.{ℕ, zero, suc, Bool, false}
use Rattle.aea_lattice.specs.Parity.{differ}

-- whether an odd number of the numbers below m passes
abbrev pub odd_below : (ℕ → Bool) → ℕ → Bool
odd_below f zero = false
odd_below f (suc m) = differ (odd_below f m) (f m)
