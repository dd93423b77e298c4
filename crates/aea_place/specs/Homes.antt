-- “Home”: the site and the cell of a block.
use Rattle.std.specs.Prelude.{ℕ, ◌+◌, ◌/◌, ◌%◌}
use Rattle.aea_place.specs.declared.homes.Spot.{Spot}

-- The home of block number k over m sites. With the row r = k div m and the column q = k mod m it is cell r of site
-- 1 + (q + r) mod m: each row begins one site further than the row before.
abbrev pub home_of : ℕ → ℕ → Spot
home_of m k = record { site = 1 + (k % m + k / m) % m; cell = k / m }
