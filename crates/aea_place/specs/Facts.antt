-- Facts of homes over m sites.
use Rattle.std.specs.Prelude.{◌≡◌, ℕ, ◌/◌, ◌≤◌}
use Rattle.aea_place.specs.Homes.{home_of}

-- Two blocks never share a home.
abbrev pub HomesAreApart : Type 0
HomesAreApart = (m j k : ℕ) → 1 ≤ m → home_of m j ≡ home_of m k → j ≡ k

-- Two blocks of one row are on two sites.
abbrev pub RowsGoOverSites : Type 0
RowsGoOverSites = (m j k : ℕ) → 1 ≤ m → j / m ≡ k / m → (home_of m j).site ≡ (home_of m k).site → j ≡ k

-- A home is on one of the sites 1 to m.
abbrev pub HomesAreOnSites : Type 0
HomesAreOnSites = (m k : ℕ) → 1 ≤ m → (1 ≤ (home_of m k).site) × ((home_of m k).site ≤ m)
