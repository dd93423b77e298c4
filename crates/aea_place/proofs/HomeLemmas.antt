-- Homes are those of one block each.
use Rattle.std.proofs.Common.{◌≡◌, ℕ, ◌+◌, ◌-◌, ◌*◌, ◌/◌, ◌%◌, ◌<◌, ◌≤◌, sym, ap, ◌∙◌, arith}
use Rattle.std.proofs.Math.Nat.{mod-lt}
use Rattle.std.proofs.lemmas.Nat.{div-mul-add, mod-mul-add}
use Rattle.aea_place.specs.declared.homes.Spot.{Spot}
use Rattle.aea_place.specs.Homes.{home_of}
use Rattle.aea_place.proofs.Rotations.{same_column, same_number, rotated_back}

-- blocks of one row on one site are one block
pub same_in_row : (m j k : ℕ) → 1 ≤ m → j / m ≡ k / m → (home_of m j).site ≡ (home_of m k).site → j ≡ k
same_in_row m j k some row site =
    let same : (j % m + j / m) % m ≡ (k % m + k / m) % m = omega arith in
    let rotated : (j % m + k / m) % m ≡ (k % m + k / m) % m =
    ap (λ r. (j % m + r) % m) (sym row) ∙ same in
    same_number m j k row
    (same_column m (k / m) (j % m) (k % m) (mod-lt j (omega arith)) (mod-lt k (omega arith)) rotated)

-- blocks of one home are one block
pub same_home : (m j k : ℕ) → 1 ≤ m → home_of m j ≡ home_of m k → j ≡ k
same_home m j k some same = same_in_row m j k some (ap (λ (s : Spot). s.cell) same) (ap (λ (s : Spot). s.site) same)

-- the number of a cell of a site, where its row is rotated back
abbrev pub number_at : ℕ → Spot → ℕ
number_at m spot = spot.cell * m + (spot.site - 1 + m - spot.cell % m) % m

-- the block of that number has its home there
pub home_of-number_at : (m : ℕ) (spot : Spot) → 1 ≤ spot.site → spot.site ≤ m → home_of m (number_at m spot) ≡ spot
home_of-number_at m spot some last =
    let column : ℕ = (spot.site - 1 + m - spot.cell % m) % m in
    let small : (spot.site - 1 + m - spot.cell % m) % m < m = mod-lt (spot.site - 1 + m - spot.cell % m) (omega arith) in
    let row : number_at m spot / m ≡ spot.cell = div-mul-add spot.cell m column small in
    let place : number_at m spot % m ≡ column = mod-mul-add spot.cell m column small in
    rw (row, place, rotated_back m spot.cell (spot.site - 1) (omega arith))
    (let site : 1 + (spot.site - 1) ≡ spot.site = omega arith in
    ap (λ (s : ℕ). let home : Spot = record { site = s; cell = spot.cell } in home) site)

-- a home is on one of the sites
pub on_a_site : (m k : ℕ) → 1 ≤ m → (1 ≤ (home_of m k).site) × ((home_of m k).site ≤ m)
on_a_site m k some = let small : (k % m + k / m) % m < m = mod-lt (k % m + k / m) (omega arith) in (omega arith, omega arith)
