-- The shapes of lattices and of archives that there are.
use Rattle.std.specs.Prelude.{ℕ, Bool, ◌&&◌, ◌||◌, ◌==◌, nat_le}

-- One strand, or two or three classes of strands with 2 ≤ s ≤ 16 and s ≤ p ≤ 64.
abbrev pub is_profile : ℕ → ℕ → ℕ → Bool
is_profile alpha s p =
    (alpha == 1 && s == 1 && p == 0)
    || (nat_le 2 alpha && nat_le alpha 3 && nat_le 2 s && nat_le s 16 && nat_le s p && nat_le p 64)

-- The shape of an archive: a profile, blocks of 16 to 65,536 bytes, and 1 to 64 sites.
abbrev pub is_shape : ℕ → ℕ → ℕ → ℕ → ℕ → Bool
is_shape alpha s p block sites =
    is_profile alpha s p
    && (nat_le 16 block && nat_le block 65536)
    && (nat_le 1 sites && nat_le sites 64)

-- The greatest number of nodes.
abbrev pub greatest_nodes : ℕ
greatest_nodes = 1048576
