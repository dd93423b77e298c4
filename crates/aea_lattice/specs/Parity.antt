-- Parities: truth values as numbers modulo 2.
use Rattle.std.specs.Prelude.{Bool, true, false, not}

-- whether the two differ: their sum modulo 2
abbrev pub differ : Bool → Bool → Bool
differ true b = not b
differ false b = b
