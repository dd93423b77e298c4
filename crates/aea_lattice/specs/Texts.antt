-- The texts of blocks.
use Rattle.std.specs.Prelude.{ℕ, List, ◌∷◌, decimal}
use Rattle.aea_lattice.specs.declared.blocks.Class.{Class}
use Rattle.aea_lattice.specs.declared.blocks.Class.TheVariants.{Datum, Horiz, Right, Left}
use Rattle.aea_lattice.specs.declared.blocks.BlockId.{BlockId}

-- the codes of the letters d, h, r and l
abbrev pub letter_of : Class → ℕ
letter_of Datum = 100
letter_of Horiz = 104
letter_of Right = 114
letter_of Left = 108

-- the text of a block: the letter of its class, and its node in decimal
abbrev pub text_of : BlockId → List ℕ
text_of b = letter_of b.class ∷ decimal b.node
