-- Words in a line, which spaces part.
use Rattle.std.specs.Prelude.{◌≡◌, ◌≢◌, ℕ, List, [], ◌∷◌, ◌++◌, All, codes, decimal}

-- no byte of the text is this one
abbrev pub IsFree : ℕ → List ℕ → Type 0
IsFree c bytes = All (λ x. x ≢ c) bytes

-- the text is empty, or begins with this byte
abbrev pub Starts : ℕ → List ℕ → Type 0
Starts c [] = Unit {0}
Starts c (x ∷ xs) = x ≡ c

-- a number after a space, and the rest
abbrev pub spaced : ℕ → List ℕ → List ℕ
spaced n rest = (codes " " ++ decimal n) ++ rest
