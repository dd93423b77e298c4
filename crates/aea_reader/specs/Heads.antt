-- The lines of a head, each by what it says.
use Rattle.std.specs.Prelude.{ℕ, List, [], ◌∷◌, ◌++◌, codes, Option}
use Rattle.aea_lattice.specs.declared.grid.Lattice.{Lattice}
use Rattle.aea_report.specs.Format.{numbers_text, seal_text}

-- four numbers, each after a space
abbrev pub four_text : ℕ → ℕ → ℕ → ℕ → List ℕ
four_text a b c d = numbers_text (a ∷ b ∷ c ∷ d ∷ [])

-- the first line, the mark
abbrev pub mark_line : List ℕ
mark_line = codes "aea-report 1"

-- the second line: α, s, p and the number of nodes of a lattice
abbrev pub shape_line : Lattice → List ℕ
shape_line l = codes "lattice" ++ four_text l.alpha l.s l.p l.n

-- the third line: the seal of an archive, or that there is none
abbrev pub seal_line : Option (List ℕ) → List ℕ
seal_line seal = codes "ledger " ++ seal_text seal

-- the fourth line: how many blocks are damaged, peeled, solved and lost
abbrev pub counts_line : ℕ → ℕ → ℕ → ℕ → List ℕ
counts_line damaged peeled solved lost = codes "counts" ++ four_text damaged peeled solved lost

-- the first two lines, and the first three
abbrev pub two_lines : Lattice → List (List ℕ)
two_lines l = mark_line ∷ shape_line l ∷ []

abbrev pub three_lines : Lattice → Option (List ℕ) → List (List ℕ)
three_lines l seal = mark_line ∷ shape_line l ∷ seal_line seal ∷ []
