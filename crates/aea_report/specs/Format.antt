-- How a loss report is spelled: lines, each ended by a newline. Numbers are decimal, and each follows a space.
use Rattle.std.specs.Prelude.{ℕ, List, [], ◌∷◌, ◌++◌, map, codes, decimal, Option, Some, None}
use Rattle.std.specs.List.{flat_map}
use Rattle.hex.specs.Hex.{encode_lower}
use Rattle.aea_lattice.specs.declared.blocks.BlockId.{BlockId}
use Rattle.aea_lattice.specs.Texts.{text_of}
use Rattle.aea_report.specs.declared.head.Head.{Head}
use Rattle.aea_report.specs.declared.line.Line.{Line}
use Rattle.aea_report.specs.declared.line.Line.TheVariants.{Peeled, Solved, Lost}

-- the byte that ends a line
abbrev pub newline : List ℕ
newline = 10 ∷ []

-- lines as one text, each ended by a newline
abbrev pub joined : List (List ℕ) → List ℕ
joined texts = flat_map (λ text. text ++ newline) texts

-- numbers in decimal, each after a space
abbrev pub numbers_text : List ℕ → List ℕ
numbers_text numbers = flat_map (λ number. codes " " ++ decimal number) numbers

-- the seal of an archive, 64 digits in lower case, or that there is none
abbrev pub seal_text : Option (List ℕ) → List ℕ
seal_text None = codes "none"
seal_text (Some seal) = encode_lower seal

-- The four lines of a head: the mark; α, s, p and the number of nodes; the seal; and how many blocks are damaged, peeled,
-- solved and lost.
abbrev pub head_texts : Head → List (List ℕ)
head_texts h =
    codes "aea-report 1"
    ∷ (codes "lattice" ++ numbers_text (h.alpha ∷ h.s ∷ h.p ∷ h.n ∷ []))
    ∷ (codes "ledger " ++ seal_text h.seal)
    ∷ (codes "counts" ++ numbers_text (h.damaged ∷ h.peeled ∷ h.solved ∷ h.lost ∷ []))
    ∷ []

-- the line of a lost block, with the text of its nodes
abbrev pub lost_text : BlockId → List ℕ → List ℕ
lost_text b nodes = codes "lost " ++ (text_of b ++ (codes " by" ++ nodes))

-- the line of a block: that it is peeled, that it is solved, or the nodes by which it is lost
abbrev pub line_text : Line → List ℕ
line_text (Peeled b) = codes "peeled " ++ text_of b
line_text (Solved b) = codes "solved " ++ text_of b
line_text (Lost b nodes) = lost_text b (numbers_text nodes)

-- the lines of a report: the four of its head, and those of blocks
abbrev pub report_texts : Head → List Line → List (List ℕ)
report_texts h lines = head_texts h ++ map line_text lines

-- the bytes of a report
abbrev pub report_bytes : Head → List Line → List ℕ
report_bytes h lines = joined (report_texts h lines)

-- the block of a line
abbrev pub block_in : Line → BlockId
block_in (Peeled b) = b
block_in (Solved b) = b
block_in (Lost b nodes) = b
