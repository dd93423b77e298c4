-- No line of a report has 7,400,000 bytes.
use Rattle.std.proofs.Common.{◌≡◌, ℕ, suc, ◌+◌, ◌-◌, ◌*◌, ◌<◌, ◌≤◌, ◌^◌, min, inl, inr, List, [], ◌∷◌, ◌++◌, length, length-append, codes, decimal, arith, Option, Some, None, lit<}
use Rattle.std.specs.Prelude.{map, All, IfSome}
use Rattle.std.proofs.lemmas.Bool.{cases_lt}
use Rattle.std.proofs.lemmas.Fmt.{length-decimal-le}
use Rattle.std.proofs.lemmas.List.Elements.{All-nil, All-cons, All-append, All-from_recursion}
use Rattle.hex.specs.Hex.{lower_digits}
use Rattle.hex.proofs.HexLemmas.{length-encode_with}
use Rattle.aea_lattice.specs.declared.blocks.BlockId.{BlockId}
use Rattle.aea_lattice.specs.declared.grid.Lattice.{Lattice}
use Rattle.aea_lattice.specs.Blocks.{HasBlock, number_of}
use Rattle.aea_lattice.specs.Data.{IsBytes}
use Rattle.aea_lattice.specs.Texts.{text_of}
use Rattle.aea_report.specs.declared.head.Head.{Head}
use Rattle.aea_report.specs.declared.line.Line.{Line}
use Rattle.aea_report.specs.declared.line.Line.TheVariants.{Peeled, Solved, Lost}
use Rattle.aea_report.specs.Format.{seal_text, numbers_text, head_texts, line_text, report_texts, block_in}
use Rattle.aea_report.specs.Grammar.{IsHeadOf, RiseFrom, IsLine, AreLinesFrom, AreLines}
use Rattle.aea_report.specs.Laws.{LinesAreShort}
use Rattle.aea_report.proofs.Plain.{AreNumbers, shape-numbers, counts-numbers}

-- a node below a million has six digits at most, and each node of a lattice seven
few_digits : (n : ℕ) → n < 10 ^ 6 → length (decimal n) ≤ 6
few_digits n low = length-decimal-le 6 n (lit< tt) low (omega arith)

node_digits : (l : Lattice) (n : ℕ) → n ≤ l.n → length (decimal n) ≤ 7
node_digits l n most = let range = l.in_range in length-decimal-le 7 n (lit< tt) (omega arith) (omega arith)

-- any number that can be read has at most twenty
any_digits : (n : ℕ) → n < 2 ^ 64 → length (decimal n) ≤ 20
any_digits n small = length-decimal-le 20 n (lit< tt) (omega arith) small

-- The nodes from j on: seven bytes for each, and one more for those with seven digits, which are 48,577 at most.
nodes-short : (l : Lattice) (i : ℕ) (nodes : List ℕ) → RiseFrom l i nodes → i ≤ 1048576
    → length (numbers_text nodes) ≤ 7 * (1048576 - i) + min 48577 (1048576 - i)
nodes-short l i [] rise most = omega arith
nodes-short l i (j ∷ nodes) rise most =
    let below = rise.0 in let within = rise.1 in let range = l.in_range in
    let rest = nodes-short l j nodes rise.2 (omega arith) in
    let long : length (numbers_text (j ∷ nodes)) ≡ suc (length (decimal j)) + length (numbers_text nodes) = length-append (codes " " ++ decimal j) (numbers_text nodes) in
    elim (cases_lt j 1000000) [
      | inl low ↦ let digits = few_digits j (omega arith) in omega arith
      | inr high ↦ let digits = node_digits l j within in omega arith
    ]

block-short : (l : Lattice) (b : BlockId) → HasBlock l b → length (text_of b) ≤ 8
block-short l b has = let digits = node_digits l b.node has.last in omega arith

line-short : (l : Lattice) (least : ℕ) (line : Line) → IsLine l least line → length (line_text line) < 7400000
line-short l least (Peeled b) valid = let short = block-short l b valid.block in omega arith
line-short l least (Solved b) valid = let short = block-short l b valid.block in omega arith
line-short l least (Lost b nodes) valid =
    let short = block-short l b valid.block in
    let rest = nodes-short l 0 nodes valid.nodes.1 (omega arith) in
    let long : length (text_of b ++ (codes " by" ++ numbers_text nodes)) ≡ length (text_of b) + length (codes " by" ++ numbers_text nodes) = length-append (text_of b) (codes " by" ++ numbers_text nodes) in
    omega arith

lines-short : (l : Lattice) (least : ℕ) (lines : List Line) → AreLinesFrom l least lines → All (λ text. length text < 7400000) (map line_text lines)
lines-short l least [] valid = All-nil (λ text. length text < 7400000)
lines-short l least (line ∷ lines) valid =
    All-cons (λ text. length text < 7400000) (line_text line) (map line_text lines) (line-short l least line valid.0) (lines-short l (number_of l (block_in line) + 1) lines valid.1)

number-short : (n : ℕ) (rest : List ℕ) → n < 2 ^ 64 → length (numbers_text (n ∷ rest)) ≤ 21 + length (numbers_text rest)
number-short n rest small = let digits = any_digits n small in omega (arith, length-append (codes " " ++ decimal n) (numbers_text rest))

four-short : (a b c d : ℕ) → AreNumbers (a ∷ b ∷ c ∷ d ∷ []) → length (numbers_text (a ∷ b ∷ c ∷ d ∷ [])) ≤ 84
four-short a b c d small =
    let one = number-short a (b ∷ c ∷ d ∷ []) (small 0 0 (omega arith)) in
    let two = number-short b (c ∷ d ∷ []) (small 1 0 (omega arith)) in
    let three = number-short c (d ∷ []) (small 2 0 (omega arith)) in
    let four = number-short d [] (small 3 0 (omega arith)) in
    omega arith

seal-short : (seal : Option (List ℕ)) → IfSome seal (IsBytes 32) → length (seal_text seal) ≤ 64
seal-short None valid = omega arith
seal-short (Some seal) valid = let wide = valid.wide in omega (arith, length-encode_with lower_digits seal)

head-short : (l : Lattice) (h : Head) → IsHeadOf l h → All (λ text. length text < 7400000) (head_texts h)
head-short l h is =
    let shape = codes "lattice" ++ numbers_text (h.alpha ∷ h.s ∷ h.p ∷ h.n ∷ []) in
    let seal = codes "ledger " ++ seal_text h.seal in
    let counts = codes "counts" ++ numbers_text (h.damaged ∷ h.peeled ∷ h.solved ∷ h.lost ∷ []) in
    let one = four-short h.alpha h.s h.p h.n (shape-numbers l h is) in
    let two = seal-short h.seal is.seal in
    let three = four-short h.damaged h.peeled h.solved h.lost (counts-numbers l h is) in
    All-from_recursion (λ text. length text < 7400000) (codes "aea-report 1" ∷ shape ∷ seal ∷ counts ∷ []) (omega arith, (omega arith, (omega arith, (omega arith, tt))))

-- no line of a report has 7,400,000 bytes
pub report-short : (l : Lattice) (h : Head) (lines : List Line) → IsHeadOf l h → AreLines l lines → All (λ text. length text < 7400000) (report_texts h lines)
report-short l h lines is valid = All-append (λ text. length text < 7400000) (head_texts h) (map line_text lines) (head-short l h is) (lines-short l 0 lines valid)

-- the same of each report
pub short-lines : LinesAreShort
short-lines bytes h lines report = report-short report.lattice h lines report.head report.valid
