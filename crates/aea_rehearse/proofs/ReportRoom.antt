-- The bytes of a report: how many there are at most, for a lattice with fewer than ten thousand nodes.
use Rattle.std.proofs.Common.{◌≡◌, ℕ, suc, ◌+◌, ◌-◌, ◌*◌, ◌<◌, ◌≤◌, ◌^◌, List, [], ◌∷◌, ◌++◌, length, length-append, codes, decimal, arith, Option, Some, None, lit<, ap, sym, subst, ◌∙◌}
use Rattle.std.specs.Prelude.{map, IfSome}
use Rattle.std.proofs.lemmas.Fmt.{length-decimal-le}
use Rattle.std.proofs.Math.Nat.{mul-le-mul_left}
use Rattle.std.proofs.lemmas.Grind.{flat_map-append}
use Rattle.hex.specs.Hex.{lower_digits}
use Rattle.hex.proofs.HexLemmas.{length-encode_with}
use Rattle.aea_lattice.specs.declared.blocks.BlockId.{BlockId}
use Rattle.aea_lattice.specs.declared.grid.Lattice.{Lattice}
use Rattle.aea_lattice.specs.Blocks.{HasBlock, number_of, blocks_count, class_number}
use Rattle.aea_lattice.specs.Data.{IsBytes}
use Rattle.aea_lattice.specs.Texts.{text_of}
use Rattle.aea_report.specs.declared.head.Head.{Head}
use Rattle.aea_report.specs.declared.line.Line.{Line}
use Rattle.aea_report.specs.declared.line.Line.TheVariants.{Peeled, Solved, Lost}
use Rattle.aea_report.specs.Format.{newline, joined, seal_text, numbers_text, head_texts, line_text, report_bytes, block_in}
use Rattle.aea_report.specs.Grammar.{IsHeadOf, RiseFrom, IsLine, AreLinesFrom, AreLines}
use Rattle.aea_rehearse.specs.Rooms.{report_room}

-- the digits of a node, of which there are four at most
node-short : (n : ℕ) → n < 10000 → length (decimal n) ≤ 4
node-short n small = length-decimal-le 4 n (lit< tt) small (omega arith)

-- those of a number of 64 bits
any-short : (n : ℕ) → n < 2 ^ 64 → length (decimal n) ≤ 20
any-short n small = length-decimal-le 20 n (lit< tt) (omega arith) small

block-short : (l : Lattice) (b : BlockId) → l.n < 10000 → HasBlock l b → length (text_of b) ≤ 5
block-short l b small has = let last = has.last in let digits = node-short b.node (omega arith) in omega arith

-- the nodes from j on: five bytes for each
nodes-short : (l : Lattice) (i : ℕ) (nodes : List ℕ) → l.n < 10000 → i ≤ l.n → RiseFrom l i nodes → length (numbers_text nodes) ≤ 5 * (l.n - i)
nodes-short l i [] small most rise = omega arith
nodes-short l i (j ∷ nodes) small most rise =
    let below = rise.0 in let within = rise.1 in
    let rest = nodes-short l j nodes small within rise.2 in
    let digits = node-short j (omega arith) in
    let long : length (numbers_text (j ∷ nodes)) ≡ suc (length (decimal j)) + length (numbers_text nodes) = length-append (codes " " ++ decimal j) (numbers_text nodes) in
    omega arith

line-short : (l : Lattice) (least : ℕ) (line : Line) → l.n < 10000 → IsLine l least line → length (line_text line) ≤ 24 + 5 * l.n
line-short l least (Peeled b) small valid = let short = block-short l b small valid.block in omega arith
line-short l least (Solved b) small valid = let short = block-short l b small valid.block in omega arith
line-short l least (Lost b nodes) small valid =
    let short = block-short l b small valid.block in
    let rest = nodes-short l 0 nodes small (omega arith) valid.nodes.1 in
    let long : length (text_of b ++ (codes " by" ++ numbers_text nodes)) ≡ length (text_of b) + length (codes " by" ++ numbers_text nodes) = length-append (text_of b) (codes " by" ++ numbers_text nodes) in
    omega arith

number-less : (m n a c : ℕ) → m + 1 ≤ n → c ≤ a → m * (1 + a) + c < n * (1 + a)
number-less m n a c below used =
    let more : (1 + a) * (m + 1) ≤ (1 + a) * n = mul-le-mul_left (1 + a) below in
    omega arith

-- a block's number is below the count of blocks
number-below : (l : Lattice) (b : BlockId) → HasBlock l b → number_of l b < blocks_count l
number-below l b has =
    let first = has.first in let last = has.last in let used = has.used in
    number-less (b.node - 1) l.n l.alpha (class_number b.class) (omega arith) used

-- one line, and the lines after it
more-short : (m d e one rest : ℕ) → 1 + d ≤ e → one ≤ m → rest ≤ m * d → one + rest ≤ m * e
more-short m d e one rest fits short shorter =
    let more : m * (1 + d) ≤ m * e = mul-le-mul_left m fits in
    omega arith

-- the lines from a number on
lines-short : (l : Lattice) (least : ℕ) (lines : List Line) → l.n < 10000 → AreLinesFrom l least lines → least ≤ blocks_count l
    → length (joined (map line_text lines)) ≤ (25 + 5 * l.n) * (blocks_count l - least)
lines-short l least [] small valid most = omega arith
lines-short l least (line ∷ lines) small valid most =
    let block = valid.0.block in
    let later = valid.0.later in
    let below = number-below l (block_in line) block in
    let rest = lines-short l (number_of l (block_in line) + 1) lines small valid.1 (omega arith) in
    let one = line-short l least line small valid.0 in
    let long : length (joined (map line_text (line ∷ lines))) ≡ length (line_text line ++ newline) + length (joined (map line_text lines)) = length-append (line_text line ++ newline) (joined (map line_text lines)) in
    let ended : length (line_text line ++ newline) ≡ length (line_text line) + 1 = length-append (line_text line) newline in
    let both : length (line_text line ++ newline) + length (joined (map line_text lines)) ≤ (25 + 5 * l.n) * (blocks_count l - least) =
    more-short (25 + 5 * l.n) (blocks_count l - (number_of l (block_in line) + 1)) (blocks_count l - least) (length (line_text line ++ newline)) (length (joined (map line_text lines)))
    (omega arith) (omega arith) rest in
    let P : ℕ → Type 0 = λ n. n ≤ (25 + 5 * l.n) * (blocks_count l - least) in
    subst P (sym long) both

number-short : (n : ℕ) (rest : List ℕ) → n < 2 ^ 64 → length (numbers_text (n ∷ rest)) ≤ 21 + length (numbers_text rest)
number-short n rest small = let digits = any-short n small in omega (arith, length-append (codes " " ++ decimal n) (numbers_text rest))

four-short : (a b c d : ℕ) → a < 2 ^ 64 → b < 2 ^ 64 → c < 2 ^ 64 → d < 2 ^ 64 → length (numbers_text (a ∷ b ∷ c ∷ d ∷ [])) ≤ 84
four-short a b c d sa sb sc sd =
    let one = number-short a (b ∷ c ∷ d ∷ []) sa in
    let two = number-short b (c ∷ d ∷ []) sb in
    let three = number-short c (d ∷ []) sc in
    let four = number-short d [] sd in
    omega arith

seal-short : (seal : Option (List ℕ)) → IfSome seal (IsBytes 32) → length (seal_text seal) ≤ 64
seal-short None valid = omega arith
seal-short (Some seal) valid = let wide = valid.wide in omega (arith, length-encode_with lower_digits seal)

four-joined : (a b c d : List ℕ) → length (joined (a ∷ b ∷ c ∷ d ∷ [])) ≡ length a + length b + length c + length d + 4
four-joined a b c d =
    omega (
      arith,
      length-append (a ++ newline) (joined (b ∷ c ∷ d ∷ [])),
      length-append (b ++ newline) (joined (c ∷ d ∷ [])),
      length-append (c ++ newline) (joined (d ∷ [])),
      length-append (d ++ newline) [],
      length-append a newline,
      length-append b newline,
      length-append c newline,
      length-append d newline,
    )

head-short : (l : Lattice) (h : Head) → l.alpha < 2 ^ 32 → l.s < 2 ^ 32 → l.p < 2 ^ 32 → l.n < 10000 → IsHeadOf l h → length (joined (head_texts h)) ≤ 512
head-short l h sa ss sp small is =
    let one : length (numbers_text (h.alpha ∷ h.s ∷ h.p ∷ h.n ∷ [])) ≤ 84 = four-short h.alpha h.s h.p h.n (omega (arith, is.alpha)) (omega (arith, is.s)) (omega (arith, is.p)) (omega (arith, is.n)) in
    let two = seal-short h.seal is.seal in
    let three : length (numbers_text (h.damaged ∷ h.peeled ∷ h.solved ∷ h.lost ∷ [])) ≤ 84 = four-short h.damaged h.peeled h.solved h.lost (omega (arith, is.damaged)) (omega (arith, is.peeled)) (omega (arith, is.solved)) (omega (arith, is.lost)) in
    omega (
      arith,
      four-joined (codes "aea-report 1") (codes "lattice" ++ numbers_text (h.alpha ∷ h.s ∷ h.p ∷ h.n ∷ [])) (codes "ledger " ++ seal_text h.seal) (codes "counts" ++ numbers_text (h.damaged ∷ h.peeled ∷ h.solved ∷ h.lost ∷ [])),
      length-append (codes "lattice") (numbers_text (h.alpha ∷ h.s ∷ h.p ∷ h.n ∷ [])),
      length-append (codes "ledger ") (seal_text h.seal),
      length-append (codes "counts") (numbers_text (h.damaged ∷ h.peeled ∷ h.solved ∷ h.lost ∷ [])),
    )

-- a report of such a lattice has no more bytes than the space for it
pub report-short : (l : Lattice) (h : Head) (lines : List Line) → l.alpha ≡ 3 → l.s < 2 ^ 32 → l.p < 2 ^ 32 → l.n < 10000 → IsHeadOf l h → AreLines l lines
    → length (report_bytes h lines) ≤ report_room l.n
report-short l h lines alpha ss sp small is valid =
    let head = head-short l h (omega arith) ss sp small is in
    let rest = lines-short l 0 lines small valid (omega arith) in
    let whole : length (report_bytes h lines) ≡ length (joined (head_texts h)) + length (joined (map line_text lines)) = ap length (flat_map-append (λ text. text ++ newline) (head_texts h) (map line_text lines)) ∙ length-append (joined (head_texts h)) (joined (map line_text lines)) in
    let count : blocks_count l - 0 ≡ 4 * l.n = omega (arith, ap (λ a. l.n * (1 + a)) alpha) in
    let P : ℕ → Type 0 = λ n. length (joined (map line_text lines)) ≤ (25 + 5 * l.n) * n in
    let fewer = subst P count rest in
    omega arith
