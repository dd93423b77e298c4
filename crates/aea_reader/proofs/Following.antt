-- Where a report begins with some lines and one more, this one may follow the others.
use Rattle.std.proofs.Common.{◌≡◌, ℕ, suc, zero, ◌+◌, ◌-◌, ◌*◌, ◌<◌, ◌≤◌, List, [], ◌∷◌, ◌++◌, length, get_or, take, length-append, arith, refl, sym, ◌∙◌, ap, subst}
use Rattle.std.specs.Prelude.{map}
use Rattle.std.proofs.lemmas.List.{length-map, length-take, take_at, take-map, take-take, get_or-take, get_or_at}
use Rattle.aea_lattice.specs.declared.grid.Lattice.{Lattice}
use Rattle.aea_lattice.specs.Blocks.{class_number, number_of}
use Rattle.aea_report.specs.declared.head.Head.{Head}
use Rattle.aea_report.specs.declared.line.Line.{Line}
use Rattle.aea_report.specs.declared.line.Line.TheVariants.{Peeled, Solved, Lost}
use Rattle.aea_report.specs.Format.{joined, head_texts, line_text, report_texts, report_bytes, block_in}
use Rattle.aea_report.specs.Grammar.{RiseFrom, HasNodes, IsHeadOf, IsLine, AreLines, AreLinesFrom}
use Rattle.aea_report.specs.Faults.{Begins}
use Rattle.aea_report.specs.Laws.{HaveOneReading}
use Rattle.aea_reader.specs.Readings.{least_after}

-- ---- lines of two lattices with the same α and as many nodes

rise_in : (l m : Lattice) → m.n ≡ l.n → (i : ℕ) (nodes : List ℕ) → RiseFrom m i nodes → RiseFrom l i nodes
rise_in l m e i [] rise = tt
rise_in l m e i (j ∷ nodes) rise = let most = rise.1 in (rise.0, omega arith, rise_in l m e j nodes rise.2)

nodes_in : (l m : Lattice) → m.n ≡ l.n → (line : Line) → HasNodes m line → HasNodes l line
nodes_in l m e (Peeled b) has = tt
nodes_in l m e (Solved b) has = tt
nodes_in l m e (Lost b nodes) has = (has.0, rise_in l m e 0 nodes has.1)

line_of : (l m : Lattice) → m.alpha ≡ l.alpha → m.n ≡ l.n → (least : ℕ) (line : Line) → IsLine m least line → IsLine l least line
line_of l m e f least line valid =
    let last = valid.block.last in let used = valid.block.used in
    record {
      block = record { first = valid.block.first; last = omega arith; used = omega arith };
      later = subst (λ alpha. least ≤ ((block_in line).node - 1) * (1 + alpha) + class_number (block_in line).class) e valid.later;
      nodes = nodes_in l m f line valid.nodes;
    }

least_same : (l m : Lattice) → m.alpha ≡ l.alpha → (least : ℕ) (lines : List Line) → least_after m least lines ≡ least_after l least lines
least_same l m e least [] = refl
least_same l m e least (line ∷ lines) =
    ap (λ alpha. least_after m (((block_in line).node - 1) * (1 + alpha) + class_number (block_in line).class + 1) lines) e
    ∙ least_same l m e (number_of l (block_in line) + 1) lines

-- ---- a line among others

-- the first lines of valid ones are valid
lines_first : (l : Lattice) (least k : ℕ) (lines : List Line) → AreLinesFrom l least lines → AreLinesFrom l least (take k lines)
lines_first l least zero lines valid = tt
lines_first l least (suc k) [] valid = tt
lines_first l least (suc k) (line ∷ lines) valid = (valid.0, lines_first l (number_of l (block_in line) + 1) k lines valid.1)

-- a line from this number on that has this text
abbrev pub HasLine : Lattice → ℕ → List ℕ → Type 0
HasLine l least text = (line : Line) × IsLine l least line × (text ≡ line_text line)

-- the line at a place is one that follows those before it
line_at : (l : Lattice) (least k : ℕ) (lines : List Line) → AreLinesFrom l least lines → k < length lines → HasLine l (least_after l least (take k lines)) (get_or (map line_text lines) k [])
line_at l least k [] valid inside = absurd (omega arith)
line_at l least zero (line ∷ lines) valid inside = (line, valid.0, refl)
line_at l least (suc k) (line ∷ lines) valid inside = line_at l (number_of l (block_in line) + 1) k lines valid.1 (omega arith)

-- ---- a report with these lines and one more

-- four and more
four_more : (n : ℕ) → 4 + n ≡ suc (suc (suc (suc n)))
four_more n = omega arith

texts-long : (h : Head) (lines : List Line) → length (report_texts h lines) ≡ 4 + length lines
texts-long h lines = length-append (head_texts h) (map line_text lines) ∙ ap (λ n. 4 + n) (length-map lines line_text)

-- the first lines of a report
texts-first : (g : Head) (others : List Line) (n : ℕ) → take (4 + n) (report_texts g others) ≡ report_texts g (take n others)
texts-first g others n =
    ap (λ k. take k (report_texts g others)) (four_more n)
    ∙ ap (λ xs. head_texts g ++ xs) (take-map line_text n others)

-- the text after them
texts-next : (g : Head) (others : List Line) (n : ℕ) → get_or (report_texts g others) (4 + n) [] ≡ get_or (map line_text others) n []
texts-next g others n = ap (λ k. get_or (report_texts g others) k []) (four_more n)

-- what a report that begins with these lines and this text has first
same_first : (h : Head) (lines : List Line) (text : List ℕ) (g : Head) (others : List Line) → take (length (report_texts h lines ++ text ∷ [])) (report_texts g others) ≡ report_texts h lines ++ text ∷ []
    → report_texts g (take (length lines) others) ≡ report_texts h lines
same_first h lines text g others e =
    let n = length lines in
    let texts = report_texts h lines in
    let whole = report_texts g others in
    let long = texts-long h lines in
    let more : length (texts ++ text ∷ []) ≡ length texts + 1 = length-append texts (text ∷ []) in
    let below : 4 + n ≤ length (texts ++ text ∷ []) = omega arith in
    sym (texts-first g others n)
    ∙ sym (take-take (4 + n) (length (texts ++ text ∷ [])) whole below)
    ∙ ap (take (4 + n)) e
    ∙ take_at texts (text ∷ []) (4 + n) long

same_next : (h : Head) (lines : List Line) (text : List ℕ) (g : Head) (others : List Line) → take (length (report_texts h lines ++ text ∷ [])) (report_texts g others) ≡ report_texts h lines ++ text ∷ []
    → (length lines < length others) × (text ≡ get_or (map line_text others) (length lines) [])
same_next h lines text g others e =
    let n = length lines in
    let texts = report_texts h lines in
    let whole = report_texts g others in
    let long = texts-long h lines in
    let wide = texts-long g others in
    let more : length (texts ++ text ∷ []) ≡ length texts + 1 = length-append texts (text ∷ []) in
    let short = length-take (length (texts ++ text ∷ [])) whole in
    let same : length (take (length (texts ++ text ∷ [])) whole) ≡ length (texts ++ text ∷ []) = ap length e in
    let below : 4 + n < length (texts ++ text ∷ []) = omega arith in (
      omega arith,
      sym (get_or_at texts text [] [] (4 + n) long)
          ∙ ap (λ xs. get_or xs (4 + n) []) (sym e)
          ∙ get_or-take (length (texts ++ text ∷ [])) whole (4 + n) [] below
          ∙ texts-next g others n,
    )

-- this one may follow the others
pub followed : HaveOneReading → (l : Lattice) (h : Head) (lines : List Line) (text : List ℕ) → IsHeadOf l h → AreLines l lines → Begins (report_texts h lines ++ text ∷ [])
    → HasLine l (least_after l 0 lines) text
followed one l h lines text is valid begins =
    let m = begins.lattice in
    let g = begins.head in
    let others = begins.lines in
    let n = length lines in
    let first = same_first h lines text g others begins.first in
    let next = same_next h lines text g others begins.first in
    let same = one (report_bytes h lines) h g lines (take n others)
    (record { lattice = l; head = is; valid = valid; spelling = refl })
    (record { lattice = m; head = begins.is_head; valid = lines_first m 0 n others begins.valid; spelling = ap joined (sym first) }) in
    let alpha : m.alpha ≡ l.alpha = sym begins.is_head.alpha ∙ ap (λ x. x.alpha) (sym same.0) ∙ is.alpha in
    let count : m.n ≡ l.n = sym begins.is_head.n ∙ ap (λ x. x.n) (sym same.0) ∙ is.n in
    let found = line_at m 0 n others begins.valid next.0 in
    let least : least_after m 0 (take n others) ≡ least_after l 0 lines = ap (least_after m 0) (sym same.1) ∙ least_same l m alpha 0 lines in
    (found.0, line_of l m alpha count (least_after l 0 lines) found.0 (subst (λ k. IsLine m k found.0) least found.1), next.1 ∙ found.2)
