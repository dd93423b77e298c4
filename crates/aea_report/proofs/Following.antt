-- Lines after lines.
use Rattle.std.proofs.Common.{◌≡◌, ℕ, suc, zero, ◌+◌, ◌-◌, ◌*◌, ◌≤◌, List, [], ◌∷◌, ◌++◌, length, get_or, drop, take, arith, sym, ap, subst}
use Rattle.std.specs.Prelude.{map}
use Rattle.aea_lattice.specs.declared.grid.Lattice.{Lattice}
use Rattle.aea_lattice.specs.Blocks.{class_number, number_of}
use Rattle.aea_report.specs.declared.line.Line.{Line}
use Rattle.aea_report.specs.Format.{line_text, block_in}
use Rattle.aea_report.specs.Grammar.{RiseFrom, HasNodes, IsLine, AreLinesFrom}
use Rattle.aea_report.specs.declared.line.Line.TheVariants.{Peeled, Solved, Lost}
use Rattle.aea_report.proofs.Readings.{line_same}
use Rattle.aea_report.proofs.Lines.{HasLine}

-- the least number that the block of a line after these may have
abbrev pub least_after : Lattice → ℕ → List Line → ℕ
least_after l least [] = least
least_after l least (line ∷ lines) = least_after l (number_of l (block_in line) + 1) lines

-- the first lines of valid ones are valid
pub lines-first : (l : Lattice) (least k : ℕ) (lines : List Line) → AreLinesFrom l least lines → AreLinesFrom l least (take k lines)
lines-first l least zero lines valid = tt
lines-first l least (suc k) [] valid = tt
lines-first l least (suc k) (line ∷ lines) valid = (valid.0, lines-first l (number_of l (block_in line) + 1) k lines valid.1)

-- one line more after valid ones
pub lines-more : (l : Lattice) (least : ℕ) (lines : List Line) (line : Line) → AreLinesFrom l least lines → IsLine l (least_after l least lines) line → AreLinesFrom l least (lines ++ line ∷ [])
lines-more l least [] line valid next = (next, tt)
lines-more l least (one ∷ lines) line valid next = (valid.0, lines-more l (number_of l (block_in one) + 1) lines line valid.1 next)

-- nodes of one lattice are nodes of another with as many
rise_in : (l m : Lattice) → m.n ≡ l.n → (i : ℕ) (nodes : List ℕ) → RiseFrom m i nodes → RiseFrom l i nodes
rise_in l m e i [] rise = tt
rise_in l m e i (j ∷ nodes) rise = let most = rise.1 in (rise.0, omega arith, rise_in l m e j nodes rise.2)

nodes_in : (l m : Lattice) → m.n ≡ l.n → (line : Line) → HasNodes m line → HasNodes l line
nodes_in l m e (Peeled b) has = tt
nodes_in l m e (Solved b) has = tt
nodes_in l m e (Lost b nodes) has = (has.0, rise_in l m e 0 nodes has.1)

-- lines of one lattice are lines of another with the same α and as many nodes
line_in : (l m : Lattice) → m.alpha ≡ l.alpha → m.n ≡ l.n → (least : ℕ) (line : Line) → IsLine m least line → IsLine l least line
line_in l m e f least line valid =
    let last = valid.block.last in let used = valid.block.used in
    record {
      block = record { first = valid.block.first; last = omega arith; used = omega arith };
      later = subst (λ alpha. least ≤ ((block_in line).node - 1) * (1 + alpha) + class_number (block_in line).class) e valid.later;
      nodes = nodes_in l m f line valid.nodes;
    }

-- and so are the lines that follow
pub lines_in : (l m : Lattice) → m.alpha ≡ l.alpha → m.n ≡ l.n → (least : ℕ) (lines : List Line) → AreLinesFrom m least lines → AreLinesFrom l least lines
lines_in l m e f least [] valid = tt
lines_in l m e f least (line ∷ lines) valid = (
  line_in l m e f least line valid.0,
  subst (λ alpha. AreLinesFrom l (((block_in line).node - 1) * (1 + alpha) + class_number (block_in line).class + 1) lines) e
      (lines_in l m e f (number_of m (block_in line) + 1) lines valid.1),
)

not_empty : (text : List ℕ) (texts : List (List ℕ)) → text ∷ texts ≡ [] → ⊥
not_empty text texts e = let long : suc (length texts) ≡ 0 = ap length e in omega arith

-- where lines have the same texts and one more, this one is a line after them
pub next_line : (l : Lattice) (least : ℕ) (lines others : List Line) (text : List ℕ) → AreLinesFrom l least lines → AreLinesFrom l least others
    → map line_text lines ++ text ∷ [] ≡ map line_text others → HasLine l (least_after l least lines) text
next_line l least [] [] text one two e = absurd (not_empty text [] e)
next_line l least [] (line ∷ others) text one two e = (line, two.0, ap (λ texts. get_or texts 0 []) e)
next_line l least (line ∷ lines) [] text one two e = absurd (not_empty (line_text line) (map line_text lines ++ text ∷ []) e)
next_line l least (x ∷ lines) (y ∷ others) text one two e =
    let same : y ≡ x = line_same l l least least y x two.0 one.0 (sym (ap (λ texts. get_or texts 0 []) e)) in
    next_line l (number_of l (block_in x) + 1) lines others text one.1 (subst (λ z. AreLinesFrom l (number_of l (block_in z) + 1) others) same two.1) (ap (drop 1) e)
