-- The lines of blocks, one after the other.
use Rattle.std.proofs.Common.{◌≡◌, ℕ, ◌+◌, List, [], ◌∷◌, ◌++◌, length, append_assoc, length-append, Option, None, arith, refl, sym, ◌∙◌, ap, subst}
use Rattle.std.specs.Prelude.{map}
use Rattle.std.proofs.lemmas.List.{append-nil, length-map, map_push, take_all}
use Rattle.std.proofs.lemmas.List.Concat.{flat_map-append}
use Rattle.aea_lattice.specs.declared.grid.Lattice.{Lattice}
use Rattle.aea_lattice.specs.Blocks.{number_of}
use Rattle.aea_report.specs.declared.head.Head.{Head}
use Rattle.aea_report.specs.declared.line.Line.{Line}
use Rattle.aea_report.specs.Format.{newline, joined, head_texts, line_text, report_texts, report_bytes, block_in}
use Rattle.aea_report.specs.Grammar.{IsHeadOf, IsLine, AreLines, AreLinesFrom, IsReport}
use Rattle.aea_report.specs.Faults.{IsAtLine}
use Rattle.aea_reader.specs.Places.{IsAt, HasText}
use Rattle.aea_reader.specs.Readings.{Reading, IsReading, least_after}

-- ---- lines after lines

-- one line more after valid ones
pub one_more : (l : Lattice) (least : ℕ) (lines : List Line) (line : Line) → AreLinesFrom l least lines → IsLine l (least_after l least lines) line → AreLinesFrom l least (lines ++ line ∷ [])
one_more l least [] line valid next = (next, tt)
one_more l least (one ∷ lines) line valid next = (valid.0, one_more l (number_of l (block_in one) + 1) lines line valid.1 next)

-- the least number after it
pub least_more : (l : Lattice) (least : ℕ) (lines : List Line) (line : Line) → least_after l least (lines ++ line ∷ []) ≡ number_of l (block_in line) + 1
least_more l least [] line = refl
least_more l least (one ∷ lines) line = least_more l (number_of l (block_in one) + 1) lines line

-- the texts of a report with one line more
texts_more : (h : Head) (lines : List Line) (line : Line) → report_texts h (lines ++ line ∷ []) ≡ report_texts h lines ++ line_text line ∷ []
texts_more h lines line =
    ap (λ xs. head_texts h ++ xs) (map_push line_text lines line)
    ∙ sym (append_assoc (head_texts h) (map line_text lines) (line_text line ∷ []))

-- and its bytes
bytes_more : (h : Head) (lines : List Line) (line : Line) → report_bytes h (lines ++ line ∷ []) ≡ report_bytes h lines ++ (line_text line ++ newline)
bytes_more h lines line =
    ap joined (texts_more h lines line)
    ∙ flat_map-append (λ t. t ++ newline) (report_texts h lines) (line_text line ∷ [])
    ∙ ap (λ xs. report_bytes h lines ++ xs) (append-nil (line_text line ++ newline))

-- ---- where a reader is

pub reading_at : (input : List ℕ) (h : Head) (lines : List Line) (v : Reading) (left : Option (List ℕ)) → IsReading input h lines v left → IsAt input v.line (report_texts h lines) v.ahead left
reading_at input h lines v left is =
    let line = is.line in
    let texts = report_texts h lines in
    let long : length texts ≡ 4 + length lines = length-append (head_texts h) (map line_text lines) ∙ ap (λ n. 4 + n) (length-map lines line_text) in
    record {
      rest = v.ahead ++ is.rest;
      at = record {
        before = record {
          lattice = v.lattice;
          head = h;
          is_head = is.head;
          lines = lines;
          valid = is.valid;
          first = take_all (length texts) texts (omega arith);
        };
        spelling = is.spelling;
        place = omega arith;
      };
      stands = record { rest = is.rest; revealed = is.revealed; are = refl };
    }

-- after the head
pub reading_begun : (input : List ℕ) (l : Lattice) (h : Head) (ahead : List ℕ) (left : Option (List ℕ)) → IsHeadOf l h → IsAt input 5 (head_texts h) ahead left
    → IsReading input h [] (record { lattice = l; line = 5; least = 0; ahead = ahead; settled = None }) left
reading_begun input l h ahead left is here = record {
  head = is;
  valid = tt;
  open_still = refl;
  line = refl;
  least = refl;
  rest = here.stands.rest;
  revealed = here.stands.revealed;
  spelling = here.at.spelling ∙ ap (λ xs. joined (head_texts h) ++ xs) here.stands.are;
}

-- one line more was read
pub reading_more : (input : List ℕ) (h : Head) (lines : List Line) (v w : Reading) (left now : Option (List ℕ)) (line : Line) → IsReading input h lines v left
    → HasText input v.line (report_texts h lines) (line_text line) w.ahead now → IsLine v.lattice v.least line
    → w.lattice ≡ v.lattice → w.line ≡ v.line + 1 → w.least ≡ number_of v.lattice (block_in line) + 1 → w.settled ≡ None
    → IsReading input h (lines ++ line ∷ []) w now
reading_more input h lines v w left now line is has valid lattice number least settled =
    let place = is.line in
    let next = subst (λ k. IsLine v.lattice k line) is.least valid in
    let rest = has.stands.rest in
    record {
      head = subst (λ l. IsHeadOf l h) (sym lattice) is.head;
      valid = subst (λ l. AreLines l (lines ++ line ∷ [])) (sym lattice) (one_more v.lattice 0 lines line is.valid next);
      open_still = settled;
      line = omega (arith, length-append lines (line ∷ []));
      least = least ∙ sym (least_more v.lattice 0 lines line) ∙ ap (λ l. least_after l 0 (lines ++ line ∷ [])) (sym lattice);
      rest = rest;
      revealed = has.stands.revealed;
      spelling =
          has.at.spelling
          ∙ ap (λ xs. report_bytes h lines ++ xs) (sym (append_assoc (line_text line) newline has.rest))
          ∙ sym (append_assoc (report_bytes h lines) (line_text line ++ newline) has.rest)
          ∙ ap (λ xs. xs ++ has.rest) (sym (bytes_more h lines line))
          ∙ ap (λ xs. report_bytes h (lines ++ line ∷ []) ++ xs) has.stands.are;
    }

-- nothing is left
pub reading_end : (input : List ℕ) (h : Head) (lines : List Line) (v : Reading) (left : Option (List ℕ)) (k : ℕ) → IsReading input h lines v left
    → IsAtLine input k (report_texts h lines) [] → IsReport input h lines
reading_end input h lines v left k is at = record {
  lattice = v.lattice;
  head = is.head;
  valid = is.valid;
  spelling = at.spelling ∙ append-nil (report_bytes h lines);
}
