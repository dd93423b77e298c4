-- The texts of lines, and their counts, one line after the other.
use Rattle.std.proofs.Common.{◌≡◌, ℕ, zero, suc, ◌+◌, take, codes, decimal, Some, None, List, [], ◌∷◌, ◌++◌, map, Bool, true, false, cond, sym, ◌∙◌, ap, append_assoc, arith}
use Rattle.std.specs.Prelude.{slice_get, count_by}
use Rattle.std.proofs.lemmas.List.{append-nil, map-append}
use Rattle.std.proofs.lemmas.List.Concat.{flat_map-append}
use Rattle.std.proofs.lemmas.List.Sums.{sum_by-append}
use Rattle.aea_report.specs.declared.head.Head.{Head}
use Rattle.aea_report.specs.declared.line.Line.{Line}
use Rattle.aea_report.specs.Format.{newline, joined, numbers_text, head_texts, line_text, report_bytes}
use Rattle.aea_plan.specs.Verdicts.{lines_after, lines_by}
use Rattle.aea_plan.specs.declared.verdicts.Verdicts.{Verdicts}

-- the texts of lines, each ended by a newline
abbrev pub texts_of : List Line → List ℕ
texts_of lines = joined (map line_text lines)

-- one line more
pub texts-more : (lines : List Line) (line : Line) → texts_of (lines ++ line ∷ []) ≡ texts_of lines ++ (line_text line ++ newline)
texts-more lines line =
    ap joined (map-append line_text lines (line ∷ []))
    ∙ flat_map-append (λ text. text ++ newline) (map line_text lines) (line_text line ∷ [])
    ∙ ap (λ zs. texts_of lines ++ zs) (append-nil (line_text line ++ newline))

-- the texts before a line, its own, and those after it
pub texts-around : (before : List Line) (line : Line) (after : List Line) → texts_of (before ++ line ∷ after) ≡ (texts_of before ++ (line_text line ++ newline)) ++ texts_of after
texts-around before line after =
    ap joined (map-append line_text before (line ∷ after))
    ∙ flat_map-append (λ text. text ++ newline) (map line_text before) (map line_text (line ∷ after))
    ∙ sym (append_assoc (texts_of before) (line_text line ++ newline) (texts_of after))

-- How far a walk along the lines has come: these were passed, and the others are still to come.
pub record IsPast (v : Verdicts) (from : ℕ) (done : List Line) : Type 0 where
  pub whole : done ++ lines_after v from ≡ lines_by v

-- one line more was passed
pub past-more : (v : Verdicts) (from next : ℕ) (done : List Line) (line : Line) → IsPast v from done
    → lines_after v from ≡ line ∷ lines_after v next → IsPast v next (done ++ line ∷ [])
past-more v from next done line past more = record {
  whole = append_assoc done (line ∷ []) (lines_after v next) ∙ ap (λ ls. done ++ ls) (sym more) ∙ past.whole;
}

-- all were passed
pub past-all : (v : Verdicts) (from : ℕ) (done : List Line) → IsPast v from done → lines_after v from ≡ [] → done ≡ lines_by v
past-all v from done past none = sym (append-nil done) ∙ ap (λ ls. done ++ ls) (sym none) ∙ past.whole

-- the whole text, around a line that is printed next
pub whole-around : (v : Verdicts) (from next : ℕ) (done : List Line) (line : Line) → IsPast v from done
    → lines_after v from ≡ line ∷ lines_after v next
    → texts_of (lines_by v) ≡ (texts_of done ++ (line_text line ++ newline)) ++ texts_of (lines_after v next)
whole-around v from next done line past more =
    ap texts_of (sym past.whole ∙ ap (λ ls. done ++ ls) more) ∙ texts-around done line (lines_after v next)

-- the text of a report: its head, and its lines
pub report-parts : (h : Head) (lines : List Line) → report_bytes h lines ≡ joined (head_texts h) ++ texts_of lines
report-parts h lines = flat_map-append (λ text. text ++ newline) (head_texts h) (map line_text lines)

one_more : (k : ℕ) → k + 1 ≡ suc k
one_more k = omega arith

take-one : (xs : List ℕ) (k x : ℕ) → slice_get xs k ≡ Some x → take (suc k) xs ≡ take k xs ++ x ∷ []
take-one [] k x here = let h : None ≡ Some x = here in cc
take-one (y ∷ ys) zero x here = let h : Some y ≡ Some x = here in let e : y ≡ x = cc in ap (λ z. z ∷ []) e
take-one (y ∷ ys) (suc k) x here = ap (λ zs. y ∷ zs) (take-one ys k x here)

-- the text of one number more
pub numbers-more : (nodes : List ℕ) (k n : ℕ) → slice_get nodes k ≡ Some n → numbers_text (take (k + 1) nodes) ≡ numbers_text (take k nodes) ++ numbers_text (n ∷ [])
numbers-more nodes k n here =
    ap (λ j. numbers_text (take j nodes)) (one_more k)
    ∙ ap numbers_text (take-one nodes k n here)
    ∙ flat_map-append (λ i. codes " " ++ decimal i) (take k nodes) (n ∷ [])

-- the count with one line more
pub count-more : (p : Line → Bool) (lines : List Line) (line : Line) (b : Bool) → p line ≡ b → count_by p (lines ++ line ∷ []) ≡ count_by p lines + cond b 1 0
count-more p lines line b e =
    sum_by-append (λ x. cond (p x) 1 0) lines (line ∷ [])
    ∙ ap (λ c. count_by p lines + (0 + cond c 1 0)) e
    ∙ plus_zero (count_by p lines) b
  where
    plus_zero : (n : ℕ) (b : Bool) → n + (0 + cond b 1 0) ≡ n + cond b 1 0
    plus_zero n true = omega arith
    plus_zero n false = omega arith
