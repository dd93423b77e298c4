-- Beginnings of reports, and the one line at which other texts are bad or too long.
use Rattle.std.proofs.Common.{◌≡◌, ◌≢◌, ℕ, ◌+◌, ◌<◌, ◌≤◌, ◌⊎◌, inl, inr, List, [], ◌∷◌, ◌++◌, length, get_or, take, append_assoc, length-append, arith, refl, sym, ◌∙◌, ap, subst}
use Rattle.std.specs.Prelude.{map, All}
use Rattle.std.proofs.lemmas.Bool.{cases_order}
use Rattle.std.proofs.lemmas.List.{append-nil, length-map, take_at, take_all, take-take, get_or_at}
use Rattle.std.proofs.lemmas.List.Elements.{All-take, All-same}
use Rattle.aea_report.specs.declared.head.Head.{Head}
use Rattle.aea_report.specs.declared.line.Line.{Line}
use Rattle.aea_report.specs.Format.{joined, head_texts, line_text, report_texts}
use Rattle.aea_report.specs.Grammar.{IsReport}
use Rattle.aea_report.specs.Faults.{first_line, greatest_line, Begins, IsAtLine, IsBadLine, IsLongLine}
use Rattle.aea_report.specs.Laws.{ReportsAreNotBad, AreBadAtOneLine}
use Rattle.aea_report.proofs.Splits.{IsFree, lines_split, lines_more, first_line-front, first_line-other}
use Rattle.aea_report.proofs.Plain.{report-plain}
use Rattle.aea_report.proofs.Short.{report-short}

-- ---- beginnings

-- the lines of a beginning have no newline
pub begins-plain : (texts : List (List ℕ)) → Begins texts → All (IsFree 10) texts
begins-plain texts begins =
    All-same (IsFree 10) texts (take (length texts) (report_texts begins.head begins.lines)) (sym begins.first)
    (All-take (IsFree 10) (length texts) (report_texts begins.head begins.lines) (report-plain begins.lattice begins.head begins.lines begins.is_head begins.valid))

-- and none is too long
begins-short : (texts : List (List ℕ)) → Begins texts → All (λ text. length text < 7400000) texts
begins-short texts begins =
    All-same (λ text. length text < 7400000) texts (take (length texts) (report_texts begins.head begins.lines)) (sym begins.first)
    (All-take (λ text. length text < 7400000) (length texts) (report_texts begins.head begins.lines) (report-short begins.lattice begins.head begins.lines begins.is_head begins.valid))

-- the first lines of a beginning begin a report
begins-front : (xs ys rest : List (List ℕ)) → ys ≡ xs ++ rest → Begins ys → Begins xs
begins-front xs ys rest e begins =
    let texts = report_texts begins.head begins.lines in
    let long : length xs ≤ length ys = omega (arith, ap length e ∙ length-append xs rest) in
    record {
      lattice = begins.lattice;
      head = begins.head;
      is_head = begins.is_head;
      lines = begins.lines;
      valid = begins.valid;
      first = sym (take-take (length xs) (length ys) texts long) ∙ ap (take (length xs)) (begins.first ∙ e) ∙ take_at xs rest (length xs) refl;
    }

-- the lines of a report begin it
begins-whole : (bytes : List ℕ) (h : Head) (lines : List Line) → IsReport bytes h lines → Begins (report_texts h lines)
begins-whole bytes h lines report = record {
  lattice = report.lattice;
  head = h;
  is_head = report.head;
  lines = lines;
  valid = report.valid;
  first = take_all (length (report_texts h lines)) (report_texts h lines) (omega arith);
}

-- a report is read to its end
at-end : (bytes : List ℕ) (h : Head) (lines : List Line) → IsReport bytes h lines → IsAtLine bytes (length (report_texts h lines) + 1) (report_texts h lines) []
at-end bytes h lines report = record {
  before = begins-whole bytes h lines report;
  spelling = report.spelling ∙ sym (append-nil (joined (report_texts h lines)));
  place = refl;
}

-- ---- one line

-- The next line is well: it has a newline, is not too long, and some report begins with it and those before it.
record IsWell (texts : List (List ℕ)) (rest : List ℕ) : Type 0 where
  pub ended : first_line rest ≢ rest
  pub begins : Begins (texts ++ first_line rest ∷ [])
  pub short : length (first_line rest) ≤ greatest_line

-- where the text reaches a later line too, the line at this place is well
is_well : (bytes : List ℕ) (j k : ℕ) (xs ys : List (List ℕ)) (a b : List ℕ) → IsAtLine bytes j xs a → IsAtLine bytes k ys b → j < k → IsWell xs a
is_well bytes j k xs ys a b one two before =
    let p = one.place in let q = two.place in
    let more = lines_more xs ys a b (begins-plain xs one.before) (begins-plain ys two.before) (omega arith) (sym one.spelling ∙ two.spelling) in
    let line = more.line in
    let beyond = joined more.later ++ b in
    let at : get_or ys (length xs) [] ≡ line = ap (λ texts. get_or texts (length xs) []) more.are ∙ get_or_at xs line more.later [] (length xs) refl in
    let inside : length xs < length ys = omega arith in
    let free : IsFree 10 line = subst (IsFree 10) at (begins-plain ys two.before (length xs) [] inside) in
    let few : length line < 7400000 = subst (λ text. length text < 7400000) at (begins-short ys two.before (length xs) [] inside) in
    let front : first_line a ≡ line = ap first_line more.rest ∙ first_line-front line beyond free in
    record {
      ended = λ e. first_line-other line beyond free (sym (ap first_line more.rest) ∙ e ∙ more.rest);
      begins = subst (λ text. Begins (xs ++ text ∷ [])) (sym front)
          (begins-front (xs ++ line ∷ []) ys more.later (more.are ∙ sym (append_assoc xs (line ∷ []) more.later)) two.before);
      short = subst (λ text. length text ≤ greatest_line) (sym front) (omega arith);
    }

not-bad : (texts : List (List ℕ)) (rest : List ℕ) → IsWell texts rest → (first_line rest ≡ rest) ⊎ (Begins (texts ++ first_line rest ∷ []) → ⊥) → ⊥
not-bad texts rest well (inl last) = well.ended last
not-bad texts rest well (inr never) = never well.begins

not-long : (texts : List (List ℕ)) (rest : List ℕ) → IsWell texts rest → greatest_line < length (first_line rest) → ⊥
not-long texts rest well long = let short = well.short in omega arith

-- what is left from one line on is one text
same_rest : (bytes : List ℕ) (j k : ℕ) (xs ys : List (List ℕ)) (a b : List ℕ) → IsAtLine bytes j xs a → IsAtLine bytes k ys b → j ≡ k → a ≡ b
same_rest bytes j k xs ys a b one two e =
    let p = one.place in let q = two.place in
    (lines_split xs ys a b (begins-plain xs one.before) (begins-plain ys two.before) (omega arith) (sym one.spelling ∙ two.spelling)).1

bad_once : (bytes : List ℕ) (j k : ℕ) → IsBadLine bytes j → IsBadLine bytes k → j ≡ k
bad_once bytes j k one two = elim (cases_order j k) [
  | inl e ↦ e
  | inr other ↦ elim other [
    | inl lt ↦ absurd (not-bad one.texts one.rest (is_well bytes j k one.texts two.texts one.rest two.rest one.at two.at lt) one.bad)
    | inr gt ↦ absurd (not-bad two.texts two.rest (is_well bytes k j two.texts one.texts two.rest one.rest two.at one.at gt) two.bad)
  ]
]

long_once : (bytes : List ℕ) (j k : ℕ) → IsLongLine bytes j → IsLongLine bytes k → j ≡ k
long_once bytes j k one two = elim (cases_order j k) [
  | inl e ↦ e
  | inr other ↦ elim other [
    | inl lt ↦ absurd (not-long one.texts one.rest (is_well bytes j k one.texts two.texts one.rest two.rest one.at two.at lt) one.long)
    | inr gt ↦ absurd (not-long two.texts two.rest (is_well bytes k j two.texts one.texts two.rest one.rest two.at one.at gt) two.long)
  ]
]

bad_or_long : (bytes : List ℕ) (j k : ℕ) → IsBadLine bytes j → IsLongLine bytes k → ⊥
bad_or_long bytes j k one two = elim (cases_order j k) [
  | inl e ↦
      let same = ap (λ rest. length (first_line rest)) (same_rest bytes j k one.texts two.texts one.rest two.rest one.at two.at e) in
      let short = one.short in let long = two.long in omega arith
  | inr other ↦ elim other [
    | inl lt ↦ not-bad one.texts one.rest (is_well bytes j k one.texts two.texts one.rest two.rest one.at two.at lt) one.bad
    | inr gt ↦ not-long two.texts two.rest (is_well bytes k j two.texts one.texts two.rest one.rest two.at one.at gt) two.long
  ]
]

-- a text is bad or too long at one line at most
pub bad_at_one : AreBadAtOneLine
bad_at_one bytes j k = (bad_once bytes j k, long_once bytes j k, bad_or_long bytes j k)

-- ---- reports

-- at each line of a report there are lines left, or it is the end
end_or_well : (bytes : List ℕ) (h : Head) (lines : List Line) (k : ℕ) (texts : List (List ℕ)) (rest : List ℕ) → IsReport bytes h lines → IsAtLine bytes k texts rest
    → ((rest ≡ []) × (k ≡ 5 + length lines)) ⊎ IsWell texts rest
end_or_well bytes h lines k texts rest report at =
    let whole = report_texts h lines in
    let end = at-end bytes h lines report in
    let long : length whole ≡ length (head_texts h) + length lines = length-append (head_texts h) (map line_text lines) ∙ ap (λ n. length (head_texts h) + n) (length-map lines line_text) in
    elim (cases_order k (length whole + 1)) [
      | inl e ↦ inl (same_rest bytes k (length whole + 1) texts whole rest [] at end e, omega arith)
      | inr other ↦ elim other [
        | inl lt ↦ inr (is_well bytes k (length whole + 1) texts whole rest [] at end lt)
        | inr gt ↦ absurd ((is_well bytes (length whole + 1) k whole texts [] rest end at gt).ended refl)
      ]
    ]

report-not_bad : (bytes : List ℕ) (h : Head) (lines : List Line) (k : ℕ) → IsReport bytes h lines → IsBadLine bytes k → ⊥
report-not_bad bytes h lines k report bad = elim (end_or_well bytes h lines k bad.texts bad.rest report bad.at) [
  | inl ended ↦
      let place = ended.1 in
      let none : length bad.rest ≡ 0 = ap length ended.0 in
      elim bad.due [ inl early ↦ omega arith | inr some ↦ omega arith ]
  | inr well ↦ not-bad bad.texts bad.rest well bad.bad
]

report-not_long : (bytes : List ℕ) (h : Head) (lines : List Line) (k : ℕ) → IsReport bytes h lines → IsLongLine bytes k → ⊥
report-not_long bytes h lines k report bad = elim (end_or_well bytes h lines k bad.texts bad.rest report bad.at) [
  | inl ended ↦
      let none : length (first_line bad.rest) ≡ 0 = ap (λ rest. length (first_line rest)) ended.0 in
      let long = bad.long in omega arith
  | inr well ↦ not-long bad.texts bad.rest well bad.long
]

-- a report is bad or too long at no line
pub reports-not_bad : ReportsAreNotBad
reports-not_bad bytes h lines k report = (report-not_bad bytes h lines k report, report-not_long bytes h lines k report)
