-- Each text is a report, or bad at a line, or too long at one: it is judged line by line.
use Rattle.std.proofs.Common.{◌≡◌, ℕ, suc, zero, ◌+◌, ◌-◌, ◌<◌, ◌≤◌, ◌⊎◌, inl, inr, List, [], ◌∷◌, ◌++◌, length, take, append_assoc, length-append, arith, refl, sym, ◌∙◌, ap, None}
use Rattle.std.specs.Prelude.{map}
use Rattle.std.proofs.lemmas.Bool.{cases_lt}
use Rattle.std.proofs.lemmas.List.{append-nil, take-append-le, take-map, take_all, map_push, nil_from_length}
use Rattle.std.proofs.lemmas.List.Concat.{flat_map-append}
use Rattle.aea_lattice.specs.declared.grid.Lattice.{Lattice}
use Rattle.aea_report.specs.declared.head.Head.{Head}
use Rattle.aea_report.specs.declared.line.Line.{Line}
use Rattle.aea_report.specs.Format.{newline, joined, head_texts, line_text, report_texts}
use Rattle.aea_report.specs.Grammar.{IsHeadOf, AreLines}
use Rattle.aea_report.specs.Faults.{first_line, greatest_line, Begins, IsAtLine, IsDue, IsBadLine, IsLongLine}
use Rattle.aea_report.specs.Laws.{AreReport, AreReportOrBad}
use Rattle.aea_report.proofs.Splits.{line_cases}
use Rattle.aea_report.proofs.Readings.{head_same}
use Rattle.aea_report.proofs.Decisions.{Decided, decide_as, same_texts}
use Rattle.aea_report.proofs.Heads.{SomeHead, decide_head}
use Rattle.aea_report.proofs.Lines.{HasLine, decide_line}
use Rattle.aea_report.proofs.Following.{least_after, lines-first, lines-more, lines_in, next_line}

-- ---- beginnings

-- The lines before some place are a whole report.
record IsWhole (texts : List (List ℕ)) : Type 0 where
  pub lattice : Lattice
  pub head : Head
  pub is_head : IsHeadOf lattice head
  pub lines : List Line
  pub valid : AreLines lattice lines
  pub are : texts ≡ report_texts head lines

-- four lines and more that begin a report are one
is_whole : (k : ℕ) (texts : List (List ℕ)) → length texts ≡ suc (suc (suc (suc k))) → Begins texts → IsWhole texts
is_whole k texts long begins = record {
  lattice = begins.lattice;
  head = begins.head;
  is_head = begins.is_head;
  lines = take k begins.lines;
  valid = lines-first begins.lattice 0 k begins.lines begins.valid;
  are =
      sym begins.first
      ∙ ap (λ j. take j (report_texts begins.head begins.lines)) long
      ∙ ap (λ rest. head_texts begins.head ++ rest) (take-map line_text k begins.lines);
}

whole_from : (texts : List (List ℕ)) → 4 ≤ length texts → Begins texts → IsWhole texts
whole_from texts long begins = let e : length texts ≡ suc (suc (suc (suc (length texts - 4)))) = omega arith in is_whole (length texts - 4) texts e begins

begins_from : (texts : List (List ℕ)) → IsWhole texts → Begins texts
begins_from texts whole = record {
  lattice = whole.lattice;
  head = whole.head;
  is_head = whole.is_head;
  lines = whole.lines;
  valid = whole.valid;
  first = ap (take (length texts)) (sym whole.are) ∙ take_all (length texts) texts (omega arith);
}

-- whether some report begins with these lines of a head
decide_few : (texts : List (List ℕ)) → length texts ≤ 4 → Decided (Begins texts)
decide_few texts few =
    decide_as {P = SomeHead (λ h. take (length texts) (head_texts h) ≡ texts)}
    (λ some. record {
      lattice = some.1;
      head = some.0;
      is_head = some.2;
      lines = [];
      valid = tt;
      first = some.3;
    })
    (λ begins. (
      begins.head,
      begins.lattice,
      begins.is_head,
      sym (take-append-le (length texts) (head_texts begins.head) (map line_text begins.lines) (omega arith)) ∙ begins.first,
    ))
    (decide_head (λ h. take (length texts) (head_texts h) ≡ texts) (λ h. same_texts (take (length texts) (head_texts h)) texts))

-- whether some report begins with a whole one and a line more
decide_more : (texts : List (List ℕ)) (text : List ℕ) → IsWhole texts → Decided (IsWhole (texts ++ text ∷ []))
decide_more texts text whole =
    let l = whole.lattice in
    let h = whole.head in
    let lines = whole.lines in
    decide_as {P = HasLine l (least_after l 0 lines) text}
    (λ has. record {
      lattice = l;
      head = h;
      is_head = whole.is_head;
      lines = lines ++ has.0 ∷ [];
      valid = lines-more l 0 lines has.0 whole.valid has.1;
      are =
          ap (λ xs. xs ++ text ∷ []) whole.are
          ∙ append_assoc (head_texts h) (map line_text lines) (text ∷ [])
          ∙ ap (λ t. head_texts h ++ (map line_text lines ++ t ∷ [])) has.2
          ∙ ap (λ xs. head_texts h ++ xs) (sym (map_push line_text lines has.0));
    })
    (λ more.
    let m = more.lattice in
    let parts = head_same l m h more.head whole.is_head more.is_head (map line_text lines ++ text ∷ []) (map line_text more.lines)
    (sym (append_assoc (head_texts h) (map line_text lines) (text ∷ [])) ∙ ap (λ xs. xs ++ text ∷ []) (sym whole.are) ∙ more.are) in
    let alpha : m.alpha ≡ l.alpha = sym more.is_head.alpha ∙ ap (λ g. g.alpha) (sym parts.0) ∙ whole.is_head.alpha in
    let n : m.n ≡ l.n = sym more.is_head.n ∙ ap (λ g. g.n) (sym parts.0) ∙ whole.is_head.n in
    next_line l 0 lines more.lines text whole.valid (lines_in l m alpha n 0 more.lines more.valid) parts.1)
    (decide_line l (least_after l 0 lines) text)

-- whether some report begins with these lines and one more
decide_next : (texts : List (List ℕ)) (text : List ℕ) → Begins texts → Decided (Begins (texts ++ text ∷ []))
decide_next texts text begins =
    let long : length (texts ++ text ∷ []) ≡ length texts + 1 = length-append texts (text ∷ []) in
    elim (cases_lt (length texts) 4) [
      | inl few ↦ decide_few (texts ++ text ∷ []) (omega arith)
      | inr many ↦
          decide_as (begins_from (texts ++ text ∷ [])) (whole_from (texts ++ text ∷ []) (omega arith)) (decide_more texts text (whole_from texts many begins))
    ]

-- ---- the judgement

-- what is said of a text
abbrev Judged : List ℕ → Type 0
Judged bytes = AreReport bytes ⊎ ((k : ℕ) × (IsBadLine bytes k ⊎ IsLongLine bytes k))

-- the place is a later line, and less of the text is left
record IsFurther (bytes rest : List ℕ) : Type 0 where
  pub k : ℕ
  pub texts : List (List ℕ)
  pub left : List ℕ
  pub at : IsAtLine bytes k texts left
  pub fewer : length left < length rest

-- at the end, after a whole report, the text is that report
ended : (bytes : List ℕ) (k : ℕ) (texts : List (List ℕ)) (rest : List ℕ) → IsAtLine bytes k texts rest → 4 < k → rest ≡ [] → AreReport bytes
ended bytes k texts rest at late none =
    let place = at.place in
    let whole = whole_from texts (omega arith) at.before in (
      whole.head,
      whole.lines,
      record {
        lattice = whole.lattice;
        head = whole.is_head;
        valid = whole.valid;
        spelling = at.spelling ∙ ap (λ xs. joined texts ++ xs) none ∙ append-nil (joined texts) ∙ ap joined whole.are;
      },
    )

-- after a line that is well, the place is the next line
further : (bytes : List ℕ) (k : ℕ) (texts : List (List ℕ)) (rest left : List ℕ) → IsAtLine bytes k texts rest → rest ≡ first_line rest ++ 10 ∷ left → Begins (texts ++ first_line rest ∷ []) → IsFurther bytes rest
further bytes k texts rest left at split begins =
    let place = at.place in
    let text = first_line rest in
    let one_more : joined (texts ++ text ∷ []) ≡ joined texts ++ (text ++ newline) = flat_map-append (λ t. t ++ newline) texts (text ∷ []) ∙ ap (λ xs. joined texts ++ xs) (append-nil (text ++ newline)) in
    record {
      k = k + 1;
      texts = texts ++ text ∷ [];
      left = left;
      at = record {
        before = begins;
        spelling =
            at.spelling
            ∙ ap (λ xs. joined texts ++ xs) (split ∙ sym (append_assoc text newline left))
            ∙ sym (append_assoc (joined texts) (text ++ newline) left)
            ∙ ap (λ xs. xs ++ left) (sym one_more);
        place = omega (arith, length-append texts (text ∷ []));
      };
      fewer = omega (arith, ap length split ∙ length-append text (10 ∷ left));
    }

-- a line that has to be there is bad, or too long, or well
judge_line : (bytes : List ℕ) (k : ℕ) (texts : List (List ℕ)) (rest : List ℕ) → IsAtLine bytes k texts rest → IsDue k rest → Judged bytes ⊎ IsFurther bytes rest
judge_line bytes k texts rest at due = elim (cases_lt greatest_line (length (first_line rest))) [
  | inl long ↦ inl (inr (k, inr (record { texts = texts; rest = rest; at = at; long = long })))
  | inr short ↦ elim (line_cases rest) [
    | inl last ↦ inl (inr (k, inl (record { texts = texts; rest = rest; at = at; due = due; short = short; bad = inl last })))
    | inr split ↦ elim (decide_next texts (first_line rest) at.before) [
      | inl begins ↦ inr (further bytes k texts rest split.0 at split.1 begins)
      | inr never ↦ inl (inr (k, inl (record { texts = texts; rest = rest; at = at; due = due; short = short; bad = inr never })))
    ]
  ]
]

judge_at : (bytes : List ℕ) (k : ℕ) (texts : List (List ℕ)) (rest : List ℕ) → IsAtLine bytes k texts rest → Judged bytes ⊎ IsFurther bytes rest
judge_at bytes k texts rest at = elim (cases_lt 4 k) [
  | inr early ↦ judge_line bytes k texts rest at (inl early)
  | inl late ↦ elim (cases_lt 0 (length rest)) [
    | inl some ↦ judge_line bytes k texts rest at (inr some)
    | inr none ↦ inl (inl (ended bytes k texts rest at late (nil_from_length rest (omega arith))))
  ]
]

-- line by line; of the text fewer bytes are left than this
judge_from : (bytes : List ℕ) (fuel k : ℕ) (texts : List (List ℕ)) (rest : List ℕ) → length rest < fuel → IsAtLine bytes k texts rest → Judged bytes
judge_from bytes zero k texts rest few at = absurd (omega arith)
judge_from bytes (suc fuel) k texts rest few at = elim (judge_at bytes k texts rest at) [
  | inl judged ↦ judged
  | inr more ↦ let fewer = more.fewer in judge_from bytes fuel more.k more.texts more.left (omega arith) more.at
]

-- a lattice without nodes, and a head of it: some report begins with no lines
abbrev smallest : Lattice
smallest = record { alpha = 1; s = 1; p = 0; n = 0; fences = []; in_profile = refl; in_range = omega arith; fenced = refl }

abbrev smallest_head : Head
smallest_head = record { alpha = 1; s = 1; p = 0; n = 0; seal = None; damaged = 0; peeled = 0; solved = 0; lost = 0 }

begins_none : Begins []
begins_none = record {
  lattice = smallest;
  head = smallest_head;
  is_head = record { alpha = refl; s = refl; p = refl; n = refl; seal = tt; damaged = omega arith; peeled = omega arith; solved = omega arith; lost = omega arith };
  lines = [];
  valid = tt;
  first = refl;
}

-- each text is a report, or bad at a line, or too long at one
pub each-judged : AreReportOrBad
each-judged bytes = judge_from bytes (suc (length bytes)) 1 [] bytes (omega arith) (record { before = begins_none; spelling = refl; place = omega arith })
