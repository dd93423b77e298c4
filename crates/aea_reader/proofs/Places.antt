-- Where a reader is in its input, line by line.
use Rattle.std.proofs.Common.{◌≡◌, ℕ, suc, ◌+◌, ◌<◌, ◌≤◌, inl, inr, List, [], ◌∷◌, ◌++◌, length, get_or, Option, Some, None, append_assoc, length-append, arith, refl, sym, ◌∙◌, ap, subst}
use Rattle.std.specs.Prelude.{◌==◌}
use Rattle.std.specs.List.{position_or_len}
use Rattle.std.specs.Io.KnownBytes.{Consumes, IsAtEnd}
use Rattle.std.proofs.lemmas.Bool.{cases_lt, eqb-true}
use Rattle.std.proofs.lemmas.List.{append-nil, length-take, get_or_append_left, get_or_at, nil_from_length}
use Rattle.std.proofs.lemmas.List.Concat.{flat_map-append}
use Rattle.std.proofs.lemmas.List.Sums.{passes_at_first}
use Rattle.aea_report.specs.Format.{newline, joined}
use Rattle.aea_report.specs.Faults.{first_line, greatest_line, Begins, IsAtLine, IsBadLine, IsLongLine}
use Rattle.aea_reader.proofs.Cuts.{first_line-front, line_cases}
use Rattle.aea_reader.specs.Words.{IsFree}
use Rattle.aea_reader.specs.Pieces.{Gathers}
use Rattle.aea_reader.specs.Places.{Stands, IsAt, HasText, IsStopped}

-- ---- what the source has left

-- what a source whose bytes are known has left, after those that were taken
pub record HasLeft (new : Option (List ℕ)) (bytes rest : List ℕ) : Type 0 where
  pub after : List ℕ
  pub revealed : new ≡ Some after
  pub are : rest ≡ bytes ++ after

left_of : (new : Option (List ℕ)) (rest taken : List ℕ) → Consumes (Some rest) new taken → HasLeft new taken rest
left_of None rest taken h = absurd h
left_of (Some after) rest taken h = record { after = after; revealed = refl; are = h }

-- after what was gathered
pub has_left : (ahead : List ℕ) (old new : Option (List ℕ)) (bytes rest : List ℕ) → Stands ahead old rest → Gathers ahead old new bytes → HasLeft new bytes rest
has_left ahead old new bytes rest stands g =
    let left = left_of new stands.rest g.taken (subst (λ o. Consumes o new g.taken) stands.revealed g.consumed) in
    record {
      after = left.after;
      revealed = left.revealed;
      are =
          stands.are
          ∙ ap (λ xs. ahead ++ xs) left.are
          ∙ sym (append_assoc ahead g.taken left.after)
          ∙ ap (λ xs. xs ++ left.after) g.are;
    }

ended : (new : Option (List ℕ)) (after : List ℕ) → new ≡ Some after → IsAtEnd new → after ≡ []
ended new after revealed end = subst IsAtEnd revealed end

-- ---- first lines

-- a text without a newline is its first line
plain-first : (line : List ℕ) → IsFree 10 line → first_line line ≡ line
plain-first line plain = elim (line_cases line) [
  | inl e ↦ e
  | inr split ↦
      let front = first_line line in
      let long : length line ≡ length front + suc (length split.0) = ap length split.1 ∙ length-append front (10 ∷ split.0) in
      let inside : length front < length line = omega arith in
      let ten : get_or line (length front) 0 ≡ 10 = ap (λ xs. get_or xs (length front) 0) split.1 ∙ get_or_at front 10 split.0 0 (length front) refl in
      absurd (plain (length front) 0 inside ten)
]

-- a plain front is no longer than the first line
first_line-longer : (front rest : List ℕ) → IsFree 10 front → length front ≤ length (first_line (front ++ rest))
first_line-longer front rest plain =
    let at = position_or_len (λ x. x == 10) (front ++ rest) in
    elim (cases_lt (position_or_len (λ x. x == 10) (front ++ rest)) (length front)) [
      | inl lt ↦
          let inside : at < length (front ++ rest) = omega (arith, length-append front rest) in
          absurd (plain at 0 lt (sym (get_or_append_left front rest 0 at lt) ∙ eqb-true (get_or (front ++ rest) at 0) 10 (passes_at_first (λ x. x == 10) (front ++ rest) 0 inside)))
      | inr le ↦ omega (arith, length-take at (front ++ rest), length-append front rest)
    ]

-- ---- one line

-- the place is the same line, whose text is this too
at_as : (input : List ℕ) (k : ℕ) (texts : List (List ℕ)) (rest other : List ℕ) → rest ≡ other → IsAtLine input k texts rest → IsAtLine input k texts other
at_as input k texts rest other e at = record { before = at.before; spelling = at.spelling ∙ ap (λ xs. joined texts ++ xs) e; place = at.place }

-- the line has a newline
pub text_found : (input : List ℕ) (k : ℕ) (texts : List (List ℕ)) (ahead line after : List ℕ) (old new : Option (List ℕ)) → IsAt input k texts ahead old
    → Gathers ahead old new (line ++ 10 ∷ after) → IsFree 10 line → length line ≤ greatest_line → HasText input k texts line after new
text_found input k texts ahead line after old new here g plain short =
    let left = has_left ahead old new (line ++ 10 ∷ after) here.rest here.stands g in
    record {
      rest = after ++ left.after;
      at = at_as input k texts here.rest (line ++ 10 ∷ (after ++ left.after)) (left.are ∙ append_assoc line (10 ∷ after) left.after) here.at;
      plain = plain;
      short = short;
      stands = record { rest = left.after; revealed = left.revealed; are = refl };
    }

-- what is left has no newline
last_rest : (ahead line : List ℕ) (old new : Option (List ℕ)) (rest : List ℕ) → Stands ahead old rest → Gathers ahead old new line → IsAtEnd new → (rest ≡ line) × (new ≡ Some [])
last_rest ahead line old new rest stands g end =
    let left = has_left ahead old new line rest stands g in
    let none : left.after ≡ [] = ended new left.after left.revealed end in
    (left.are ∙ ap (λ xs. line ++ xs) none ∙ append-nil line, left.revealed ∙ ap Some none)

-- nothing is left
pub none_found : (input : List ℕ) (k : ℕ) (texts : List (List ℕ)) (ahead line : List ℕ) (old new : Option (List ℕ)) → IsAt input k texts ahead old → Gathers ahead old new line → IsAtEnd new
    → length line ≡ 0 → IsAtLine input k texts [] × (new ≡ Some [])
none_found input k texts ahead line old new here g end none =
    let last = last_rest ahead line old new here.rest here.stands g end in
    (at_as input k texts here.rest [] (last.0 ∙ nil_from_length line none) here.at, last.1)

-- the last line has no newline
pub last_bad : (input : List ℕ) (k : ℕ) (texts : List (List ℕ)) (ahead line : List ℕ) (old new : Option (List ℕ)) → IsAt input k texts ahead old → Gathers ahead old new line → IsAtEnd new
    → IsFree 10 line → length line ≤ greatest_line → 0 < length line → IsBadLine input k
last_bad input k texts ahead line old new here g end plain short some =
    let last = last_rest ahead line old new here.rest here.stands g end in
    let first = plain-first line plain in
    record {
      texts = texts;
      rest = line;
      at = at_as input k texts here.rest line last.0 here.at;
      due = inr some;
      short = omega (arith, ap length first);
      bad = inl first;
    }

-- the line is too long
pub stopped : (input : List ℕ) (k : ℕ) (texts : List (List ℕ)) (ahead line : List ℕ) (old new : Option (List ℕ)) → IsAt input k texts ahead old → Gathers ahead old new line
    → IsFree 10 line → length line ≡ greatest_line + 1 → IsLongLine input k × IsStopped input k new
stopped input k texts ahead line old new here g plain long =
    let left = has_left ahead old new line here.rest here.stands g in
    let at = at_as input k texts here.rest (line ++ left.after) left.are here.at in
    let first = first_line-longer line left.after plain in (
      record { texts = texts; rest = line ++ left.after; at = at; long = omega arith },
      record { texts = texts; line = line; rest = left.after; at = at; plain = plain; long = long; revealed = left.revealed },
    )

-- a line of a head is missing
pub none_bad : (input : List ℕ) (k : ℕ) (texts : List (List ℕ)) → k ≤ 4 → IsAtLine input k texts [] → IsBadLine input k
none_bad input k texts early at = record { texts = texts; rest = []; at = at; due = inl early; short = omega arith; bad = inl refl }

-- no report begins with the line
pub text_bad : (input : List ℕ) (k : ℕ) (texts : List (List ℕ)) (text ahead : List ℕ) (left : Option (List ℕ)) → HasText input k texts text ahead left → (Begins (texts ++ text ∷ []) → ⊥) → IsBadLine input k
text_bad input k texts text ahead left has never =
    let rest = text ++ 10 ∷ has.rest in
    let front = first_line-front text has.rest has.plain in
    let short = has.short in
    record {
      texts = texts;
      rest = rest;
      at = has.at;
      due = inr (omega (arith, length-append text (10 ∷ has.rest)));
      short = omega (arith, ap length front);
      bad = inr (λ begins. never (subst (λ t. Begins (texts ++ t ∷ [])) front begins));
    }

-- some report begins with it, and the next line follows
pub text_well : (input : List ℕ) (k : ℕ) (texts : List (List ℕ)) (text ahead : List ℕ) (left : Option (List ℕ)) → HasText input k texts text ahead left → Begins (texts ++ text ∷ [])
    → IsAt input (k + 1) (texts ++ text ∷ []) ahead left
text_well input k texts text ahead left has begins =
    let place = has.at.place in
    let one_more : joined (texts ++ text ∷ []) ≡ joined texts ++ (text ++ newline) = flat_map-append (λ t. t ++ newline) texts (text ∷ []) ∙ ap (λ xs. joined texts ++ xs) (append-nil (text ++ newline)) in
    record {
      rest = has.rest;
      at = record {
        before = begins;
        spelling =
            has.at.spelling
            ∙ ap (λ xs. joined texts ++ xs) (sym (append_assoc text newline has.rest))
            ∙ sym (append_assoc (joined texts) (text ++ newline) has.rest)
            ∙ ap (λ xs. xs ++ has.rest) (sym one_more);
        place = omega (arith, length-append texts (text ∷ []));
      };
      stands = has.stands;
    }
