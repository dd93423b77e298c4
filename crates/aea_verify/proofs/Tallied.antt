-- The tally of lines, line by line, and the verdict by it.
use Rattle.std.proofs.Common.{◌≡◌, ℕ, ◌+◌, ◌^◌, ◌<◌, inl, inr, List, [], ◌∷◌, ◌++◌, length, Bool, true, cond, count_by, Option, Some, None, refl, sym, ◌∙◌, ap, arith, append_assoc, length-append}
use Rattle.std.specs.Prelude.{option_map}
use Rattle.std.specs.Option.{option_or}
use Rattle.std.proofs.lemmas.List.{append-nil}
use Rattle.std.proofs.lemmas.List.Sums.{sum_by_push}
use Rattle.aea_lattice.specs.declared.blocks.BlockId.{BlockId}
use Rattle.aea_lattice.specs.declared.grid.Lattice.{Lattice}
use Rattle.aea_lattice.specs.Blocks.{blocks_count, number_of}
use Rattle.aea_lattice.proofs.Numbers.{one_to_three}
use Rattle.aea_walk.specs.Missing.{missing}
use Rattle.aea_report.specs.declared.head.Head.{Head}
use Rattle.aea_report.specs.declared.line.Line.{Line}
use Rattle.aea_report.specs.declared.line.Line.TheVariants.{Peeled, Solved, Lost}
use Rattle.aea_report.specs.Format.{block_in}
use Rattle.aea_report.specs.Fits.{is_peeled, is_solved, is_lost}
use Rattle.aea_reader.specs.Readings.{least_after}
use Rattle.aea_verify.specs.declared.verdict.Why.{Why}
use Rattle.aea_verify.specs.declared.verdict.Why.TheVariants.{OtherArchive, Missing, WrongCount}
use Rattle.aea_verify.specs.declared.tally.Tally.{Tally}
use Rattle.aea_verify.specs.Rules.{unless, line_rules, at_line, rules_from, has_lattice, has_seal, has_counts, first_broken, verdict_by, verdict_of}
use Rattle.aea_verify.specs.Tallies.{rules_to, IsTally, counts_are, broken_by}

-- ---- the first of lists of rules

pub first-append : {A : Type 0} → (xs ys : List (Option A)) → first_broken (xs ++ ys) ≡ option_or (first_broken xs) (first_broken ys)
first-append [] ys = refl
first-append (None ∷ xs) ys = first-append xs ys
first-append (Some x ∷ xs) ys = refl

first_at : (k : ℕ) (rules : List (Option Why)) → first_broken (at_line k rules) ≡ option_map (λ why. (k, why)) (first_broken rules)
first_at k [] = refl
first_at k (None ∷ rules) = first_at k rules
first_at k (Some why ∷ rules) = refl

or_assoc : {A : Type 0} → (a b c : Option A) → option_or (option_or a b) c ≡ option_or a (option_or b c)
or_assoc None b c = refl
or_assoc (Some x) b c = refl

first_of_one : (k : ℕ) (rule : Option Why) → first_broken (at_line k (rule ∷ [])) ≡ option_map (λ why. (k, why)) rule
first_of_one k None = refl
first_of_one k (Some why) = refl

missing_at : (k : ℕ) (m : Option BlockId) → option_map {U = ℕ × Why} (λ why. (k, why)) (option_map Missing m) ≡ option_map {U = ℕ × Why} (λ b. (k, Missing b)) m
missing_at k None = refl
missing_at k (Some b) = refl

-- ---- one line more

to_more : (l : Lattice) (intact : BlockId → Bool) (k least : ℕ) (lines : List Line) (line : Line)
    → rules_to l intact k least (lines ++ line ∷ []) ≡ rules_to l intact k least lines ++ at_line (k + length lines) (line_rules l intact (least_after l least lines) line)
to_more l intact k least [] line =
    let e : k ≡ k + 0 = omega arith in
    append-nil (at_line k (line_rules l intact least line)) ∙ ap (λ j. at_line j (line_rules l intact least line)) e
to_more l intact k least (x ∷ lines) line =
    let next = number_of l (block_in x) + 1 in
    let e : k + 1 + length lines ≡ k + length (x ∷ lines) = omega arith in
    ap (λ rules. at_line k (line_rules l intact least x) ++ rules)
    (to_more l intact (k + 1) next lines line
    ∙ ap (λ j. rules_to l intact (k + 1) next lines ++ at_line j (line_rules l intact (least_after l next lines) line)) e)
    ∙ sym (append_assoc (at_line k (line_rules l intact least x)) (rules_to l intact (k + 1) next lines) (at_line (k + length (x ∷ lines)) (line_rules l intact (least_after l next lines) line)))

from_split : (l : Lattice) (intact : BlockId → Bool) (k least : ℕ) (lines : List Line)
    → rules_from l intact k least lines
    ≡ rules_to l intact k least lines ++ at_line (k + length lines) (option_map Missing (missing l intact (least_after l least lines) (blocks_count l)) ∷ [])
from_split l intact k least [] =
    let e : k ≡ k + 0 = omega arith in ap (λ j. at_line j (option_map Missing (missing l intact least (blocks_count l)) ∷ [])) e
from_split l intact k least (x ∷ lines) =
    let next = number_of l (block_in x) + 1 in
    let e : k + 1 + length lines ≡ k + length (x ∷ lines) = omega arith in
    ap (λ rules. at_line k (line_rules l intact least x) ++ rules)
    (from_split l intact (k + 1) next lines
    ∙ ap (λ j. rules_to l intact (k + 1) next lines ++ at_line j (option_map Missing (missing l intact (least_after l next lines) (blocks_count l)) ∷ [])) e)
    ∙ sym (append_assoc (at_line k (line_rules l intact least x)) (rules_to l intact (k + 1) next lines)
    (at_line (k + length (x ∷ lines)) (option_map Missing (missing l intact (least_after l next lines) (blocks_count l)) ∷ [])))

least_more : (l : Lattice) (least : ℕ) (lines : List Line) (line : Line) → least_after l least (lines ++ line ∷ []) ≡ number_of l (block_in line) + 1
least_more l least [] line = refl
least_more l least (x ∷ lines) line = least_more l (number_of l (block_in x) + 1) lines line

-- the tally with one line more, and these numbers
pub tally-more : (l : Lattice) (intact : BlockId → Bool) (lines : List Line) (line : Line) (t u : Tally) → IsTally l intact lines t
    → u.line ≡ t.line + 1 → u.least ≡ number_of l (block_in line) + 1
    → u.broken ≡ option_or t.broken (option_map (λ why. (t.line, why)) (first_broken (line_rules l intact t.least line)))
    → u.peeled ≡ t.peeled + cond (is_peeled line) 1 0 → u.solved ≡ t.solved + cond (is_solved line) 1 0 → u.lost ≡ t.lost + cond (is_lost line) 1 0
    → IsTally l intact (lines ++ line ∷ []) u
tally-more l intact lines line t u is line_is least_is broken_is peeled_is solved_is lost_is = record {
  line = let at = is.line in let long = length-append lines (line ∷ []) in omega arith;
  least = least_is ∙ sym (least_more l 0 lines line);
  broken =
      broken_is
      ∙ ap (λ o. option_or o (option_map (λ why. (t.line, why)) (first_broken (line_rules l intact t.least line)))) is.broken
      ∙ ap (λ k. option_or (first_broken (rules_to l intact 5 0 lines)) (option_map (λ why. (k, why)) (first_broken (line_rules l intact t.least line)))) is.line
      ∙ ap (λ k. option_or (first_broken (rules_to l intact 5 0 lines)) (option_map (λ why. (5 + length lines, why)) (first_broken (line_rules l intact k line)))) is.least
      ∙ ap (option_or (first_broken (rules_to l intact 5 0 lines))) (sym (first_at (5 + length lines) (line_rules l intact (least_after l 0 lines) line)))
      ∙ sym (first-append (rules_to l intact 5 0 lines) (at_line (5 + length lines) (line_rules l intact (least_after l 0 lines) line)))
      ∙ ap first_broken (sym (to_more l intact 5 0 lines line));
  peeled = peeled_is ∙ ap (λ n. n + cond (is_peeled line) 1 0) is.peeled ∙ sym (sum_by_push (λ x. cond (is_peeled x) 1 0) lines line);
  solved = solved_is ∙ ap (λ n. n + cond (is_solved line) 1 0) is.solved ∙ sym (sum_by_push (λ x. cond (is_solved x) 1 0) lines line);
  lost = lost_is ∙ ap (λ n. n + cond (is_lost line) 1 0) is.lost ∙ sym (sum_by_push (λ x. cond (is_lost x) 1 0) lines line);
}

-- a line is of one kind
pub one-kind : (line : Line) → cond (is_peeled line) 1 0 + cond (is_solved line) 1 0 + cond (is_lost line) 1 0 ≡ 1
one-kind (Peeled b) = refl
one-kind (Solved b) = refl
one-kind (Lost b nodes) = refl

-- ---- the verdict

-- where the rules on the head are kept, the first broken rule is that of the tally
pub tally-broken : (l : Lattice) (seal : List ℕ) (intact : BlockId → Bool) (h : Head) (lines : List Line) (t : Tally) → IsTally l intact lines t
    → has_lattice l h ≡ true → has_seal seal h.seal ≡ true → verdict_of l seal intact h lines ≡ verdict_by (broken_by l intact h t)
tally-broken l seal intact h lines t is lattice sealed =
    let counts = at_line 4 (unless (has_counts h lines) WrongCount ∷ []) in
    let middle = rules_from l intact 5 0 lines in
    let gap = option_map Missing (missing l intact (least_after l 0 lines) (blocks_count l)) in
    ap verdict_by
    (ap (λ b. first_broken (at_line 2 (unless b OtherArchive ∷ []) ++ (at_line 3 (unless (has_seal seal h.seal) OtherArchive ∷ []) ++ (middle ++ counts)))) lattice
    ∙ ap (λ b. first_broken (at_line 3 (unless b OtherArchive ∷ []) ++ (middle ++ counts))) sealed
    ∙ first-append middle counts
    ∙ ap (λ o. option_or o (first_broken counts))
    (ap first_broken (from_split l intact 5 0 lines) ∙ first-append (rules_to l intact 5 0 lines) (at_line (5 + length lines) (gap ∷ [])))
    ∙ or_assoc (first_broken (rules_to l intact 5 0 lines)) (first_broken (at_line (5 + length lines) (gap ∷ []))) (first_broken counts)
    ∙ ap (λ o. option_or (first_broken (rules_to l intact 5 0 lines)) (option_or o (first_broken counts)))
    (first_of_one (5 + length lines) gap ∙ missing_at (5 + length lines) (missing l intact (least_after l 0 lines) (blocks_count l)))
    ∙ ap (λ o. option_or (first_broken (rules_to l intact 5 0 lines)) (option_or (option_map {U = ℕ × Why} (λ b. (5 + length lines, Missing b)) (missing l intact (least_after l 0 lines) (blocks_count l))) o))
    (first_of_one 4 (unless (has_counts h lines) WrongCount))
    ∙ fields l intact h (first_broken (rules_to l intact 5 0 lines)) (5 + length lines) (least_after l 0 lines) (count_by is_peeled lines) (count_by is_solved lines) (count_by is_lost lines)
    t (sym is.broken) (sym is.line) (sym is.least) (sym is.peeled) (sym is.solved) (sym is.lost))
  where
    fields : (l : Lattice) (intact : BlockId → Bool) (h : Head) (broken : Option (ℕ × Why)) (line least peeled solved lost : ℕ) (t : Tally)
        → broken ≡ t.broken → line ≡ t.line → least ≡ t.least → peeled ≡ t.peeled → solved ≡ t.solved → lost ≡ t.lost
        → option_or broken (option_or (option_map {U = ℕ × Why} (λ b. (line, Missing b)) (missing l intact least (blocks_count l))) (option_map {U = ℕ × Why} (λ why. (4, why)) (unless (counts_are h peeled solved lost) WrongCount)))
        ≡ broken_by l intact h t
    fields l intact h broken line least peeled solved lost t a b c d e f = λ i.
        option_or (a i) (option_or (option_map {U = ℕ × Why} (λ x. (b i, Missing x)) (missing l intact (c i) (blocks_count l))) (option_map {U = ℕ × Why} (λ why. (4, why)) (unless (counts_are h (d i) (e i) (f i)) WrongCount)))

-- a lattice has fewer than 2^23 blocks
pub few-blocks : (l : Lattice) → blocks_count l < 2 ^ 23
few-blocks l =
    let range = l.in_range in
    elim (one_to_three l) [
      | inl e ↦ rw e (omega arith)
      | inr more ↦ elim more [ inl e ↦ rw e (omega arith) | inr e ↦ rw e (omega arith) ]
    ]
