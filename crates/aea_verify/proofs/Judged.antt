-- No rule is broken exactly where the report fits.
use Rattle.std.proofs.Common.{◌≡◌, ℕ, zero, suc, ◌+◌, ◌<◌, ◌≤◌, inl, inr, List, [], ◌∷◌, ◌++◌, map, length, get_or, Bool, true, false, cond, Some, None, Option, arith, refl, sym, ◌∙◌, ap, subst}
use Rattle.std.specs.Prelude.{◌==◌, ◌&&◌, nat_le, nat_lt, not, All, Contains, find, count_by, option_map}
use Rattle.std.proofs.lemmas.Slice.Eq.{bytes_eq-Decides}
use Rattle.std.proofs.lemmas.Bool.{cases_lt, false_from_ne_true}
use Rattle.std.proofs.lemmas.Bool.Decides.{nat_tests}
use Rattle.std.proofs.lemmas.List.Elements.{All-cons, All-head, All-tail, All-nil, All-contains}
use Rattle.std.proofs.lemmas.Option.{slice_get_within, get_or_from_slice_get}
use Rattle.aea_lattice.specs.declared.blocks.BlockId.{BlockId}
use Rattle.aea_lattice.specs.declared.grid.Lattice.{Lattice}
use Rattle.aea_lattice.specs.Blocks.{HasBlock, blocks_of, blocks_count, number_of}
use Rattle.aea_lattice.specs.Facts.{Misses}
use Rattle.aea_lattice.proofs.Among.{blocks-inside}
use Rattle.aea_lattice.proofs.Equations.{number_below, number_equal}
use Rattle.aea_lattice.proofs.Numbers.{slice_get-blocks_of}
use Rattle.aea_report.specs.declared.head.Head.{Head}
use Rattle.aea_report.specs.declared.line.Line.{Line}
use Rattle.aea_report.specs.declared.line.Line.TheVariants.{Peeled, Solved, Lost}
use Rattle.aea_report.specs.Format.{block_in}
use Rattle.aea_report.specs.Grammar.{AreLinesFrom}
use Rattle.aea_lattice.specs.Equations.{is_in_codeword}
use Rattle.aea_lattice.specs.Lists.{has_node}
use Rattle.aea_report.specs.Fits.{is_peeled, is_solved, is_lost, AreCounted, IsRevealed, Fits}
use Rattle.aea_verify.specs.declared.verdict.Why.{Why}
use Rattle.aea_verify.specs.declared.verdict.Why.TheVariants.{OtherArchive, StillBad, NotDamaged, WordMisses, WordTouches, Missing, WrongCount}
use Rattle.aea_verify.specs.declared.verdict.Verdict.TheVariants.{Accepted, Rejected}
use Rattle.aea_walk.specs.Codewords.{touched}
use Rattle.aea_walk.specs.Missing.{missing}
use Rattle.aea_verify.specs.Rules.{unless, kind_rules, line_rules, at_line, rules_from, has_lattice, has_seal, has_counts, rules, first_broken, verdict_by}
use Rattle.aea_verify.specs.Shown.{AcceptedAreFitting}

-- ---- rules of which none is broken

abbrev Kept : List (Option (ℕ × Why)) → Type 0
Kept rules = first_broken rules ≡ None

some_none : {A : Type 0} (x : A) → Some x ≡ None → ⊥
some_none x e = cc

kept_left : (xs ys : List (Option (ℕ × Why))) → Kept (xs ++ ys) → Kept xs
kept_left [] ys h = refl
kept_left (None ∷ xs) ys h = kept_left xs ys h
kept_left (Some x ∷ xs) ys h = absurd (some_none x h)

kept_right : (xs ys : List (Option (ℕ × Why))) → Kept (xs ++ ys) → Kept ys
kept_right [] ys h = h
kept_right (None ∷ xs) ys h = kept_right xs ys h
kept_right (Some x ∷ xs) ys h = absurd (some_none x h)

kept_both : (xs ys : List (Option (ℕ × Why))) → Kept xs → Kept ys → Kept (xs ++ ys)
kept_both [] ys one two = two
kept_both (None ∷ xs) ys one two = kept_both xs ys one two
kept_both (Some x ∷ xs) ys one two = absurd (some_none x one)

-- the rules at one line
abbrev AreKept : List (Option Why) → Type 0
AreKept [] = Unit {0}
AreKept (rule ∷ rules) = (rule ≡ None) × AreKept rules

at_kept : (k : ℕ) (rules : List (Option Why)) → Kept (at_line k rules) → AreKept rules
at_kept k [] h = tt
at_kept k (None ∷ rules) h = (refl, at_kept k rules h)
at_kept k (Some why ∷ rules) h = absurd (some_none (k, why) h)

kept_at : (k : ℕ) (rules : List (Option Why)) → AreKept rules → Kept (at_line k rules)
kept_at k [] h = refl
kept_at k (None ∷ rules) h = kept_at k rules h.1
kept_at k (Some why ∷ rules) h = absurd (some_none why h.0)

unless_none : (b : Bool) (why : Why) → unless b why ≡ None → b ≡ true
unless_none true why h = refl
unless_none false why h = absurd (some_none why h)

none_unless : (b : Bool) (why : Why) → b ≡ true → unless b why ≡ None
none_unless b why h = rw h

map_none : {A : Type 0} (f : A → Why) (x : Option A) → option_map f x ≡ None → x ≡ None
map_none f None h = refl
map_none f (Some a) h = absurd (some_none (f a) h)

-- ---- tests

and_first : (a b : Bool) → (a && b) ≡ true → a ≡ true
and_first true b h = refl
and_first false b h = h

and_second : (a b : Bool) → (a && b) ≡ true → b ≡ true
and_second true b h = h
and_second false b h = let e : false ≡ true = h in cc

and_both : (a b : Bool) → a ≡ true → b ≡ true → (a && b) ≡ true
and_both a b one two = rw (one, two)

same_number : (m n : ℕ) → (m == n) ≡ true → m ≡ n
same_number m n h = grind (arith, nat_tests)

number_same : (m n : ℕ) → m ≡ n → (m == n) ≡ true
number_same m n h = grind (arith, nat_tests)

le_true : (m n : ℕ) → m ≤ n → nat_le m n ≡ true
le_true m n h = grind (arith, nat_tests)

lt_true : (m n : ℕ) → m < n → nat_lt m n ≡ true
lt_true m n h = grind (arith, nat_tests)

le_from : (m n : ℕ) → nat_le m n ≡ true → m ≤ n
le_from m n h = grind (arith, nat_tests)

lt_from : (m n : ℕ) → nat_lt m n ≡ true → m < n
lt_from m n h = grind (arith, nat_tests)

not_true : (b : Bool) → not b ≡ true → b ≡ false
not_true true h = let e : false ≡ true = h in cc
not_true false h = refl

true_false : true ≡ false → ⊥
true_false e = cc

found_none : {X : Type 0} (p : X → Bool) (x : X) (xs : List X) (b : Bool) → p x ≡ b → cond b (Some x) (find p xs) ≡ None → (find p xs ≡ None → All (λ y. p y ≡ false) xs) → All (λ y. p y ≡ false) (x ∷ xs)
found_none p x xs true e h rest = absurd (some_none x h)
found_none p x xs false e h rest = All-cons (λ y. p y ≡ false) x xs e (rest h)

find_none : {X : Type 0} (p : X → Bool) (xs : List X) → find p xs ≡ None → All (λ x. p x ≡ false) xs
find_none p [] h = All-nil (λ x. p x ≡ false)
find_none p (x ∷ xs) h = found_none p x xs (p x) refl h (find_none p xs)

none_find : {X : Type 0} (p : X → Bool) (xs : List X) → All (λ x. p x ≡ false) xs → find p xs ≡ None
none_find p [] all = refl
none_find p (x ∷ xs) all =
    let e : p x ≡ false = All-head (λ y. p y ≡ false) x xs all in
    rw e (none_find p xs (All-tail (λ y. p y ≡ false) x xs all))

-- ---- the blocks of a lattice

has_place : (l : Lattice) (b : BlockId) → HasBlock l b → Contains (blocks_of l) b
has_place l b has =
    let here = slice_get-blocks_of l b has in
    (number_of l b, slice_get_within (blocks_of l) (number_of l b) b here, get_or_from_slice_get (blocks_of l) (number_of l b) b b here)

-- what no block passes
none_passes : (l : Lattice) (p : BlockId → Bool) → find p (blocks_of l) ≡ None → (b : BlockId) → HasBlock l b → p b ≡ false
none_passes l p h b has = All-contains (λ d. p d ≡ false) (blocks_of l) b (find_none p (blocks_of l) h) (has_place l b has)

passes_none : (l : Lattice) (p : BlockId → Bool) → ((b : BlockId) → HasBlock l b → p b ≡ false) → find p (blocks_of l) ≡ None
passes_none l p none = none_find p (blocks_of l) (λ k d lt. none (get_or (blocks_of l) k d) (blocks-inside l k d lt))

-- no damaged block is missing between two numbers
not_missing : (l : Lattice) (intact : BlockId → Bool) (least next : ℕ) → missing l intact least next ≡ None → (b : BlockId) → HasBlock l b → intact b ≡ false → least ≤ number_of l b → number_of l b < next → ⊥
not_missing l intact least next h b has damaged low high =
    let none = none_passes l (λ d. not (intact d) && (nat_le least (number_of l d) && nat_lt (number_of l d) next)) h b has in
    true_false
    (sym (and_both (not (intact b)) (nat_le least (number_of l b) && nat_lt (number_of l b) next) (ap not damaged)
    (and_both (nat_le least (number_of l b)) (nat_lt (number_of l b) next) (le_true least (number_of l b) low) (lt_true (number_of l b) next high)))
    ∙ none)

none_missing : (l : Lattice) (intact : BlockId → Bool) (least next : ℕ) → ((b : BlockId) → HasBlock l b → intact b ≡ false → least ≤ number_of l b → number_of l b < next → ⊥) → missing l intact least next ≡ None
none_missing l intact least next never =
    passes_none l (λ d. not (intact d) && (nat_le least (number_of l d) && nat_lt (number_of l d) next))
    (λ b has. false_from_ne_true (not (intact b) && (nat_le least (number_of l b) && nat_lt (number_of l b) next))
    (λ t.
    let within = and_second (not (intact b)) (nat_le least (number_of l b) && nat_lt (number_of l b) next) t in
    never b has (not_true (intact b) (and_first (not (intact b)) (nat_le least (number_of l b) && nat_lt (number_of l b) next) t))
    (le_from least (number_of l b) (and_first (nat_le least (number_of l b)) (nat_lt (number_of l b) next) within))
    (lt_from (number_of l b) next (and_second (nat_le least (number_of l b)) (nat_lt (number_of l b) next) within))))

-- the codeword of these nodes contains no intact block
misses_from : (l : Lattice) (intact : BlockId → Bool) (nodes : List ℕ) → touched l intact nodes ≡ None → Misses l intact (has_node nodes)
misses_from l intact nodes h d has t =
    let none = none_passes l (λ b. intact b && is_in_codeword l (has_node nodes) b) h d has in
    false_from_ne_true (is_in_codeword l (has_node nodes) d) (λ w. true_false (sym (and_both (intact d) (is_in_codeword l (has_node nodes) d) t w) ∙ none))

from_misses : (l : Lattice) (intact : BlockId → Bool) (nodes : List ℕ) → Misses l intact (has_node nodes) → touched l intact nodes ≡ None
from_misses l intact nodes misses =
    passes_none l (λ b. intact b && is_in_codeword l (has_node nodes) b)
    (λ d has. false_from_ne_true (intact d && is_in_codeword l (has_node nodes) d)
    (λ t. true_false (sym (and_second (intact d) (is_in_codeword l (has_node nodes) d) t) ∙ misses d has (and_first (intact d) (is_in_codeword l (has_node nodes) d) t))))

-- ---- a line

revealed_from : (l : Lattice) (intact : BlockId → Bool) (line : Line) → AreKept (kind_rules l intact line) → IsRevealed l intact line
revealed_from l intact (Peeled b) h = unless_none (intact b) (StillBad b) h.0
revealed_from l intact (Solved b) h = unless_none (intact b) (StillBad b) h.0
revealed_from l intact (Lost b nodes) h = record {
  damaged = not_true (intact b) (unless_none (not (intact b)) (NotDamaged b) h.0);
  contains = unless_none (is_in_codeword l (has_node nodes) b) (WordMisses b) h.1.0;
  misses = misses_from l intact nodes (map_none WordTouches (touched l intact nodes) h.1.1.0);
}

from_revealed : (l : Lattice) (intact : BlockId → Bool) (line : Line) → IsRevealed l intact line → AreKept (kind_rules l intact line)
from_revealed l intact (Peeled b) h = (none_unless (intact b) (StillBad b) h, tt)
from_revealed l intact (Solved b) h = (none_unless (intact b) (StillBad b) h, tt)
from_revealed l intact (Lost b nodes) h = (
  none_unless (not (intact b)) (NotDamaged b) (ap not h.damaged),
  (
    none_unless (is_in_codeword l (has_node nodes) b) (WordMisses b) h.contains,
    (ap (option_map WordTouches) (from_misses l intact nodes h.misses), tt),
  ),
)

-- ---- lines

all_revealed : (l : Lattice) (intact : BlockId → Bool) (k least : ℕ) (lines : List Line) → Kept (rules_from l intact k least lines) → All (IsRevealed l intact) lines
all_revealed l intact k least [] h = All-nil (IsRevealed l intact)
all_revealed l intact k least (line ∷ lines) h =
    let here = at_kept k (line_rules l intact least line) (kept_left (at_line k (line_rules l intact least line)) (rules_from l intact (k + 1) (number_of l (block_in line) + 1) lines) h) in
    All-cons (IsRevealed l intact) line lines (revealed_from l intact line here.1)
    (all_revealed l intact (k + 1) (number_of l (block_in line) + 1) lines
    (kept_right (at_line k (line_rules l intact least line)) (rules_from l intact (k + 1) (number_of l (block_in line) + 1) lines) h))

contains_more : {X : Type 0} (y : X) (ys : List X) (x : X) → Contains ys x → Contains (y ∷ ys) x
contains_more y ys x has = (suc has.0, omega (arith, has.1), has.2)

covered : (l : Lattice) (intact : BlockId → Bool) (k least : ℕ) (lines : List Line) → AreLinesFrom l least lines → Kept (rules_from l intact k least lines)
    → (b : BlockId) → HasBlock l b → intact b ≡ false → least ≤ number_of l b → Contains (map block_in lines) b
covered l intact k least [] valid h b has damaged low =
    let here = at_kept k (option_map Missing (missing l intact least (blocks_count l)) ∷ []) h in
    absurd (not_missing l intact least (blocks_count l) (map_none Missing (missing l intact least (blocks_count l)) here.0) b has damaged low (number_below l b has))
covered l intact k least (line ∷ lines) valid h b has damaged low =
    let next = number_of l (block_in line) in
    let here = at_kept k (line_rules l intact least line) (kept_left (at_line k (line_rules l intact least line)) (rules_from l intact (k + 1) (next + 1) lines) h) in
    let after = kept_right (at_line k (line_rules l intact least line)) (rules_from l intact (k + 1) (next + 1) lines) h in
    elim (cases_lt (number_of l b) next) [
      | inl lt ↦ absurd (not_missing l intact least next (map_none Missing (missing l intact least next) here.0) b has damaged low lt)
      | inr le ↦
          elim (cases_lt next (number_of l b)) [
            | inl lt ↦ contains_more (block_in line) (map block_in lines) b (covered l intact (k + 1) (next + 1) lines valid.1 after b has damaged (omega arith))
            | inr ge ↦
                let same : b ≡ block_in line = number_equal l b (block_in line) has valid.0.block (omega arith) in
                (0, omega arith, sym same)
          ]
    ]

-- a block of later lines has no smaller number
no_smaller : (l : Lattice) (least : ℕ) (lines : List Line) → AreLinesFrom l least lines → (b : BlockId) → (k : ℕ) → k < length (map block_in lines) → get_or (map block_in lines) k b ≡ b → least ≤ number_of l b
no_smaller l least [] valid b k lt at = absurd (omega arith)
no_smaller l least (line ∷ lines) valid b zero lt at = let low = valid.0.later in subst (λ d. least ≤ number_of l d) at low
no_smaller l least (line ∷ lines) valid b (suc k) lt at =
    let low = valid.0.later in
    let more = no_smaller l (number_of l (block_in line) + 1) lines valid.1 b k (omega arith) at in omega arith

tail_has : {X : Type 0} (y : X) (ys : List X) (x : X) (k : ℕ) → (y ≡ x → ⊥) → k < length (y ∷ ys) → get_or (y ∷ ys) k x ≡ x → Contains ys x
tail_has y ys x zero other lt at = absurd (other at)
tail_has y ys x (suc k) other lt at = (k, omega arith, at)

all_kept : (l : Lattice) (intact : BlockId → Bool) (k least : ℕ) (lines : List Line) → AreLinesFrom l least lines → All (IsRevealed l intact) lines
    → ((b : BlockId) → HasBlock l b → intact b ≡ false → least ≤ number_of l b → Contains (map block_in lines) b) → Kept (rules_from l intact k least lines)
all_kept l intact k least [] valid revealed whole =
    kept_at k (option_map Missing (missing l intact least (blocks_count l)) ∷ [])
    (ap (option_map Missing) (none_missing l intact least (blocks_count l) (λ b has damaged low high. let c = whole b has damaged low in let lt = c.1 in omega arith)), tt)
all_kept l intact k least (line ∷ lines) valid revealed whole =
    let next = number_of l (block_in line) in
    kept_both (at_line k (line_rules l intact least line)) (rules_from l intact (k + 1) (next + 1) lines)
    (kept_at k (line_rules l intact least line) (
      ap (option_map Missing) (none_missing l intact least next (λ b has damaged low high.
          let c = whole b has damaged low in
          let ge = no_smaller l next (line ∷ lines) (record { block = valid.0.block; later = omega arith; nodes = valid.0.nodes }, valid.1) b c.0 c.1 c.2 in omega arith)),
      from_revealed l intact line (All-head (IsRevealed l intact) line lines revealed),
    ))
    (all_kept l intact (k + 1) (next + 1) lines valid.1 (All-tail (IsRevealed l intact) line lines revealed)
    (λ b has damaged low.
    let c = whole b has damaged (let later = valid.0.later in omega arith) in
    tail_has (block_in line) (map block_in lines) b c.0 (λ same. let e : next ≡ number_of l b = ap (number_of l) same in omega arith) c.1 c.2))

-- ---- the head

seal_from : (seal : List ℕ) (o : Option (List ℕ)) → has_seal seal o ≡ true → o ≡ Some seal
seal_from seal None h = let e : false ≡ true = h in cc
seal_from seal (Some revealed) h = ap Some ((bytes_eq-Decides revealed seal).0 h)

from_seal : (seal : List ℕ) (o : Option (List ℕ)) → o ≡ Some seal → has_seal seal o ≡ true
from_seal seal o h = rw h ((bytes_eq-Decides seal seal).1 refl)

rejected : (k : ℕ) (why : Why) → Rejected k why ≡ Accepted → ⊥
rejected k why e = cc

-- a report that fits has the lattice
pub lattice_of_fit : (l : Lattice) (seal : List ℕ) (intact : BlockId → Bool) (h : Head) (lines : List Line) → Fits l seal intact h lines → has_lattice l h ≡ true
lattice_of_fit l seal intact h lines fits =
    and_both (h.alpha == l.alpha) (h.s == l.s && (h.p == l.p && h.n == l.n)) (number_same h.alpha l.alpha fits.alpha)
    (and_both (h.s == l.s) (h.p == l.p && h.n == l.n) (number_same h.s l.s fits.s)
    (and_both (h.p == l.p) (h.n == l.n) (number_same h.p l.p fits.p) (number_same h.n l.n fits.n)))

counts_of_fit : (h : Head) (lines : List Line) → AreCounted h lines → has_counts h lines ≡ true
counts_of_fit h lines are =
    let p = count_by is_peeled lines in let s = count_by is_solved lines in let o = count_by is_lost lines in
    and_both (h.peeled == p) (h.solved == s && (h.lost == o && h.damaged == h.peeled + h.solved + h.lost)) (number_same h.peeled p are.peeled)
    (and_both (h.solved == s) (h.lost == o && h.damaged == h.peeled + h.solved + h.lost) (number_same h.solved s are.solved)
    (and_both (h.lost == o) (h.damaged == h.peeled + h.solved + h.lost) (number_same h.lost o are.lost) (number_same h.damaged (h.peeled + h.solved + h.lost) are.damaged)))

fitting : (l : Lattice) (seal : List ℕ) (intact : BlockId → Bool) (h : Head) (lines : List Line) → has_lattice l h ≡ true → has_seal seal h.seal ≡ true → has_counts h lines ≡ true
    → ((b : BlockId) → HasBlock l b → intact b ≡ false → Contains (map block_in lines) b) → All (IsRevealed l intact) lines → Fits l seal intact h lines
fitting l seal intact h lines lattice sealed counts whole revealed =
    let p = count_by is_peeled lines in let s = count_by is_solved lines in let o = count_by is_lost lines in
    let l1 = and_second (h.alpha == l.alpha) (h.s == l.s && (h.p == l.p && h.n == l.n)) lattice in
    let l2 = and_second (h.s == l.s) (h.p == l.p && h.n == l.n) l1 in
    let c1 = and_second (h.peeled == p) (h.solved == s && (h.lost == o && h.damaged == h.peeled + h.solved + h.lost)) counts in
    let c2 = and_second (h.solved == s) (h.lost == o && h.damaged == h.peeled + h.solved + h.lost) c1 in
    record {
      alpha = same_number h.alpha l.alpha (and_first (h.alpha == l.alpha) (h.s == l.s && (h.p == l.p && h.n == l.n)) lattice);
      s = same_number h.s l.s (and_first (h.s == l.s) (h.p == l.p && h.n == l.n) l1);
      p = same_number h.p l.p (and_first (h.p == l.p) (h.n == l.n) l2);
      n = same_number h.n l.n (and_second (h.p == l.p) (h.n == l.n) l2);
      seal_is = seal_from seal h.seal sealed;
      whole = whole;
      revealed = revealed;
      counted = record {
        damaged = same_number h.damaged (h.peeled + h.solved + h.lost) (and_second (h.lost == o) (h.damaged == h.peeled + h.solved + h.lost) c2);
        peeled = same_number h.peeled p (and_first (h.peeled == p) (h.solved == s && (h.lost == o && h.damaged == h.peeled + h.solved + h.lost)) counts);
        solved = same_number h.solved s (and_first (h.solved == s) (h.lost == o && h.damaged == h.peeled + h.solved + h.lost) c1);
        lost = same_number h.lost o (and_first (h.lost == o) (h.damaged == h.peeled + h.solved + h.lost) c2);
      };
    }

accepted_none : (broken : Option (ℕ × Why)) → verdict_by broken ≡ Accepted → broken ≡ None
accepted_none None h = refl
accepted_none (Some broken) h = absurd (rejected broken.0 broken.1 h)

pub accepted-fit : AcceptedAreFitting
accepted-fit l seal intact h lines valid = (
  λ accepted.
      let second = at_line 2 (unless (has_lattice l h) OtherArchive ∷ []) in
      let third = at_line 3 (unless (has_seal seal h.seal) OtherArchive ∷ []) in
      let middle = rules_from l intact 5 0 lines in
      let fourth = at_line 4 (unless (has_counts h lines) WrongCount ∷ []) in
      let all = accepted_none (first_broken (rules l seal intact h lines)) accepted in
      let rest = kept_right second (third ++ (middle ++ fourth)) all in
      let inner = kept_right third (middle ++ fourth) rest in
      let lattice = unless_none (has_lattice l h) OtherArchive (at_kept 2 (unless (has_lattice l h) OtherArchive ∷ []) (kept_left second (third ++ (middle ++ fourth)) all)).0 in
      let sealed = unless_none (has_seal seal h.seal) OtherArchive (at_kept 3 (unless (has_seal seal h.seal) OtherArchive ∷ []) (kept_left third (middle ++ fourth) rest)).0 in
      let counts = unless_none (has_counts h lines) WrongCount (at_kept 4 (unless (has_counts h lines) WrongCount ∷ []) (kept_right middle fourth inner)).0 in
      let kept = kept_left middle fourth inner in
      fitting l seal intact h lines lattice sealed counts
      (λ b has damaged. covered l intact 5 0 lines valid kept b has damaged (omega arith))
      (all_revealed l intact 5 0 lines kept),
  λ fits.
      ap verdict_by
      (kept_both (at_line 2 (unless (has_lattice l h) OtherArchive ∷ [])) (at_line 3 (unless (has_seal seal h.seal) OtherArchive ∷ []) ++ (rules_from l intact 5 0 lines ++ at_line 4 (unless (has_counts h lines) WrongCount ∷ [])))
      (kept_at 2 (unless (has_lattice l h) OtherArchive ∷ []) (none_unless (has_lattice l h) OtherArchive (lattice_of_fit l seal intact h lines fits), tt))
      (kept_both (at_line 3 (unless (has_seal seal h.seal) OtherArchive ∷ [])) (rules_from l intact 5 0 lines ++ at_line 4 (unless (has_counts h lines) WrongCount ∷ []))
      (kept_at 3 (unless (has_seal seal h.seal) OtherArchive ∷ []) (none_unless (has_seal seal h.seal) OtherArchive (from_seal seal h.seal fits.seal_is), tt))
      (kept_both (rules_from l intact 5 0 lines) (at_line 4 (unless (has_counts h lines) WrongCount ∷ []))
      (all_kept l intact 5 0 lines valid fits.revealed (λ b has damaged low. fits.whole b has damaged))
      (kept_at 4 (unless (has_counts h lines) WrongCount ∷ []) (none_unless (has_counts h lines) WrongCount (counts_of_fit h lines fits.counted), tt))))),
)
