-- The lines of heads, and what begins with them.
use Rattle.std.proofs.Common.{◌≡◌, ℕ, ◌<◌, ◌≤◌, ◌^◌, List, [], ◌∷◌, ◌++◌, get_or, true, codes, Option, Some, None, arith, refl, sym, ◌∙◌, ap, subst}
use Rattle.std.specs.Prelude.{IfSome}
use Rattle.aea_lattice.specs.declared.grid.Lattice.{Lattice}
use Rattle.std.proofs.lemmas.Bool.Decides.{nat_tests}
use Rattle.aea_lattice.specs.Data.{IsBytes}
use Rattle.aea_lattice.specs.Profile.{is_profile}
use Rattle.aea_report.specs.declared.head.Head.{Head}
use Rattle.aea_report.specs.Format.{head_texts}
use Rattle.aea_report.specs.Grammar.{IsHeadOf}
use Rattle.aea_report.specs.Faults.{Begins, IsBadLine, IsLongLine}
use Rattle.aea_reader.specs.declared.fault.ReportFault.{ReportFault}
use Rattle.aea_reader.specs.declared.fault.ReportFault.TheVariants.{BadLine, LineTooLong, ReadFault, NoMemory}
use Rattle.aea_reader.specs.Heads.{four_text, mark_line, shape_line, seal_line, counts_line, two_lines, three_lines}
use Rattle.aea_reader.specs.Places.{IsAt, IsFault, IsStopped}
use Rattle.aea_reader.specs.Readings.{IsHeadFault}

-- ---- the numbers of a lattice

profile_small : (alpha s p : ℕ) → is_profile alpha s p ≡ true → (alpha < 2 ^ 32) × (s < 2 ^ 32) × (p < 2 ^ 32)
profile_small alpha s p h = (grind (arith, nat_tests), grind (arith, nat_tests), grind (arith, nat_tests))

-- they have 32 bits
pub lattice_small : (l : Lattice) → (l.alpha < 2 ^ 32) × (l.s < 2 ^ 32) × (l.p < 2 ^ 32) × (l.n < 2 ^ 32)
lattice_small l =
    let three = profile_small l.alpha l.s l.p l.in_profile in
    let most = l.in_range in
    (three.0, three.1, three.2, omega arith)

-- ---- what some report begins with

-- a head of the lattice with this seal and these counts
abbrev pub head_with : Lattice → Option (List ℕ) → ℕ → ℕ → ℕ → ℕ → Head
head_with l seal damaged peeled solved lost =
    record { alpha = l.alpha; s = l.s; p = l.p; n = l.n; seal = seal; damaged = damaged; peeled = peeled; solved = solved; lost = lost }

-- it is one of the lattice
pub is_head : (l : Lattice) (seal : Option (List ℕ)) (a b c d : ℕ) → IfSome seal (IsBytes 32) → a < 2 ^ 32 → b < 2 ^ 32 → c < 2 ^ 32 → d < 2 ^ 32 → IsHeadOf l (head_with l seal a b c d)
is_head l seal a b c d bytes one two three four = record {
  alpha = refl;
  s = refl;
  p = refl;
  n = refl;
  seal = bytes;
  damaged = one;
  peeled = two;
  solved = three;
  lost = four;
}

-- a lattice without nodes
abbrev smallest : Lattice
smallest = record { alpha = 1; s = 1; p = 0; n = 0; fences = []; in_profile = refl; in_range = omega arith; fenced = refl }

-- nothing begins a report
pub begins_none : Begins []
begins_none = record {
  lattice = smallest;
  head = head_with smallest None 0 0 0 0;
  is_head = is_head smallest None 0 0 0 0 tt (omega arith) (omega arith) (omega arith) (omega arith);
  lines = [];
  valid = tt;
  first = refl;
}

-- so does the mark
pub begins_mark : Begins (mark_line ∷ [])
begins_mark = record {
  lattice = smallest;
  head = head_with smallest None 0 0 0 0;
  is_head = is_head smallest None 0 0 0 0 tt (omega arith) (omega arith) (omega arith) (omega arith);
  lines = [];
  valid = tt;
  first = refl;
}

-- and with it the line of a lattice
pub begins_two : (l : Lattice) → Begins (two_lines l)
begins_two l = record {
  lattice = l;
  head = head_with l None 0 0 0 0;
  is_head = is_head l None 0 0 0 0 tt (omega arith) (omega arith) (omega arith) (omega arith);
  lines = [];
  valid = tt;
  first = refl;
}

-- and after it that of a seal
pub begins_three : (l : Lattice) (seal : Option (List ℕ)) → IfSome seal (IsBytes 32) → Begins (three_lines l seal)
begins_three l seal bytes = record {
  lattice = l;
  head = head_with l seal 0 0 0 0;
  is_head = is_head l seal 0 0 0 0 bytes (omega arith) (omega arith) (omega arith) (omega arith);
  lines = [];
  valid = tt;
  first = refl;
}

-- and a head
pub begins_head : (l : Lattice) (h : Head) → IsHeadOf l h → Begins (head_texts h)
begins_head l h is = record { lattice = l; head = h; is_head = is; lines = []; valid = tt; first = refl }

-- ---- what a line is with which some report begins

pub is_first : (text : List ℕ) → Begins (text ∷ []) → text ≡ mark_line
is_first text begins = sym (ap (λ xs. get_or xs 0 []) begins.first)

shape_same : (l : Lattice) (h : Head) → IsHeadOf l h → codes "lattice" ++ four_text h.alpha h.s h.p h.n ≡ shape_line l
shape_same l h is =
    ap (λ x. codes "lattice" ++ four_text x h.s h.p h.n) is.alpha
    ∙ ap (λ x. codes "lattice" ++ four_text l.alpha x h.p h.n) is.s
    ∙ ap (λ x. codes "lattice" ++ four_text l.alpha l.s x h.n) is.p
    ∙ ap (λ x. codes "lattice" ++ four_text l.alpha l.s l.p x) is.n

pub is_second : (one text : List ℕ) (begins : Begins (one ∷ text ∷ [])) → text ≡ shape_line begins.lattice
is_second one text begins = sym (ap (λ xs. get_or xs 1 []) begins.first) ∙ shape_same begins.lattice begins.head begins.is_head

pub is_third : (one two text : List ℕ) (begins : Begins (one ∷ two ∷ text ∷ [])) → text ≡ seal_line begins.head.seal
is_third one two text begins = sym (ap (λ xs. get_or xs 2 []) begins.first)

pub is_fourth : (one two three text : List ℕ) (begins : Begins (one ∷ two ∷ three ∷ text ∷ []))
    → text ≡ counts_line begins.head.damaged begins.head.peeled begins.head.solved begins.head.lost
is_fourth one two three text begins = sym (ap (λ xs. get_or xs 3 []) begins.first)

-- ---- places

-- at the beginning
pub at_first : (input : List ℕ) (ahead : List ℕ) (left : Option (List ℕ)) → ahead ≡ [] → left ≡ Some input → IsAt input 1 [] ahead left
at_first input ahead left none revealed = record {
  rest = input;
  at = record { before = begins_none; spelling = refl; place = omega arith };
  stands = record { rest = input; revealed = revealed; are = ap (λ xs. xs ++ input) (sym none) };
}

-- a fault at a line of the head is one of the head
pub head_fault : (input : List ℕ) (k : ℕ) (left : Option (List ℕ)) (fault : ReportFault) → k ≤ 4 → IsFault input k left fault → IsHeadFault input left fault
head_fault input k left (BadLine j) early is =
    let at : j ≡ k = is.0 in
    (omega arith, subst (IsBadLine input) (sym at) is.1)
head_fault input k left (LineTooLong j) early is =
    let at : j ≡ k = is.0 in
    (omega arith, subst (IsLongLine input) (sym at) is.1, subst (λ i. IsStopped input i left) (sym at) is.2)
head_fault input k left ReadFault early is = tt
head_fault input k left NoMemory early is = tt
