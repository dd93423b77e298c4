-- The rules by which a report is judged, in their order, each with what it rejects. The first that is broken is named. The
-- blocks that are intact are given by a test.
use Rattle.std.specs.Prelude.{ℕ, ◌+◌, ◌==◌, ◌&&◌, Bool, false, not, cond, List, [], ◌∷◌, ◌++◌, map, count_by, Option, Some, None, option_map}
use Rattle.std.specs.Str.{bytes_eq}
use Rattle.aea_lattice.specs.declared.blocks.BlockId.{BlockId}
use Rattle.aea_lattice.specs.declared.grid.Lattice.{Lattice}
use Rattle.aea_lattice.specs.Blocks.{blocks_count, number_of}
use Rattle.aea_lattice.specs.Equations.{is_in_codeword}
use Rattle.aea_lattice.specs.Lists.{has_node}
use Rattle.aea_walk.specs.Codewords.{touched}
use Rattle.aea_walk.specs.Missing.{missing}
use Rattle.aea_report.specs.declared.head.Head.{Head}
use Rattle.aea_report.specs.declared.line.Line.{Line}
use Rattle.aea_report.specs.declared.line.Line.TheVariants.{Peeled, Solved, Lost}
use Rattle.aea_report.specs.Format.{block_in}
use Rattle.aea_report.specs.Fits.{is_peeled, is_solved, is_lost}
use Rattle.aea_verify.specs.declared.verdict.Why.{Why}
use Rattle.aea_verify.specs.declared.verdict.Why.TheVariants.{OtherArchive, StillBad, NotDamaged, WordMisses, WordTouches, Missing, WrongCount}
use Rattle.aea_verify.specs.declared.verdict.Verdict.{Verdict}
use Rattle.aea_verify.specs.declared.verdict.Verdict.TheVariants.{Accepted, Rejected}

-- what a rule rejects, if it is broken; or nothing where it is kept
abbrev pub unless : Bool → Why → Option Why
unless kept why = cond kept None (Some why)

-- The rules on a line by itself. A restored block is intact. A lost one is not; and the codeword of its nodes contains it,
-- and no intact block.
abbrev pub kind_rules : Lattice → (BlockId → Bool) → Line → List (Option Why)
kind_rules l intact (Peeled b) = unless (intact b) (StillBad b) ∷ []
kind_rules l intact (Solved b) = unless (intact b) (StillBad b) ∷ []
kind_rules l intact (Lost b nodes) =
    unless (not (intact b)) (NotDamaged b)
    ∷ unless (is_in_codeword l (has_node nodes) b) (WordMisses b)
    ∷ option_map WordTouches (touched l intact nodes)
    ∷ []

-- The rules at a line whose block may have this number or a greater one: no damaged block comes before its block; and
-- those on the line by itself.
abbrev pub line_rules : Lattice → (BlockId → Bool) → ℕ → Line → List (Option Why)
line_rules l intact least line = option_map Missing (missing l intact least (number_of l (block_in line))) ∷ kind_rules l intact line

-- these rules, named at line k
abbrev pub at_line : ℕ → List (Option Why) → List (Option (ℕ × Why))
at_line k rules = map (option_map (λ why. (k, why))) rules

-- the rules at lines from line k on, and after the last: no damaged block has a greater number
abbrev pub rules_from : Lattice → (BlockId → Bool) → ℕ → ℕ → List Line → List (Option (ℕ × Why))
rules_from l intact k least [] = at_line k (option_map Missing (missing l intact least (blocks_count l)) ∷ [])
rules_from l intact k least (line ∷ lines) =
    at_line k (line_rules l intact least line) ++ rules_from l intact (k + 1) (number_of l (block_in line) + 1) lines

-- whether the head has the shape of this lattice and its number of nodes
abbrev pub has_lattice : Lattice → Head → Bool
has_lattice l h = h.alpha == l.alpha && (h.s == l.s && (h.p == l.p && h.n == l.n))

-- whether it has this seal
abbrev pub has_seal : List ℕ → Option (List ℕ) → Bool
has_seal seal None = false
has_seal seal (Some revealed) = bytes_eq revealed seal

-- whether the counts are those of the lines
abbrev pub has_counts : Head → List Line → Bool
has_counts h lines =
    h.peeled == count_by is_peeled lines
    && (h.solved == count_by is_solved lines && (h.lost == count_by is_lost lines && h.damaged == h.peeled + h.solved + h.lost))

-- all rules, in their order
abbrev pub rules : Lattice → List ℕ → (BlockId → Bool) → Head → List Line → List (Option (ℕ × Why))
rules l seal intact h lines =
    at_line 2 (unless (has_lattice l h) OtherArchive ∷ [])
    ++ (at_line 3 (unless (has_seal seal h.seal) OtherArchive ∷ [])
    ++ (rules_from l intact 5 0 lines
    ++ at_line 4 (unless (has_counts h lines) WrongCount ∷ [])))

-- the first rule that is broken
abbrev pub first_broken : {A : Type 0} → List (Option A) → Option A
first_broken [] = None
first_broken (None ∷ rules) = first_broken rules
first_broken (Some broken ∷ rules) = Some broken

-- the verdict where this is the first rule that is broken, if one is
abbrev pub verdict_by : Option (ℕ × Why) → Verdict
verdict_by None = Accepted
verdict_by (Some broken) = Rejected broken.0 broken.1

-- the verdict on a report
abbrev pub verdict_of : Lattice → List ℕ → (BlockId → Bool) → Head → List Line → Verdict
verdict_of l seal intact h lines = verdict_by (first_broken (rules l seal intact h lines))
