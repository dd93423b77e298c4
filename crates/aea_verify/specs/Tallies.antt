-- What was found of the lines of a report that were read, and the verdict by it.
use Rattle.std.specs.Prelude.{◌≡◌, ℕ, ◌+◌, ◌^◌, ◌<◌, ◌≤◌, ◌==◌, ◌&&◌, Bool, List, [], ◌∷◌, ◌++◌, length, count_by, Option, option_map}
use Rattle.std.specs.Option.{option_or}
use Rattle.aea_lattice.specs.declared.blocks.BlockId.{BlockId}
use Rattle.aea_lattice.specs.declared.grid.Lattice.{Lattice}
use Rattle.aea_lattice.specs.Blocks.{blocks_count, number_of}
use Rattle.aea_walk.specs.Missing.{missing}
use Rattle.aea_report.specs.declared.head.Head.{Head}
use Rattle.aea_report.specs.declared.line.Line.{Line}
use Rattle.aea_report.specs.Format.{block_in}
use Rattle.aea_report.specs.Fits.{is_peeled, is_solved, is_lost}
use Rattle.aea_reader.specs.Readings.{least_after}
use Rattle.aea_verify.specs.declared.verdict.Why.{Why}
use Rattle.aea_verify.specs.declared.verdict.Why.TheVariants.{Missing, WrongCount}
use Rattle.aea_verify.specs.declared.tally.Tally.{Tally}
use Rattle.aea_verify.specs.Rules.{unless, line_rules, at_line, first_broken}

-- the rules at lines from line k on
abbrev pub rules_to : Lattice → (BlockId → Bool) → ℕ → ℕ → List Line → List (Option (ℕ × Why))
rules_to l intact k least [] = []
rules_to l intact k least (line ∷ lines) =
    at_line k (line_rules l intact least line) ++ rules_to l intact (k + 1) (number_of l (block_in line) + 1) lines

-- The tally is that of these lines: the number of the next line, the least number that its block may have, the first rule
-- that they break, and how many there are of each kind.
pub record IsTally (l : Lattice) (intact : BlockId → Bool) (lines : List Line) (t : Tally) : Type 0 where
  pub line : t.line ≡ 5 + length lines
  pub least : t.least ≡ least_after l 0 lines
  pub broken : t.broken ≡ first_broken (rules_to l intact 5 0 lines)
  pub peeled : t.peeled ≡ count_by is_peeled lines
  pub solved : t.solved ≡ count_by is_solved lines
  pub lost : t.lost ≡ count_by is_lost lines

-- its numbers are no greater than the blocks of the lattice, and five
pub record IsSmall (l : Lattice) (t : Tally) : Type 0 where
  pub few : blocks_count l < 2 ^ 23
  pub least : t.least ≤ blocks_count l
  pub line : t.line ≤ 5 + t.least
  pub counts : t.peeled + t.solved + t.lost ≤ t.least

-- whether the counts of the head are these
abbrev pub counts_are : Head → ℕ → ℕ → ℕ → Bool
counts_are h peeled solved lost =
    h.peeled == peeled && (h.solved == solved && (h.lost == lost && h.damaged == h.peeled + h.solved + h.lost))

-- The first broken rule of a whole report, where its lines have this tally and the rules on its head are kept.
abbrev pub broken_by : Lattice → (BlockId → Bool) → Head → Tally → Option (ℕ × Why)
broken_by l intact h t =
    option_or t.broken
    (option_or (option_map (λ b. (t.line, Missing b)) (missing l intact t.least (blocks_count l)))
    (option_map (λ why. (4, why)) (unless (counts_are h t.peeled t.solved t.lost) WrongCount)))
