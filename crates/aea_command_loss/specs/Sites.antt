-- What `sites` does: for each site of the archive, and for each pair of sites, a line on what its loss would cost.
pub mod Steps
use Rattle.std.specs.Prelude.{◌≡◌, ◌≢◌, ◌⊎◌, ℕ, ◌+◌, ◌-◌, ◌<◌, ◌≤◌, ◌==◌, cond, List, [], ◌∷◌, ◌++◌, map, take, length, codes, decimal, Option, None, Some, Result, Ok, Err, IfOk, IfErr, OnOk}
use Rattle.std.specs.List.{range_with_len, flat_map}
use Rattle.std.specs.Io.KnownBytes.{Appends}
use Rattle.aea_io.specs.Streams.{SinkState}
use Rattle.aea_io.specs.Written.{IsFlushed}
use Rattle.aea_disk.specs.State.{State}
use Rattle.aea_lattice.specs.declared.grid.Lattice.{Lattice}
use Rattle.aea_lattice.specs.declared.shape.Shape.{Shape}
use Rattle.aea_lattice.specs.Texts.{text_of}
use Rattle.aea_report.specs.Format.{numbers_text}
use Rattle.aea_records.specs.Format.{Record, nodes_of, fences_of}
use Rattle.aea_ledger.specs.Recorded.{IsLatticeOf}
use Rattle.aea_ledger.specs.Stops.{HasLedger}
use Rattle.aea_ledger.specs.Values.{Opened}
use Rattle.aea_sites.specs.declared.lost.FirstLost.{FirstLost}
use Rattle.aea_sites.specs.declared.lost.SiteLoss.{SiteLoss}
use Rattle.aea_sites.specs.Losses.{IsLossOf}
use Rattle.aea_sites.specs.Sites.{is_elsewhere}
use Rattle.aea_command.specs.declared.refusal.Failure.{Failure}
use Rattle.aea_command.specs.declared.refusal.Failure.TheVariants as failure
use Rattle.aea_command.specs.declared.status.Status.TheVariants.{Done}
use Rattle.aea_command.specs.Failures.{Answer}
use Rattle.aea_command.specs.Lines.{newline}
use Rattle.aea_command.specs.Openings.{Opens}

-- ---- the cases

-- the first k sites, each by itself: told as a pair of the same
abbrev pub alone : ℕ → List (ℕ × ℕ)
alone k = map (λ a. (a, a)) (range_with_len 1 k)

-- site a with each of the k sites after it
abbrev pub pairs_behind : ℕ → ℕ → List (ℕ × ℕ)
pairs_behind a k = map (λ b. (a, b)) (range_with_len (a + 1) k)

-- each of the first k of so many sites with each site after it
abbrev pub pairs_of : ℕ → ℕ → List (ℕ × ℕ)
pairs_of sites k = flat_map (λ a. pairs_behind a (sites - a)) (range_with_len 1 k)

-- The cases of an archive over so many sites: each site by itself, in order, and then each pair A < B, in order of A and then
-- of B.
abbrev pub cases_of : ℕ → List (ℕ × ℕ)
cases_of sites = alone sites ++ pairs_of sites sites

-- what is lost of the lattice where both sites of a case are gone
abbrev pub IsCaseLoss : Lattice → ℕ → ℕ × ℕ → SiteLoss → Type 0
IsCaseLoss l sites q loss = IsLossOf l (is_elsewhere l sites q.0 q.1) loss

-- ---- the lines

-- `site A`, or `pair A B`
abbrev pub case_text : ℕ × ℕ → List ℕ
case_text q = cond (q.0 == q.1) (codes "site " ++ decimal q.0) ((codes "pair " ++ decimal q.0) ++ (codes " " ++ decimal q.1))

-- ` first BLOCK by N1 N2` and so on, where a block is lost
abbrev pub first_text : Option FirstLost → List ℕ
first_text None = []
first_text (Some f) = (codes " first " ++ text_of f.block) ++ (codes " by" ++ numbers_text f.nodes)

-- the line of a case: `site A lost K` or `pair A B lost K`, and what follows it
abbrev pub loss_line : ℕ × ℕ → SiteLoss → List ℕ
loss_line q loss = case_text q ++ ((codes " lost " ++ decimal loss.lost) ++ (first_text loss.first ++ newline))

-- the text has the lines of these cases, one after the other, and nothing else
abbrev pub AreLossLines : Lattice → ℕ → List (ℕ × ℕ) → List ℕ → Type 0
AreLossLines l sites [] text = text ≡ []
AreLossLines l sites (q ∷ cases) text =
    (loss : SiteLoss) × IsCaseLoss l sites q loss × ((rest : List ℕ) × AreLossLines l sites cases rest × (text ≡ loss_line q loss ++ rest))

-- The text has the lines of the first cases, of some of them or of all, of the archive whose ledger has these bytes.
pub record AreFirstLines (bytes text : List ℕ) : Type 0 where
  pub shape : Shape
  pub records : List Record
  pub ledger : HasLedger shape records bytes
  pub lattice : Lattice
  pub is_lattice : IsLatticeOf shape (nodes_of records) (fences_of records) lattice
  pub printed : List (ℕ × ℕ)
  pub rest : List (ℕ × ℕ)
  pub in_order : cases_of shape.sites ≡ printed ++ rest
  pub lines : AreLossLines lattice shape.sites printed text

-- ---- what a run prints

-- The part is a first part of the line of the next case, of those that are left, and that line was computed whole. A sink whose
-- space is known had not enough for it after the text before it.
pub record IsCutLine (l : Lattice) (sites : ℕ) (rest : List (ℕ × ℕ)) (before : SinkState) (text part : List ℕ) : Type 0 where
  pub next : ℕ × ℕ
  pub others : List (ℕ × ℕ)
  pub is_next : rest ≡ next ∷ others
  pub loss : SiteLoss
  pub is : IsCaseLoss l sites next loss
  pub cut : (k : ℕ) × (k ≤ length (loss_line next loss)) × (part ≡ take k (loss_line next loss))
  pub too_long : (room : ℕ) → before.room ≡ Some room → room < length (text ++ loss_line next loss)

-- Of a call that prints the lines of these cases, with `out` before and after it: the lines of the first of them are on it, and
-- of all of them where it is done. Behind them is a first part of the next line where the output failed, and nothing where
-- memory ran out; and all that is printed is flushed, but where the output failed.
pub record PrintsLosses {T : Type 0} (l : Lattice) (sites : ℕ) (cases : List (ℕ × ℕ)) (before after : SinkState) (answer : Result T Failure) : Type 0 where
  pub printed : List (ℕ × ℕ)
  pub rest : List (ℕ × ℕ)
  pub in_order : cases ≡ printed ++ rest
  pub text : List ℕ
  pub lines : AreLossLines l sites printed text
  pub part : List ℕ
  pub appends : Appends before.written after.written (text ++ part)
  pub whole : OnOk answer ((rest ≡ []) × (part ≡ []))
  pub quiet : IfErr answer (λ f. f ≢ failure.Output → part ≡ [])
  pub cut : answer ≡ Err failure.Output → IsCutLine l sites rest before text part
  pub flushed : answer ≢ Err failure.Output → ((printed ≡ []) × (after ≡ before)) ⊎ IsFlushed after

-- all lines were printed, or the output failed, or memory ran out
abbrev pub IsSummingUp : Answer → Type 0
IsSummingUp answer = (answer ≡ Ok Done) ⊎ ((answer ≡ Err failure.Output) ⊎ (answer ≡ Err failure.Memory))

-- Of a run that says what the loss of sites would cost, with the disk and `out` before and after it, and its answer:
pub record SumsUpSites (reveals : Type 0) (old new : State) (before after : SinkState) (answer : Answer) : Type 0 where
  -- the archive is opened, and nothing more is done to the disk
  pub opening : Result Opened Failure
  pub opens : Opens reveals old new opening
  -- where it is not opened, that is the answer
  pub unopened : IfErr opening (λ f. (answer ≡ Err f) × (after ≡ before))
  -- where it is, the lines of its cases are printed, unless the output fails or memory runs out
  pub kinds : OnOk opening (IsSummingUp answer)
  pub prints : IfOk opening (λ v. PrintsLosses v.lattice v.shape.sites (cases_of v.shape.sites) before after answer)
