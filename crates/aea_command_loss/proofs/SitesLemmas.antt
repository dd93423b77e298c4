-- What `sites` does, by where it ends, and what holds of its run.
pub mod Cases
pub mod Steps
use Rattle.std.proofs.Common.{◌≡◌, ◌≢◌, ◌⊎◌, inl, inr, ℕ, zero, suc, ◌+◌, ◌≤◌, ◌<◌, arith, List, [], ◌∷◌, ◌++◌, length, append_assoc, refl, sym, ◌∙◌, ap, subst, Result, Ok, Err}
use Rattle.std.specs.Prelude.{IfOk, IfErr, OnOk}
use Rattle.std.proofs.lemmas.Bool.Decides.{nat_tests}
use Rattle.aea_io.specs.Streams.{SinkState}
use Rattle.aea_io.specs.Written.{IsFlushed}
use Rattle.aea_disk.specs.Frames.{OnlyReads}
use Rattle.aea_disk.specs.State.{State}
use Rattle.aea_disk.proofs.Frames.{reads_as}
use Rattle.aea_lattice.specs.declared.grid.Lattice.{Lattice}
use Rattle.aea_lattice.specs.declared.shape.Shape.{Shape}
use Rattle.aea_lattice.specs.Profile.{is_shape}
use Rattle.aea_records.specs.Grammar.{IsLedger}
use Rattle.aea_ledger.specs.declared.open.OpenFault.{OpenFault}
use Rattle.aea_ledger.specs.Values.{Opened, IsThisOne}
use Rattle.aea_command.specs.declared.refusal.Failure.{Failure}
use Rattle.aea_command.specs.declared.refusal.Failure.TheVariants as failure
use Rattle.aea_command.specs.declared.status.Status.{Status}
use Rattle.aea_command.specs.declared.status.Status.TheVariants.{Done}
use Rattle.aea_command.specs.Causes.{Refuses}
use Rattle.aea_command.specs.Failures.{Answer, opening_failure}
use Rattle.aea_command.specs.Openings.{OpeningCauses, Opens}
use Rattle.aea_command.specs.Printed.{FitsText}
use Rattle.aea_command.proofs.OpeningCases.{opened_never, opening_not_output}
use Rattle.aea_command.proofs.Refusing.{refuses_done}
use Rattle.aea_command_loss.specs.Sites.{cases_of, loss_line, IsCutLine, PrintsLosses, IsSummingUp, AreFirstLines, SumsUpSites}
use Rattle.aea_command_loss.proofs.SitesLemmas.Steps.{lines_then, one_line, done_never}

-- the archive was not opened
pub sums_unopened : (reveals : Type 0) (old new : State) (out : SinkState) (f : Failure) → Opens reveals old new (Err f) → SumsUpSites reveals old new out out (Err f)
sums_unopened reveals old new out f opens = record { opening = Err f; opens = opens; unopened = (refl, refl); kinds = tt; prints = tt }

-- it was, and the lines of its cases were printed, unless the output failed or memory ran out
pub sums_opened : (reveals : Type 0) (old new : State) (before after : SinkState) (v : Opened) (answer : Answer) (l : Lattice) (sites : ℕ) → l ≡ v.lattice → sites ≡ v.shape.sites → Opens reveals old new (Ok v) → IsSummingUp answer
    → PrintsLosses l sites (cases_of sites) before after answer → SumsUpSites reveals old new before after answer
sums_opened reveals old new before after v answer l sites same_lattice same_sites opens kinds prints = record {
  opening = Ok v;
  opens = opens;
  unopened = tt;
  kinds = kinds;
  prints = subst (λ (m : Lattice). PrintsLosses m v.shape.sites (cases_of v.shape.sites) before after answer) same_lattice
      (subst (λ (n : ℕ). PrintsLosses l n (cases_of n) before after answer) same_sites prints);
}

-- the failure of a call that puts lines
abbrev pub IsStop : Failure → Type 0
IsStop f = (f ≡ failure.Output) ⊎ (f ≡ failure.Memory)

-- it is one of such a run
pub stop_kinds : (f : Failure) → IsStop f → IsSummingUp (Err f)
stop_kinds f (inl e) = inr (inl (ap Err e))
stop_kinds f (inr e) = inr (inr (ap Err e))

-- and no other
pub stop_never : (f other : Failure) → IsStop f → other ≢ failure.Output → other ≢ failure.Memory → ◌≡◌ {A = Answer} (Err f) (Err other) → ⊥
stop_never f other (inl is) output memory e = let same : f ≡ other = cc in output (sym same ∙ is)
stop_never f other (inr is) output memory e = let same : f ≡ other = cc in memory (sym same ∙ is)

-- no cause of a refusal holds where the archive was opened
pub stop_refuses : (reveals : Type 0) (old new : State) (v : Opened) (f : Failure) → Opens reveals old new (Ok v) → IsStop f → Refuses {T = Status} reveals (OpeningCauses (old.files 0)) (Err f)
stop_refuses reveals old new v f opens stop =
    refuses_done reveals (OpeningCauses (old.files 0)) v (Err f) (λ why. stop_never f (failure.Refused why) stop (λ e. cc) (λ e. cc)) opens.refuses

-- the disk was only read, and did not fail
pub stop_reads : (reveals : Type 0) (old new : State) (v : Opened) (f : Failure) → Opens reveals old new (Ok v) → IsStop f → OnlyReads reveals (◌≡◌ {A = Answer} (Err f) (Err failure.Disk)) old new
stop_reads reveals old new v f opens stop =
    reads_as reveals (◌≡◌ {A = Result Opened Failure} (Ok v) (Err failure.Disk)) (◌≡◌ {A = Answer} (Err f) (Err failure.Disk)) old new
    (λ e. absurd (stop_never f failure.Disk stop (λ d. cc) (λ d. cc) e)) (λ e. absurd (opened_never v failure.Disk e)) opens.reads

-- an archive has a site
pub some_site : (shape : Shape) → 1 ≤ shape.sites
some_site shape = let fits = shape.in_profile in grind (arith, nat_tests)

-- some site is there, so some line was printed, and all is flushed
pub all_flushed : (l : Lattice) (sites : ℕ) (before after : SinkState) → 1 ≤ sites → PrintsLosses {T = Unit {0}} l sites (cases_of sites) before after (Ok tt) → IsFlushed after
all_flushed l sites before after some p = elim (p.flushed (done_never tt failure.Output)) [
  | inl none ↦ absurd (no_cases sites some (p.in_order ∙ ap (λ xs. xs ++ p.rest) none.0 ∙ p.whole.0))
  | inr flushed ↦ flushed
]
  where
    no_cases : (sites : ℕ) → 1 ≤ sites → cases_of sites ≡ [] → ⊥
    no_cases zero some none = omega (arith, some)
    no_cases (suc m) some none = cc

-- ---- the space of the output

-- the lines before the one that was cut, and that line, are the first lines of the archive
cut_front : (bytes : List ℕ) (v : Opened) (before after : SinkState) (answer : Answer) → IsThisOne v bytes → (p : PrintsLosses v.lattice v.shape.sites (cases_of v.shape.sites) before after answer)
    → (c : IsCutLine v.lattice v.shape.sites p.rest before p.text p.part) → AreFirstLines bytes (p.text ++ loss_line c.next c.loss)
cut_front bytes v before after answer one p c = record {
  shape = v.shape;
  records = one.records;
  ledger = subst (λ (n : ℕ). IsLedger bytes v.shape one.records n) one.has.end one.ledger;
  lattice = v.lattice;
  is_lattice = one.has.lattice;
  printed = p.printed ++ c.next ∷ [];
  rest = c.others;
  in_order = p.in_order ∙ ap (λ (xs : List (ℕ × ℕ)). p.printed ++ xs) c.is_next ∙ sym (append_assoc p.printed (c.next ∷ []) c.others);
  lines = lines_then v.lattice v.shape.sites p.printed (c.next ∷ []) p.text (loss_line c.next c.loss) p.lines (one_line v.lattice v.shape.sites c.next c.loss c.is);
}

-- within the space for the first lines of the archive the output does not fail
pub sites_fit : (reveals : Type 0) (bytes : List ℕ) (before after : SinkState) (answer : Answer) (gave : Result Opened Failure) → reveals → IfOk gave (λ v. reveals → IsThisOne v bytes) → IfErr gave (λ f. (fault : OpenFault) × (f ≡ opening_failure fault))
    → IfErr gave (λ f. (answer ≡ Err f) × (after ≡ before)) → IfOk gave (λ v. PrintsLosses v.lattice v.shape.sites (cases_of v.shape.sites) before after answer)
    → ((text : List ℕ) → AreFirstLines bytes text → FitsText before text) → answer ≢ Err failure.Output
sites_fit reveals bytes before after answer (Ok v) revealed this_one kinds unopened prints fits e =
    let c = prints.cut e in
    let room = fits (prints.text ++ loss_line c.next c.loss) (cut_front bytes v before after answer (this_one revealed) prints c) in
    let short = c.too_long room.room room.revealed in
    let enough = room.enough in
    omega (arith, short, enough)
sites_fit reveals bytes before after answer (Err f) revealed this_one kinds unopened prints fits e =
    let h : Err f ≡ Err failure.Output = sym unopened.0 ∙ e in
    let is : f ≡ failure.Output = cc in
    opening_not_output kinds.0 (sym kinds.1 ∙ is)

-- where the opening does not fail by the disk, the run does not
pub sites_disk : (answer : Answer) (before after : SinkState) (gave : Result Opened Failure) → (gave ≡ Err failure.Disk → ⊥) → IfErr gave (λ f. (answer ≡ Err f) × (after ≡ before)) → OnOk gave (IsSummingUp answer) → answer ≢ Err failure.Disk
sites_disk answer before after (Ok v) never unopened kinds e = elim kinds [
  | inl done ↦ let h : Ok Done ≡ Err failure.Disk = sym done ∙ e in cc
  | inr (inl output) ↦ let h : Err failure.Output ≡ Err failure.Disk = sym output ∙ e in cc
  | inr (inr memory) ↦ let h : Err failure.Memory ≡ Err failure.Disk = sym memory ∙ e in cc
]
sites_disk answer before after (Err f) never unopened kinds e =
    let h : Err f ≡ Err failure.Disk = sym unopened.0 ∙ e in
    let is : f ≡ failure.Disk = cc in
    never (ap Err is)
