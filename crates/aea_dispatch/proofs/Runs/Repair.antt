-- What holds of a run of `repair`, from what its own call ensures.
use Rattle.std.proofs.Common.{◌≡◌, ◌≢◌, inr, ℕ, List, refl, sym, ◌∙◌, subst, Result, Ok, Err}
use Rattle.std.specs.Prelude.{IfOk, IfErr}
use Rattle.aea_io.specs.Streams.{SourceState, SinkState}
use Rattle.aea_lattice.specs.declared.blocks.BlockId.{BlockId}
use Rattle.aea_lattice.specs.declared.grid.Lattice.{Lattice}
use Rattle.aea_disk.specs.Files.{Files}
use Rattle.aea_disk.specs.State.{State}
use Rattle.aea_records.specs.Format.{nodes_of, fences_of, digests_of}
use Rattle.aea_records.specs.Laws.{HasOneReading}
use Rattle.aea_report.specs.Format.{report_bytes}
use Rattle.aea_ledger.specs.declared.open.OpenFault.{OpenFault}
use Rattle.aea_ledger.specs.declared.open.OpenFault.TheVariants as opening
use Rattle.aea_ledger.specs.Recorded.{IsLatticeOf, AreRecordsOf}
use Rattle.aea_ledger.specs.Values.{Opened, IsThisOne}
use Rattle.aea_archive.specs.Blocks.{RevealsSurvivors}
use Rattle.aea_archive.specs.Data.{AreSurvivorsHonest}
use Rattle.aea_lattice.proofs.OneLattice.{lattice_equal}
use Rattle.aea_dispatch.specs.declared.command.Command.TheVariants.{Repair}
use Rattle.aea_command.specs.declared.refusal.Failure.{Failure}
use Rattle.aea_command.specs.declared.refusal.Failure.TheVariants as failure
use Rattle.aea_command.specs.Causes.{Refuses}
use Rattle.aea_dispatch.specs.Does.{Runs}
use Rattle.aea_command.specs.Failures.{Answer, opening_failure, NeverClashes}
use Rattle.aea_command.specs.Openings.{OpeningCauses, KeepsAllBut}
use Rattle.aea_command.specs.Honest.{HasHonestSurvivors}
use Rattle.aea_command.specs.Printed.{FitsText}
use Rattle.aea_command_loss.specs.Repair.{RepairsThen, IsUnopened, IsSiteFile, IsRepairText, RepairsArchive}
use Rattle.aea_command.specs.Worlds.{world}
use Rattle.aea_command.proofs.Reading.{has_ledger_of, from_reading}
use Rattle.aea_command.proofs.Refusing.{refuses_by_revealed}
use Rattle.aea_command_loss.proofs.RepairLemmas.Answering.{from_output, from_clash}
use Rattle.aea_command.proofs.OpeningCases.{opening_not_output}

-- an opening never fails by a clash
pub opening_not_clash : (fault : OpenFault) → (b : BlockId) (revealed computed : List ℕ) → opening_failure fault ≡ failure.Clash b revealed computed → ⊥
opening_not_clash opening.NoArchive b revealed computed e = cc
opening_not_clash (opening.LedgerBad at) b revealed computed e = cc
opening_not_clash opening.DiskFault b revealed computed e = cc
opening_not_clash opening.NoMemory b revealed computed e = cc

-- where the output has space for the report, it does not fail
repair_fits : HasOneReading → (reveals : Type 0) (old new : State) (before after : SinkState) (answer : Answer) (gave : Result Opened Failure) → reveals
    → IfOk gave (λ v. reveals → IsThisOne v (old.files 0)) → IfErr gave (λ f. IsUnopened reveals f old new before after answer) → IfOk gave (λ v. RepairsThen reveals v old new before after answer)
    → ((text : List ℕ) → IsRepairText old.files text → FitsText before text) → answer ≢ Err failure.Output
repair_fits reading reveals old new before after answer (Ok v) revealed one unopened (result, is, opened) fits e =
    let failed = from_output result (sym is ∙ e) in
    let report = opened.reports (inr failed) in
    let here = one revealed in
    let by = report.report in
    let room = fits (report_bytes report.head report.lines) (record {
      shape = v.shape;
      records = here.records;
      ledger = has_ledger_of reading v (old.files 0) here;
      lattice = v.lattice;
      is_lattice = here.has.lattice;
      known = by.known;
      survivors = subst (λ (n : ℕ). RevealsSurvivors v.shape n (digests_of here.records) old.files by.known) here.has.lattice.n
          (subst (λ (ds : List (List ℕ)). RevealsSurvivors v.shape v.lattice.n ds old.files by.known) here.has.digests (by.survivors revealed));
      head = report.head;
      lines = report.lines;
      printed = rw here.has.seal at by.printed;
      is = refl;
    }) in
    (opened.in_room revealed room.room by.known report.head report.lines room.revealed (by.survivors revealed) by.printed room.enough).0 failed
repair_fits reading reveals old new before after answer (Err f) revealed one unopened opened fits e =
    let h : Err f ≡ Err failure.Output = sym unopened.is ∙ e in
    let is : f ≡ failure.Output = cc in
    opening_not_output unopened.why.0 (sym unopened.why.1 ∙ is)

-- the intact blocks are honest for a data list that the opened ledger records
pub honest_here : HasOneReading → (v : Opened) (c : Files) (one : IsThisOne v (c 0)) (honest : HasHonestSurvivors c) → AreRecordsOf v.shape one.records honest.datas × AreSurvivorsHonest v.shape v.lattice v.digests honest.datas c
honest_here reading v c one honest =
    let there = from_reading reading v (c 0) one
    (λ shape records. (l : Lattice) → IsLatticeOf shape (nodes_of records) (fences_of records) l → AreRecordsOf shape records honest.datas × AreSurvivorsHonest shape l (digests_of records) honest.datas c)
    honest.shape honest.records honest.ledger
    (λ l is_l. (
      honest.recorded,
      subst (λ (m : Lattice). AreSurvivorsHonest honest.shape m (digests_of honest.records) honest.datas c)
          (lattice_equal honest.lattice l (honest.is_lattice.alpha ∙ sym is_l.alpha) (honest.is_lattice.s ∙ sym is_l.s) (honest.is_lattice.p ∙ sym is_l.p) (honest.is_lattice.n ∙ sym is_l.n) (honest.is_lattice.fences_are ∙ sym is_l.fences_are)) honest.honest,
    )) v.lattice one.has.lattice in
    (there.0, subst (λ (ds : List (List ℕ)). AreSurvivorsHonest v.shape v.lattice ds honest.datas c) (sym one.has.digests) there.1)

-- where they are, no digests clash
repair_honest : HasOneReading → (reveals : Type 0) (old new : State) (before after : SinkState) (answer : Answer) (gave : Result Opened Failure) → reveals
    → IfOk gave (λ v. reveals → IsThisOne v (old.files 0)) → IfErr gave (λ f. IsUnopened reveals f old new before after answer) → IfOk gave (λ v. RepairsThen reveals v old new before after answer)
    → HasHonestSurvivors old.files → NeverClashes answer
repair_honest reading reveals old new before after answer (Ok v) revealed one unopened (result, is, opened) honest b recorded computed e =
    let here = one revealed in
    let there = honest_here reading v old.files here honest in
    opened.no_clash revealed here.records honest.datas here.has there.0 there.1 b recorded computed (from_clash result b recorded computed (sym is ∙ e))
repair_honest reading reveals old new before after answer (Err f) revealed one unopened opened honest b recorded computed e =
    let h : Err f ≡ Err (failure.Clash b recorded computed) = sym unopened.is ∙ e in
    let is : f ≡ failure.Clash b recorded computed = cc in
    opening_not_clash unopened.why.0 b recorded computed (sym unopened.why.1 ∙ is)

-- what `repair` did and when it is refused give what holds of its run
pub repair_runs : HasOneReading → (reveals : Type 0) (old new : State) (input : SourceState) (before after : SinkState) (answer : Answer)
    → RepairsArchive reveals old new before after answer → Refuses reveals (OpeningCauses (old.files 0)) answer → KeepsAllBut IsSiteFile reveals (answer ≡ Err failure.Disk) old new
    → Runs Repair (world reveals old input before) (world reveals new input after) answer
repair_runs reading reveals old new input before after answer repairs refuses rest = record {
  does = repairs;
  refuses = λ early. refuses_by_revealed _ _ _ _ (λ why revealed. revealed.0 tt) refuses;
  disk_fits = λ revealed ready fits. (repairs.in_room revealed ready fits).0;
  output_fits = λ revealed fits. repair_fits reading reveals old new before after answer repairs.opening (revealed.disk tt) repairs.this_one repairs.unopened repairs.opened fits;
  honest = λ revealed is. repair_honest reading reveals old new before after answer repairs.opening (revealed tt) repairs.this_one repairs.unopened repairs.opened is;
  stays = rest.others;
  opens = rest.opens;
}
