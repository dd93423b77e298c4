-- What a repair with its report on a sink in memory leaves.
use Rattle.std.proofs.Common.{◌≡◌, inl, ℕ, ◌-◌, ◌≤◌, Bool, List, [], ◌++◌, length, Some, Ok, refl, sym, ◌∙◌, ap, subst, arith}
use Rattle.std.specs.Prelude.{Result, vec_len}
use Rattle.std.proofs.lemmas.List.{append-nil}
use Rattle.aea_io.specs.declared.sure.SureSink.{SureSink}
use Rattle.aea_io.specs.Sure.{sure_sink_state}
use Rattle.aea_lattice.specs.declared.blocks.BlockId.{BlockId}
use Rattle.aea_lattice.specs.Data.{IsBytes}
use Rattle.aea_disk.specs.State.{State}
use Rattle.aea_report.specs.Format.{report_bytes}
use Rattle.aea_report.specs.Grammar.{IsReport}
use Rattle.aea_report.specs.Laws.{PrintedAreReports}
use Rattle.aea_ledger.specs.Values.{Opened}
use Rattle.aea_archive.specs.Blocks.{RevealsSurvivors}
use Rattle.aea_repair.specs.declared.fault.RepairFault.{RepairFault}
use Rattle.aea_repair.specs.declared.outcome.Outcome.{Outcome}
use Rattle.aea_repair.specs.Repairs.{Repairs}
use Rattle.aea_repair.specs.Reports.{HasReported}
use Rattle.aea_rehearse.specs.Checking.{IsReady}
use Rattle.aea_rehearse.specs.Altered.{IsMended}

-- the bytes on the sink are those of the report
printed_bytes : (before after sent piece : List ℕ) → before ≡ [] → after ≡ before ++ sent → [] ++ piece ≡ sent ++ [] → after ≡ piece
printed_bytes before after sent piece none appended whole =
    appended ∙ ap (λ (xs : List ℕ). xs ++ sent) none ∙ sym (append-nil sent) ∙ sym whole

pub mended : PrintedAreReports → (reveals : Type 0) (v : Opened) (old new : State) (room : ℕ) (before after : SureSink) (o : Outcome) → reveals → IsBytes 32 v.seal → before.bytes.items ≡ [] → IsReady v old room
    → ((known : BlockId → Bool) → RevealsSurvivors v.shape v.lattice.n v.digests old.files known → Repairs {T = Outcome} reveals v known old new (Ok o))
    → HasReported reveals v old.files new.files (sure_sink_state before) (sure_sink_state after) (Ok o)
    → IsMended v after.bytes.items old.files new.files o
mended law reveals v old new room before after o revealed seal none ready repairs r =
    let gathers = r.prints.bytes in
    let bytes = printed_bytes before.bytes.items after.bytes.items gathers.0 (report_bytes r.head r.lines) none gathers.1 gathers.2 in
    let report = law v.lattice ready.known (Some v.seal) r.head r.lines seal (r.report.each revealed ready.known ready.survivors) in
    let written = (repairs ready.known ready.survivors).alone.contents revealed in
    record {
      restores = λ known reveal. (repairs known reveal).restores;
      stays = λ known reveal. ((repairs known reveal).alone.contents revealed).homes;
      ledger = written.stay 0 (inl refl);
      head = r.head;
      lines = r.lines;
      report = subst (λ (xs : List ℕ). IsReport xs r.head r.lines) (sym bytes) report;
      printed = λ known reveal. r.report.each revealed known reveal;
      numbers = r.numbers;
      fits = λ intact reveal. r.fits revealed ready.plain intact reveal;
    }

-- the report has no more bytes than there is space for
pub report_fits_room : PrintedAreReports → (reveals : Type 0) (v : Opened) (old new : State) (before after : SureSink) (result : Result Outcome RepairFault) → reveals → IsBytes 32 v.seal → before.bytes.items ≡ [] → IsReady v old before.room
    → (r : HasReported reveals v old.files new.files (sure_sink_state before) (sure_sink_state after) result) → length (report_bytes r.head r.lines) ≤ before.room - vec_len before.bytes
report_fits_room law reveals v old new before after result revealed seal none ready r =
    let printed = r.report.each revealed ready.known ready.survivors in
    let report = law v.lattice ready.known (Some v.seal) r.head r.lines seal printed in
    let short = ready.fits r.head r.lines report printed in
    let empty = before.bytes.ok.0 in
    let zero = ap length none in
    omega (arith, short, empty, zero)
