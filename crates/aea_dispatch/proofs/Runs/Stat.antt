-- What holds of a run of `stat`, from what its own call ensures.
use Rattle.std.proofs.Common.{◌≡◌, ◌≢◌, List, ℕ, length, refl, sym, ◌∙◌, ap, Result, Ok, Err}
use Rattle.std.specs.Prelude.{OnOk, IfOk, IfErr}
use Rattle.aea_io.specs.Streams.{SourceState, SinkState}
use Rattle.aea_disk.specs.State.{State}
use Rattle.aea_disk.proofs.Moments.{where_none, where_kept, passes_none}
use Rattle.aea_ledger.specs.declared.open.OpenFault.{OpenFault}
use Rattle.aea_records.specs.Format.{Record, stored_of, nodes_of}
use Rattle.aea_ledger.specs.Values.{Opened, HasRecords, IsThisOne}
use Rattle.aea_dispatch.specs.declared.command.Command.TheVariants.{Stat}
use Rattle.aea_command.specs.declared.refusal.Failure.{Failure}
use Rattle.aea_command.specs.declared.refusal.Failure.TheVariants as failure
use Rattle.aea_command.specs.Failures.{Answer, opening_failure, NeverClashes}
use Rattle.aea_command.specs.Causes.{Refuses}
use Rattle.aea_command.specs.Openings.{OpeningCauses}
use Rattle.aea_command.specs.Printed.{FitsText, PrintsText}
use Rattle.aea_command_read.specs.Stat.{stat_line, Stats, IsStatOf}
use Rattle.aea_dispatch.specs.Does.{Runs}
use Rattle.aea_command.specs.Worlds.{world}
use Rattle.aea_command.proofs.OpeningCases.{opening_more, opening_not_output}
use Rattle.aea_command.proofs.Refusing.{refuses_by_revealed}
use Rattle.aea_command_read.proofs.StatLemmas.{IsRevealing, revealing_never}

same_failure : (answer : Answer) (f g : Failure) → answer ≡ Err f → answer ≡ Err g → f ≡ g
same_failure answer f g one two = let h : Err f ≡ Err g = sym one ∙ two in cc

no_disk : (answer : Answer) (gave : Result Opened Failure) → (gave ≡ Err failure.Disk → ⊥) → IfErr gave (λ f. answer ≡ Err f) → OnOk gave (IsRevealing answer) → answer ≢ Err failure.Disk
no_disk answer (Ok v) never unopened revealing e = revealing_never answer failure.Disk revealing (λ d. cc) (λ d. cc) e
no_disk answer (Err f) never unopened revealing e = never (ap Err (same_failure answer f failure.Disk unopened e))

err_part : {T : Type 0} (gave : Result T Failure) (P Q : Failure → Type 0) → ((f : Failure) → P f → Q f) → IfErr gave P → IfErr gave Q
err_part (Ok v) P Q from h = tt
err_part (Err f) P Q from h = from f h

no_output : (answer : Answer) (gave : Result Opened Failure) (bytes : List ℕ) (before after : SinkState) → IfOk gave (λ v. IsThisOne v bytes) → IfErr gave (λ f. (fault : OpenFault) × (f ≡ opening_failure fault))
    → IfErr gave (λ f. answer ≡ Err f)
    → IfOk gave (λ v. (records : List Record) → HasRecords v records → PrintsText before after answer (stat_line v.shape (nodes_of records) (length (stored_of records))))
    → ((text : List ℕ) → IsStatOf bytes text → FitsText before text) → answer ≢ Err failure.Output
no_output answer (Ok v) bytes before after one kinds unopened prints fits e =
    let line = stat_line v.shape (nodes_of one.records) (length (stored_of one.records)) in
    let room = fits line (record { shape = v.shape; records = one.records; end = v.end; ledger = one.ledger; line = refl }) in
    ((prints one.records one.has).in_room room.room room.revealed room.enough).0 e
no_output answer (Err f) bytes before after one kinds unopened prints fits e =
    opening_not_output kinds.0 (sym kinds.1 ∙ same_failure answer f failure.Output unopened e)

ok_revealed : (reveals : Type 0) (gave : Result Opened Failure) (bytes : List ℕ) → reveals → IfOk gave (λ v. reveals → IsThisOne v bytes) → IfOk gave (λ v. IsThisOne v bytes)
ok_revealed reveals (Ok v) bytes revealed one = one revealed
ok_revealed reveals (Err f) bytes revealed one = tt

-- what `stat` did and when it is refused give what holds of its run
pub stat_runs : (reveals : Type 0) (old new : State) (input : SourceState) (before after : SinkState) (answer : Answer)
    → Stats reveals old new before after answer → Refuses reveals (OpeningCauses (old.files 0)) answer
    → NeverClashes answer
    → Runs Stat (world reveals old input before) (world reveals new input after) answer
stat_runs reveals old new input before after answer stats refuses honest =
    let opens = stats.opens in
    let answered = err_part stats.opening (λ f. (answer ≡ Err f) × (after ≡ before)) (λ f. answer ≡ Err f) (λ f h. h.0) stats.unopened in
    record {
      does = stats;
      refuses = λ early. refuses_by_revealed _ _ _ _ (λ why revealed. revealed.0 tt) refuses;
      disk_fits = λ revealed ready room. no_disk answer stats.opening (opens.reads.sure revealed ready room).0 answered stats.kinds;
      output_fits = λ revealed fits. no_output answer stats.opening (old.files 0) before after (ok_revealed reveals stats.opening (old.files 0) (revealed.disk tt) opens.this_one) opens.kinds answered stats.prints fits;
      honest = λ revealed is. honest;
      stays = where_kept reveals _ old old new (passes_none old) opens.reads.time opens.reads.crash opens.reads.contents (where_none reveals _ old);
      opens = λ revealed. opening_more old new _ _ (λ c stays f keep. stays f) (opens.stops revealed);
    }
