-- What holds of a run of `verify`, from what its own call ensures.
use Rattle.std.proofs.Common.{◌≡◌, ◌≢◌, ℕ, List, [], refl, sym, ◌∙◌, subst, Result, Ok, Err}
use Rattle.std.specs.Prelude.{IfOk, IfErr, IsSome, unwrap_or}
use Rattle.aea_io.specs.Streams.{SourceState, SinkState}
use Rattle.aea_disk.specs.Files.{Files}
use Rattle.aea_disk.specs.State.{State}
use Rattle.aea_disk.proofs.Moments.{where_none, where_kept, passes_none}
use Rattle.aea_records.specs.Format.{nodes_of}
use Rattle.aea_records.specs.Laws.{HasOneReading}
use Rattle.aea_ledger.specs.declared.open.OpenFault.{OpenFault}
use Rattle.aea_ledger.specs.Values.{Opened, IsThisOne}
use Rattle.aea_archive.specs.Blocks.{RevealsSurvivors}
use Rattle.aea_verify.specs.declared.verdict.Verdict.{Verdict}
use Rattle.aea_verify.specs.declared.verdict.VerifyFault.{VerifyFault}
use Rattle.aea_verify.specs.Answers.{IsJudged}
use Rattle.aea_dispatch.specs.declared.command.Command.TheVariants.{Verify}
use Rattle.aea_command.specs.declared.refusal.Failure.{Failure}
use Rattle.aea_command.specs.declared.refusal.Failure.TheVariants as failure
use Rattle.aea_command.specs.Causes.{RefusesBy, IsDecided}
use Rattle.aea_command.specs.Openings.{IsAfterOpening}
use Rattle.aea_dispatch.specs.Does.{Runs}
use Rattle.aea_command.specs.Failures.{Answer, opening_failure, verify_failure, NeverClashes}
use Rattle.aea_command.specs.Printed.{FitsText}
use Rattle.aea_command_loss.specs.Verify.{Judges, Verifies, IsUnread, IsVerdictText, VerifyCauses, verdict_text}
use Rattle.aea_command.specs.Worlds.{world}
use Rattle.aea_command_loss.proofs.DrillLemmas.Refused.{revealed_is}
use Rattle.aea_command.proofs.OpeningCases.{opening_more, opening_not_output}
use Rattle.aea_command.proofs.Reading.{has_ledger_of}
use Rattle.aea_command.proofs.Refusing.{refuses_by_revealed}
use Rattle.aea_command_loss.proofs.VerifyLemmas.Answering.{never_output}

-- the text of the verdict on the input is that of a verdict in the archive's words
text_there : HasOneReading → (v : Opened) (files : Files) (input : List ℕ) (verdict : Verdict) → IsThisOne v (files 0) → IsJudged v files input verdict → IsVerdictText files input (verdict_text verdict)
text_there reading v files input verdict here judged = record {
  shape = v.shape;
  records = here.records;
  ledger = has_ledger_of reading v (files 0) here;
  lattice = v.lattice;
  is_lattice = here.has.lattice;
  head = judged.head;
  lines = judged.lines;
  report = judged.report;
  verdict = verdict;
  verdict_is = λ intact survivors.
      rw here.has.seal at
      judged.verdict_is intact
      (subst (λ (n : ℕ). RevealsSurvivors v.shape n v.digests files intact) (sym here.has.lattice.n)
      (subst (λ (ds : List (List ℕ)). RevealsSurvivors v.shape (nodes_of here.records) ds files intact) (sym here.has.digests) survivors));
  is = refl;
}

-- where the output has space for the verdict, it does not fail
judged_fits : HasOneReading → (reveals : Type 0) (v : Opened) (files : Files) (input rest : SourceState) (before after : SinkState) (r : Result Verdict VerifyFault) (answer : Answer)
    → reveals → IsSome input.left → IsThisOne v (files 0) → Judges reveals v files input rest before after r answer
    → ((text : List ℕ) → IsVerdictText files (unwrap_or input.left []) text → FitsText before text) → answer ≢ Err failure.Output
judged_fits reading reveals v files input rest before after (Ok verdict) answer revealed some here judges fits e =
    let report = unwrap_or input.left [] in
    let judged : IsJudged v files report verdict = judges.answers revealed report (revealed_is input.left some) in
    let room = fits (verdict_text verdict) (text_there reading v files report verdict here judged) in
    (judges.prints.prints.in_room room.room room.revealed room.enough).0 e
judged_fits reading reveals v files input rest before after (Err fault) answer revealed some here judges fits e =
    let h : Err (verify_failure fault) ≡ Err failure.Output = sym judges.unjudged.0 ∙ e in
    never_output fault cc

verify_fits : HasOneReading → (reveals : Type 0) (files : Files) (input rest : SourceState) (before after : SinkState) (answer : Answer) (gave : Result Opened Failure) → reveals → IsSome input.left
    → IfOk gave (λ v. reveals → IsThisOne v (files 0)) → IfErr gave (λ f. (fault : OpenFault) × (f ≡ opening_failure fault))
    → IfErr gave (λ f. IsUnread f input rest before after answer)
    → IfOk gave (λ v. (result : Result Verdict VerifyFault) × Judges reveals v files input rest before after result answer)
    → ((text : List ℕ) → IsVerdictText files (unwrap_or input.left []) text → FitsText before text) → answer ≢ Err failure.Output
verify_fits reading reveals files input rest before after answer (Ok v) revealed some one kinds unopened judges fits =
    judged_fits reading reveals v files input rest before after judges.0 answer revealed some (one revealed) judges.1 fits
verify_fits reading reveals files input rest before after answer (Err f) revealed some one kinds unopened judges fits = λ e.
    let h : Err f ≡ Err failure.Output = sym unopened.is ∙ e in
    let is : f ≡ failure.Output = cc in
    opening_not_output kinds.0 (sym kinds.1 ∙ is)

-- what `verify` did and when it is refused give what holds of its run
pub verify_runs : HasOneReading → (reveals : Type 0) (old new : State) (input rest : SourceState) (before after : SinkState) (answer : Answer)
    → Verifies reveals old new input rest before after answer → RefusesBy (IsDecided reveals (IsSome input.left) IsAfterOpening) (VerifyCauses (old.files 0) (unwrap_or input.left [])) answer
    → NeverClashes answer
    → Runs Verify (world reveals old input before) (world reveals new rest after) answer
verify_runs reading reveals old new input rest before after answer verifies refuses honest =
    let opens = verifies.opens in
    record {
      does = verifies;
      refuses = λ early. refuses_by_revealed _ _ _ _ (λ why revealed. (revealed.0 tt, revealed.1)) refuses;
      disk_fits = λ revealed ready room. (verifies.reads.sure revealed ready room).0;
      output_fits = λ revealed fits. verify_fits reading reveals old.files input rest before after answer verifies.opening (revealed.disk tt) (revealed.input tt) opens.this_one opens.kinds verifies.unopened verifies.judges fits;
      honest = λ revealed is. honest;
      stays = where_kept reveals _ old old new (passes_none old) verifies.reads.time verifies.reads.crash verifies.reads.contents (where_none reveals _ old);
      opens = λ revealed. opening_more old new _ _ (λ c stays f keep. stays f) (opens.stops revealed);
    }
