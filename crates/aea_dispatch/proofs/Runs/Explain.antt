-- What holds of a run of `explain`, from what its own call ensures.
use Rattle.std.proofs.Common.{◌≡◌, ◌≢◌, inl, inr, ℕ, List, refl, sym, ◌∙◌, subst, Result, Ok, Err}
use Rattle.std.specs.Prelude.{IfOk, IfErr}
use Rattle.aea_io.specs.Streams.{SourceState, SinkState}
use Rattle.aea_disk.specs.Files.{Files}
use Rattle.aea_disk.specs.State.{State}
use Rattle.aea_disk.proofs.Moments.{where_none, where_kept, passes_none}
use Rattle.aea_records.specs.Format.{digests_of}
use Rattle.aea_records.specs.Laws.{HasOneReading}
use Rattle.aea_ledger.specs.declared.open.OpenFault.{OpenFault}
use Rattle.aea_ledger.specs.Values.{Opened, IsThisOne}
use Rattle.aea_archive.specs.Blocks.{RevealsSurvivors}
use Rattle.aea_dispatch.specs.declared.command.Command.TheVariants.{Explain}
use Rattle.aea_command.specs.declared.refusal.Failure.{Failure}
use Rattle.aea_command.specs.declared.refusal.Failure.TheVariants as failure
use Rattle.aea_command.specs.Causes.{Refuses}
use Rattle.aea_dispatch.specs.Does.{Runs}
use Rattle.aea_command_loss.specs.Explain.{ExplainCauses, ExplainsBlock, ExplainsOpened, IsExplanationText, explanation_text}
use Rattle.aea_command.specs.Failures.{Answer, opening_failure, NeverClashes}
use Rattle.aea_command.specs.Printed.{FitsText}
use Rattle.aea_command.specs.Worlds.{world}
use Rattle.aea_command.proofs.OpeningCases.{opening_more, images_same, opening_not_output}
use Rattle.aea_command.proofs.Reading.{has_ledger_of}
use Rattle.aea_command.proofs.Refusing.{refuses_by_revealed, refuses_by_stopped}

-- where the output has space for the explanation, it does not fail
explain_fits : HasOneReading → (word : List ℕ) (reveals : Type 0) (files : Files) (before after : SinkState) (answer : Answer) (gave : Result Opened Failure) → reveals
    → IfOk gave (λ v. reveals → IsThisOne v (files 0)) → IfErr gave (λ f. (fault : OpenFault) × (f ≡ opening_failure fault)) → IfErr gave (λ f. (answer ≡ Err f) × (after ≡ before))
    → IfOk gave (λ v. ExplainsOpened word reveals v files before after answer)
    → ((text : List ℕ) → IsExplanationText files word text → FitsText before text) → answer ≢ Err failure.Output
explain_fits reading word reveals files before after answer (Ok v) revealed one kinds unopened does fits e =
    let here = one revealed in
    let by = does.some (inr e) in
    let room = fits (explanation_text by.block by.explanation) (record {
      shape = v.shape;
      records = here.records;
      ledger = has_ledger_of reading v (files 0) here;
      lattice = v.lattice;
      is_lattice = here.has.lattice;
      known = by.known;
      survivors = subst (λ (n : ℕ). RevealsSurvivors v.shape n (digests_of here.records) files by.known) here.has.lattice.n
          (subst (λ (ds : List (List ℕ)). RevealsSurvivors v.shape v.lattice.n ds files by.known) here.has.digests (by.survivors revealed));
      block = by.block;
      explanation = by.explanation;
      explains = by.explains;
      is = refl;
    }) in
    (by.printed.prints.in_room room.room room.revealed room.enough).0 e
explain_fits reading word reveals files before after answer (Err f) revealed one kinds unopened does fits e =
    let h : Err f ≡ Err failure.Output = sym unopened.0 ∙ e in
    let is : f ≡ failure.Output = cc in
    opening_not_output kinds.0 (sym kinds.1 ∙ is)

-- what `explain` did and when it is refused give what holds of its run
pub explain_runs : HasOneReading → (word : List ℕ) (reveals : Type 0) (old new : State) (input : SourceState) (before after : SinkState) (answer : Answer)
    → ExplainsBlock word reveals old new before after answer → Refuses reveals (ExplainCauses word (old.files 0)) answer
    → NeverClashes answer
    → Runs (Explain word) (world reveals old input before) (world reveals new input after) answer
explain_runs reading word reveals old new input before after answer explains refuses honest =
    let opens = explains.opens in
    record {
      does = inr explains;
      refuses = λ early. refuses_by_revealed _ _ _ _ (λ why revealed. revealed.0 tt) refuses;
      disk_fits = λ revealed ready room. (explains.reads.sure revealed ready room).0;
      output_fits = λ revealed fits. explain_fits reading word reveals old.files before after answer explains.opening (revealed.disk tt) opens.this_one opens.kinds explains.unopened explains.explains fits;
      honest = λ revealed is. honest;
      stays = where_kept reveals _ old old new (passes_none old) explains.reads.time explains.reads.crash explains.reads.contents (where_none reveals _ old);
      opens = λ revealed. opening_more old new _ _ (λ c stays f keep. stays f) (opens.stops revealed);
    }

-- memory ran out for the text of the block
pub unworded_runs : (word : List ℕ) (reveals : Type 0) (s : State) (input : SourceState) (out : SinkState) → Runs (Explain word) (world reveals s input out) (world reveals s input out) (Err failure.Memory)
unworded_runs word reveals s input out = record {
  does = inl (record { is = refl; images = images_same s; files = refl; disk = refl; out = refl });
  refuses = λ early. refuses_by_stopped _ _ (Err failure.Memory) (inr (inr refl));
  disk_fits = λ revealed ready room e. let h : (let answer : Answer = Err failure.Memory in answer ≡ Err failure.Disk) = e in cc;
  output_fits = λ revealed fits e. let h : (let answer : Answer = Err failure.Memory in answer ≡ Err failure.Output) = e in cc;
  honest = λ revealed is b recorded computed e. let h : (let answer : Answer = Err failure.Memory in answer ≡ Err (failure.Clash b recorded computed)) = e in cc;
  stays = where_none reveals _ s;
  opens = λ revealed. inl (images_same s);
}
