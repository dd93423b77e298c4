-- What holds of a run of `scrub`, from what its own call ensures.
use Rattle.std.proofs.Common.{◌≡◌, ◌≢◌, ◌⊎◌, inr, sym, ◌∙◌, Bool, Result, Ok, Err}
use Rattle.std.specs.Prelude.{IsOk, IfOk, IfErr}
use Rattle.aea_io.specs.Streams.{SourceState, SinkState}
use Rattle.aea_lattice.specs.declared.blocks.BlockId.{BlockId}
use Rattle.aea_lattice.specs.declared.grid.Lattice.{Lattice}
use Rattle.aea_disk.specs.Files.{Files}
use Rattle.aea_disk.specs.State.{State}
use Rattle.aea_disk.proofs.Moments.{where_none, where_kept, passes_none}
use Rattle.aea_ledger.specs.declared.open.OpenFault.{OpenFault}
use Rattle.aea_ledger.specs.Values.{Opened}
use Rattle.aea_dispatch.specs.declared.command.Command.TheVariants.{Scrub}
use Rattle.aea_command.specs.declared.refusal.Failure.{Failure}
use Rattle.aea_command.specs.declared.refusal.Failure.TheVariants as failure
use Rattle.aea_command.specs.Causes.{Refuses}
use Rattle.aea_dispatch.specs.Does.{Runs}
use Rattle.aea_command.specs.Failures.{Answer, opening_failure, NeverClashes}
use Rattle.aea_command.specs.Openings.{OpeningCauses}
use Rattle.aea_command.specs.Printed.{FitsText}
use Rattle.aea_command_read.specs.Scrub.{Scrubs, RevealsIntact, PrintsDamage, scrub_text}
use Rattle.aea_command.specs.Worlds.{world}
use Rattle.aea_command.proofs.OpeningCases.{opening_more, opening_not_output}
use Rattle.aea_command.proofs.Refusing.{refuses_by_revealed}

unopened_fits : (answer : Answer) (before after : SinkState) (f : Failure) → ((fault : OpenFault) × (f ≡ opening_failure fault)) → (answer ≡ Err f) × (after ≡ before) → answer ≢ Err failure.Output
unopened_fits answer before after f kinds unopened e =
    let h : Err f ≡ Err failure.Output = sym unopened.0 ∙ e in
    let is : f ≡ failure.Output = cc in
    opening_not_output kinds.0 (sym kinds.1 ∙ is)

printed_fits : (reveals : Type 0) (c : Files) (answer : Answer) (before after : SinkState) (v : Opened) → reveals
    → (IsOk answer ⊎ (answer ≡ Err failure.Output) → (intact : BlockId → Bool) × ((reveals → RevealsIntact c v.lattice intact) × PrintsDamage v.lattice intact before after answer))
    → ((l : Lattice) (intact : BlockId → Bool) → RevealsIntact c l intact → FitsText before (scrub_text l intact)) → answer ≢ Err failure.Output
printed_fits reveals c answer before after v revealed some fits e =
    let by = some (inr e) in
    let room = fits v.lattice by.0 (by.1.0 revealed) in
    (by.1.1.prints.in_room room.room room.revealed room.enough).0 e

-- where the output has space for the text of the damaged blocks, it does not fail
scrub_fits : (reveals : Type 0) (c : Files) (answer : Answer) (before after : SinkState) (gave : Result Opened Failure) → reveals
    → IfErr gave (λ f. (fault : OpenFault) × (f ≡ opening_failure fault)) → IfErr gave (λ f. (answer ≡ Err f) × (after ≡ before))
    → IfOk gave (λ v. IsOk answer ⊎ (answer ≡ Err failure.Output) → (intact : BlockId → Bool) × ((reveals → RevealsIntact c v.lattice intact) × PrintsDamage v.lattice intact before after answer))
    → ((l : Lattice) (intact : BlockId → Bool) → RevealsIntact c l intact → FitsText before (scrub_text l intact)) → answer ≢ Err failure.Output
scrub_fits reveals c answer before after (Ok v) revealed kinds unopened some fits = printed_fits reveals c answer before after v revealed some fits
scrub_fits reveals c answer before after (Err f) revealed kinds unopened some fits = unopened_fits answer before after f kinds unopened

-- what `scrub` did and when it is refused give what holds of its run
pub scrub_runs : (reveals : Type 0) (old new : State) (input : SourceState) (before after : SinkState) (answer : Answer)
    → Scrubs reveals old new before after answer → Refuses reveals (OpeningCauses (old.files 0)) answer
    → NeverClashes answer
    → Runs Scrub (world reveals old input before) (world reveals new input after) answer
scrub_runs reveals old new input before after answer scrubs refuses honest = record {
  does = scrubs;
  refuses = λ early. refuses_by_revealed _ _ _ _ (λ why revealed. revealed.0 tt) refuses;
  disk_fits = λ revealed ready room. (scrubs.reads.sure revealed ready room).0;
  output_fits = λ revealed fits. scrub_fits reveals old.files answer before after scrubs.opening (revealed.disk tt) scrubs.opens.kinds scrubs.unopened scrubs.some fits;
  honest = λ revealed is. honest;
  stays = where_kept reveals _ old old new (passes_none old) scrubs.reads.time scrubs.reads.crash scrubs.reads.contents (where_none reveals _ old);
  opens = λ revealed. opening_more old new _ _ (λ c stays f keep. stays f) (scrubs.opens.stops revealed);
}
