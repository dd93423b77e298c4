-- What holds of a run of `copies`, over a disk that keeps copies up.
use Rattle.std.proofs.Common.{◌≡◌, ◌≢◌, ◌≤◌, Bool, Ok, Err, inl, refl, ap, arith}
use Rattle.std.specs.Prelude.{IfOk, OnOk}
use Rattle.aea_faults.specs.Faults.{Rose}
use Rattle.aea_io.specs.Written.{IsFlushed}
use Rattle.aea_io.specs.Streams.{SourceState, SinkState}
use Rattle.aea_disk.specs.Files.{Files}
use Rattle.aea_disk.specs.State.{State}
use Rattle.aea_dispatch.specs.declared.command.Command.TheVariants.{Copies}
use Rattle.aea_dispatch.specs.Does.{Runs}
use Rattle.aea_dispatch.proofs.Runs.Unrefused.{none_held}
use Rattle.aea_command.specs.Causes.{Refuses}
use Rattle.aea_command.specs.declared.refusal.Failure.TheVariants as failure
use Rattle.aea_command.specs.declared.status.Status.TheVariants.{Done}
use Rattle.aea_command.specs.Failures.{Answer, NeverClashes, IsWell}
use Rattle.aea_command.specs.Worlds.{world}
use Rattle.aea_command.proofs.OpeningCases.{opening_more}
use Rattle.aea_command.proofs.Refusing.{refuses_by_revealed}
use Rattle.aea_command_copies.specs.Copies.{CopiesCauses, Begins, BeginsOver}
use Rattle.aea_dispatch.specs.Sound.{IsSound}

-- what `copies` did and when it is refused give what holds of its run
pub copies_runs : (reveals : Type 0) (old new : State) (input : SourceState) (before after : SinkState) (answer : Answer)
    → Begins reveals old new before after answer → Refuses reveals (CopiesCauses (old.files 0) old.lent.set) answer → NeverClashes answer
    → Runs Copies (world reveals old input before) (world reveals new input after) answer
copies_runs reveals old new input before after answer begins refuses honest = record {
  does = begins;
  refuses = λ early. refuses_by_revealed _ _ _ _ (λ why revealed. revealed.0 tt) refuses;
  disk_fits = λ revealed ready fits. begins.in_room revealed ready fits;
  output_fits = λ revealed fits e.
      let room = fits (none_held _ _ answer refuses (λ why. revealed.disk tt) e) in
      (begins.prints.in_room room.room room.revealed room.enough).0 e;
  honest = λ revealed is. honest;
  stays = record {
    reads = λ revealed f keep. ap (λ (c : Files). c f) (begins.contents revealed);
    images = λ t c from to here. (c, begins.images t c from to here, λ f keep. refl);
  };
  opens = λ revealed. opening_more old new _ _ (λ c stays f keep. stays f) (begins.stops revealed);
}

is_well : (answer : Answer) → IfOk answer (λ status. status ≡ Done) → IfOk answer IsWell
is_well (Ok status) done = inl done
is_well (Err f) done = tt

-- and they give what is so of its answer
pub copies_sound : (reveals : Type 0) (on : Bool) (begun : Type 0) (lent left old new : State) (input : SourceState) (before after : SinkState) (answer : Answer) → Begins reveals old new before after answer
    → BeginsOver reveals on (answer ≡ Err failure.Disk) begun lent left old new → answer ≢ Err failure.Input → OnOk answer (IsFlushed after) → before.faults ≤ after.faults → (answer ≡ Err failure.Output → Rose before.faults after.faults)
    → (answer ≢ Err failure.Output → after.faults ≡ before.faults) → IsSound (world reveals old input before) (world reveals new input after) answer
copies_sound reveals on begun lent left old new input before after answer begins over never flushed kept cause still = record {
  well = is_well answer begins.done;
  flushed = flushed;
  disk_kept = over.kept;
  input_kept = omega arith;
  out_kept = kept;
  disk_cause = over.cause;
  input_cause = λ e. absurd (never e);
  out_cause = cause;
  disk_beneath = over.beneath;
  disk_still = over.still;
  input_still = λ no. refl;
  out_still = still;
}
