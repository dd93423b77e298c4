-- What holds of a run of `create`, from what its own call ensures.
use Rattle.std.proofs.Common.{◌≡◌, Err}
use Rattle.aea_io.specs.Streams.{SourceState, SinkState}
use Rattle.aea_lattice.specs.declared.shape.Shape.{Shape}
use Rattle.aea_disk.specs.Files.{ChangesOnly}
use Rattle.aea_disk.specs.Frames.{OnlyWrites}
use Rattle.aea_disk.specs.State.{State, IsReady}
use Rattle.aea_ledger.specs.Taking.{FitsMaking}
use Rattle.aea_disk.proofs.Frames.{writes_where}
use Rattle.aea_dispatch.specs.declared.command.Command.TheVariants.{Create}
use Rattle.aea_command.specs.declared.refusal.Failure.TheVariants as failure
use Rattle.aea_command.specs.Failures.{Answer, NeverClashes}
use Rattle.aea_command.specs.Causes.{Refuses}
use Rattle.aea_command_store.specs.Create.{CreateCauses, Creates}
use Rattle.aea_dispatch.specs.Does.{Runs}
use Rattle.aea_dispatch.proofs.Runs.Unrefused.{none_held}
use Rattle.aea_command.specs.Worlds.{world}
use Rattle.aea_command.proofs.OpeningCases.{opening_more}
use Rattle.aea_command.proofs.Refusing.{refuses_by_revealed}

-- what `create` did, when it is refused, and that it changes the ledger's file alone give what holds of its run
pub create_runs : (shape : Shape) (reveals : Type 0) (old new : State) (input : SourceState) (before after : SinkState) (answer : Answer)
    → Creates shape reveals old new before after answer → Refuses reveals (CreateCauses (old.files 0)) answer → OnlyWrites reveals (IsReady old) (FitsMaking old shape) (answer ≡ Err failure.Disk) (ChangesOnly 0) old new
    → NeverClashes answer
    → Runs (Create shape) (world reveals old input before) (world reveals new input after) answer
create_runs shape reveals old new input before after answer creates refuses writes honest = record {
  does = creates;
  refuses = λ early. refuses_by_revealed _ _ _ _ (λ why revealed. revealed.0 tt) refuses;
  disk_fits = λ revealed ready room. (creates.in_room revealed ready room).0;
  output_fits = λ revealed fits e. let room = fits (none_held _ _ answer refuses (λ why. revealed.disk tt) e) in (creates.prints.in_room room.room room.revealed room.enough).0 e;
  honest = λ revealed is. honest;
  stays = writes_where reveals _ _ _ _ _ old new (λ c d keeps f keep. keeps f keep) writes;
  opens = λ revealed. opening_more old new _ _ (λ c makes. makes.others) (creates.stops revealed);
}
