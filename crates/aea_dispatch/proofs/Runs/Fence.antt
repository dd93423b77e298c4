-- What holds of a run of `fence`.
use Rattle.std.proofs.Common.{◌≡◌, inr, Err}
use Rattle.aea_io.specs.Streams.{SourceState, SinkState}
use Rattle.aea_disk.specs.State.{State}
use Rattle.aea_dispatch.specs.declared.command.Command.TheVariants.{Fence}
use Rattle.aea_command.specs.declared.refusal.Failure.TheVariants as failure
use Rattle.aea_command_store.specs.Adding.{KeepsTheRest}
use Rattle.aea_command.specs.Causes.{Refuses}
use Rattle.aea_dispatch.specs.Does.{Runs}
use Rattle.aea_dispatch.proofs.Runs.Unrefused.{none_held}
use Rattle.aea_command.specs.Failures.{Answer, NeverClashes}
use Rattle.aea_command_store.specs.Fence.{next_fence, FenceCauses, Fences}
use Rattle.aea_command.specs.Worlds.{world}
use Rattle.aea_command_store.proofs.Adding.Running.{rest_stays, adds_opens}
use Rattle.aea_command.proofs.Refusing.{refuses_by_revealed}

-- what `fence` did, when it is refused, and that it keeps each other file give what holds of its run
pub fence_runs : (reveals : Type 0) (old new : State) (input : SourceState) (before after : SinkState) (answer : Answer)
    → Fences reveals old new before after answer → Refuses reveals (FenceCauses (old.files 0)) answer → KeepsTheRest reveals (answer ≡ Err failure.Disk) old new
    → NeverClashes answer
    → Runs Fence (world reveals old input before) (world reveals new input after) answer
fence_runs reveals old new input before after answer fences refuses rest honest = record {
  does = fences;
  refuses = λ early. refuses_by_revealed _ _ _ _ (λ why revealed. revealed.0 tt) refuses;
  disk_fits = λ revealed ready fits. (fences.adds.in_room revealed ready fits).0;
  output_fits = λ revealed fits e.
      let stands = fences.adds.stands (inr e) (revealed.disk tt) in
      let room = fits (none_held _ _ answer refuses (λ why. revealed.disk tt) e) stands.0.shape stands.0.records stands.0.before in
      ((fences.prints (revealed.disk tt) stands.0.shape stands.0.records stands.0.before).in_room room.room room.revealed room.enough).0 e;
  honest = λ revealed is. honest;
  stays = rest_stays reveals _ old new rest;
  opens = adds_opens next_fence reveals old new answer fences.adds;
}
