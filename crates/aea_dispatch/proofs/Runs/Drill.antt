-- What holds of a run of `drill`, from what its own call ensures.
use Rattle.std.proofs.Common.{◌≢◌, [], inl, inr, Err}
use Rattle.std.specs.Prelude.{IsSome, unwrap_or}
use Rattle.aea_io.specs.Streams.{SourceState, SinkState}
use Rattle.aea_lattice.specs.declared.grid.Lattice.{Lattice}
use Rattle.aea_disk.specs.State.{State}
use Rattle.aea_disk.proofs.Moments.{where_none}
use Rattle.aea_dispatch.specs.declared.command.Command.TheVariants.{Drill}
use Rattle.aea_command.specs.declared.refusal.Failure.TheVariants as failure
use Rattle.aea_command.specs.Failures.{Answer, NeverClashes}
use Rattle.aea_command.specs.Causes.{Refuses}
use Rattle.aea_command_loss.specs.Drill.{DamageCauses, Drills}
use Rattle.aea_dispatch.specs.Does.{Runs}
use Rattle.aea_command.specs.Worlds.{world}
use Rattle.aea_command.proofs.OpeningCases.{images_same}
use Rattle.aea_command.proofs.Refusing.{refuses_by_revealed}
use Rattle.aea_command_loss.proofs.DrillLemmas.Refused.{revealed_is}

-- what `drill` did, when it is refused, and that no fault of the disk is returned give what holds of its run
pub drill_runs : (l : Lattice) (reveals : Type 0) (disk : State) (old new : SourceState) (before after : SinkState) (answer : Answer)
    → Drills l old new before after answer → Refuses (IsSome old.left) (DamageCauses l (unwrap_or old.left [])) answer → answer ≢ Err failure.Disk
    → NeverClashes answer
    → Runs (Drill l) (world reveals disk old before) (world reveals disk new after) answer
drill_runs l reveals disk old new before after answer drills refuses never honest = record {
  does = drills;
  refuses = λ early. refuses_by_revealed _ _ _ _ (λ why revealed. revealed.1 tt) refuses;
  disk_fits = λ revealed ready fits. never;
  output_fits = λ revealed fits e.
      let is = revealed_is old.left (revealed.input tt) in
      let outcome = (drills.planned (inr e) (unwrap_or old.left []) is).1 in
      let room = fits outcome.0 outcome.1 outcome.2 in
      ((drills.prints (unwrap_or old.left []) outcome.0 outcome.1 is outcome.2).in_room room.room room.revealed room.enough).0 e;
  honest = λ revealed is. honest;
  stays = where_none reveals _ disk;
  opens = λ revealed. inl (images_same disk);
}
