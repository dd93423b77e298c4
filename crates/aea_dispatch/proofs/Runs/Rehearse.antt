-- What holds of a run of `rehearse`.
use Rattle.std.proofs.Common.{◌≢◌, ℕ, inl, inr, Err}
use Rattle.aea_io.specs.Streams.{SourceState, SinkState}
use Rattle.aea_disk.specs.State.{State}
use Rattle.aea_disk.proofs.Moments.{where_none}
use Rattle.aea_dispatch.specs.declared.command.Command.TheVariants.{Rehearse}
use Rattle.aea_command.specs.declared.refusal.Refusal.{Refusal}
use Rattle.aea_command.specs.declared.refusal.Failure.TheVariants as failure
use Rattle.aea_dispatch.specs.Does.{NeverRefused, Runs}
use Rattle.aea_command.specs.Failures.{Answer, NeverClashes}
use Rattle.aea_command_loss.specs.Rehearse.{Rehearses}
use Rattle.aea_command.specs.Worlds.{world}
use Rattle.aea_command.proofs.OpeningCases.{images_same}
use Rattle.aea_command.proofs.Refusing.{refuses_by_none}

-- what `rehearse` did, that it is never refused, and that no fault of the disk is returned give what holds of its run
pub rehearse_runs : (number nodes permille : ℕ) (reveals : Type 0) (disk : State) (input : SourceState) (before after : SinkState) (answer : Answer)
    → Rehearses number nodes permille before after answer → ((why : Refusal) → answer ≢ Err (failure.Refused why)) → answer ≢ Err failure.Disk
    → NeverClashes answer
    → Runs (Rehearse number nodes permille) (world reveals disk input before) (world reveals disk input after) answer
rehearse_runs number nodes permille reveals disk input before after answer rehearses never fine honest = record {
  does = rehearses;
  refuses = λ early. refuses_by_none _ NeverRefused answer never (λ why revealed first. first.stands);
  disk_fits = λ revealed ready fits. fine;
  output_fits = λ revealed fits e.
      let by = rehearses.rehearsed (inr e) in
      let room = fits by.0 by.1 in
      (by.2.prints.in_room room.room room.revealed room.enough).0 e;
  honest = λ revealed is. honest;
  stays = where_none reveals _ disk;
  opens = λ revealed. inl (images_same disk);
}
