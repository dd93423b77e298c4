-- What holds of a run of `session`, from what its call ensures.
use Rattle.std.proofs.Common.{◌≡◌, ◌≢◌, [], Err}
use Rattle.std.specs.Prelude.{IsSome, unwrap_or}
use Rattle.aea_io.specs.Streams.{SourceState, SinkState}
use Rattle.aea_disk.specs.State.{State}
use Rattle.aea_dispatch.specs.declared.command.Command.TheVariants.{Session}
use Rattle.aea_command.specs.declared.refusal.Failure.TheVariants as failure
use Rattle.aea_command.specs.Causes.{RefusesBy, IsDecided}
use Rattle.aea_dispatch.specs.Does.{Runs}
use Rattle.aea_command.specs.Failures.{Answer, NeverClashes}
use Rattle.aea_command.specs.Worlds.{world}
use Rattle.aea_command.proofs.Refusing.{refuses_by_revealed}
use Rattle.aea_command_store.specs.Put.{KeepsOtherFiles}
use Rattle.aea_command_session.specs.Causes.{SessionCauses, IsByInput}
use Rattle.aea_command_session.specs.Session.{Sessions}
use Rattle.aea_dispatch.proofs.Runs.Ingest.{is_known}

pub session_runs : (reveals : Type 0) (old new : State) (input input_after : SourceState) (before after : SinkState) (answer : Answer)
    → Sessions reveals old new input.left input_after.left before after answer
    → (answer ≢ Err failure.Output → RefusesBy (IsDecided reveals (IsSome input.left) IsByInput) (SessionCauses old.files (unwrap_or input.left [])) answer)
    → KeepsOtherFiles reveals (answer ≡ Err failure.Disk) old new
    → NeverClashes answer
    → Runs Session (world reveals old input before) (world reveals new input_after after) answer
session_runs reveals old new input input_after before after answer does refuses rest honest = record {
  does = does;
  refuses = λ early. refuses_by_revealed _ _ _ _ (λ why revealed. (revealed.0 tt, revealed.1)) (refuses (early tt));
  disk_fits = λ revealed ready fits. (does.in_room revealed ready fits).0;
  output_fits = λ revealed fits. does.replies_in_room (revealed.disk tt) (unwrap_or input.left []) (is_known input.left (revealed.input tt)) fits;
  honest = λ revealed is. honest;
  stays = rest.others;
  opens = rest.opens;
}
