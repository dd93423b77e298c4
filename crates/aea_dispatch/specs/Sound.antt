-- What is so of every answer, whatever the command.
use Rattle.std.specs.Prelude.{◌≡◌, ◌≢◌, ◌≤◌, Err, IfOk, OnOk}
use Rattle.aea_faults.specs.Faults.{Rose}
use Rattle.aea_io.specs.Written.{IsFlushed}
use Rattle.aea_disk.specs.State.{IsReady}
use Rattle.aea_command.specs.declared.refusal.Failure.TheVariants as failure
use Rattle.aea_command.specs.Failures.{Answer, IsWell}
use Rattle.aea_command.specs.Worlds.{World}

-- Of an answer, with the world before and after it: where all work was done, all is flushed; counts of faults never fall,
-- a fault is returned only where its count rose, and where it is not returned its count is what it was; a ready disk whose
-- contents are known is at fault only where the count beneath rose.
pub record IsSound (old new : World) (answer : Answer) : Type 0 where
  pub well : IfOk answer IsWell
  pub flushed : OnOk answer (IsFlushed new.out)
  pub disk_kept : old.disk.faults ≤ new.disk.faults
  pub input_kept : old.input.faults ≤ new.input.faults
  pub out_kept : old.out.faults ≤ new.out.faults
  pub disk_cause : answer ≡ Err failure.Disk → Rose old.disk.faults new.disk.faults
  pub input_cause : answer ≡ Err failure.Input → Rose old.input.faults new.input.faults
  pub out_cause : answer ≡ Err failure.Output → Rose old.out.faults new.out.faults
  pub disk_beneath : old.reveals → IsReady old.disk → answer ≡ Err failure.Disk → Rose old.disk.beneath new.disk.beneath
  pub disk_still : answer ≢ Err failure.Disk → new.disk.faults ≡ old.disk.faults
  pub input_still : answer ≢ Err failure.Input → new.input.faults ≡ old.input.faults
  pub out_still : answer ≢ Err failure.Output → new.out.faults ≡ old.out.faults
