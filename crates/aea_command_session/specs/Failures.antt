-- The failures that the faults of a session are.
use Rattle.aea_session.specs.declared.begin.BeginFault.{BeginFault}
use Rattle.aea_session.specs.declared.begin.BeginFault.TheVariants as begin
use Rattle.aea_session.specs.declared.fault.TakeFault.{TakeFault}
use Rattle.aea_session.specs.declared.fault.TakeFault.TheVariants as take
use Rattle.aea_session.specs.declared.serving.Stop.{Stop}
use Rattle.aea_session.specs.declared.serving.Stop.TheVariants as stop
use Rattle.aea_command.specs.declared.refusal.Refusal.TheVariants as refusal
use Rattle.aea_command.specs.declared.refusal.Failure.{Failure}
use Rattle.aea_command.specs.declared.refusal.Failure.TheVariants as failure

-- the failure where no session was begun
abbrev pub begin_failure : BeginFault → Failure
begin_failure begin.NotUpgraded = failure.Refused refusal.NotUpgraded
begin_failure (begin.HeadDamaged block) = failure.Refused (refusal.HeadDamaged block)
begin_failure begin.DiskFault = failure.Disk
begin_failure begin.NoMemory = failure.Memory

-- the failure where a message was not taken
abbrev pub take_failure : TakeFault → Failure
take_failure (take.Damaged block) = failure.Refused (refusal.Damaged block)
take_failure take.DiskFault = failure.Disk
take_failure take.WriteFault = failure.Output
take_failure take.NoMemory = failure.Memory

-- the failure where the messages ended before the input did
abbrev pub stop_failure : Stop → Failure
stop_failure (stop.BadMessage at) = failure.Refused (refusal.BadMessage at)
stop_failure (stop.BadStream at) = failure.Refused (refusal.BadStream at)
stop_failure stop.TooManyMessages = failure.Refused refusal.TooManyMessages
stop_failure stop.Input = failure.Input
stop_failure stop.Memory = failure.Memory
stop_failure (stop.Taken fault) = take_failure fault
