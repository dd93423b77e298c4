-- What the failures of a run are by: which faults are of the disk, of the input and of the output.
use Rattle.std.proofs.Common.{◌≡◌, ◌≢◌, ℕ, List, refl, ap, subst, Result, Err}
use Rattle.aea_lattice.specs.declared.blocks.BlockId.{BlockId}
use Rattle.aea_session.specs.declared.begin.BeginFault.{BeginFault}
use Rattle.aea_session.specs.declared.begin.BeginFault.TheVariants as begin
use Rattle.aea_session.specs.declared.fault.TakeFault.TheVariants as take
use Rattle.aea_session.specs.declared.serving.Stop.{Stop}
use Rattle.aea_session.specs.declared.serving.Stop.TheVariants as stop
use Rattle.aea_command.specs.declared.refusal.Refusal.{Refusal}
use Rattle.aea_command.specs.declared.refusal.Refusal.TheVariants as refusal
use Rattle.aea_command.specs.declared.refusal.Failure.{Failure}
use Rattle.aea_command.specs.declared.refusal.Failure.TheVariants as failure
use Rattle.aea_command.specs.Failures.{Answer, NeverClashes}
use Rattle.aea_command.specs.Openings.{IsAfterOpening}
use Rattle.aea_command_session.specs.Failures.{begin_failure, stop_failure}

-- an answer with a failure
abbrev pub failed : Failure → Answer
failed f = Err f

same_failure : (f g : Failure) → failed f ≡ failed g → f ≡ g
same_failure f g e = (let h : failed f ≡ failed g = e in cc)

same_why : (one why : Refusal) → failure.Refused one ≡ failure.Refused why → one ≡ why
same_why one why e = cc

-- ---- where no session was begun

begin_input : (fault : BeginFault) → begin_failure fault ≡ failure.Input → ⊥
begin_input begin.NotUpgraded e = cc
begin_input (begin.HeadDamaged b) e = cc
begin_input begin.DiskFault e = cc
begin_input begin.NoMemory e = cc

begin_output : (fault : BeginFault) → begin_failure fault ≡ failure.Output → ⊥
begin_output begin.NotUpgraded e = cc
begin_output (begin.HeadDamaged b) e = cc
begin_output begin.DiskFault e = cc
begin_output begin.NoMemory e = cc

begin_disk_by : (fault : BeginFault) → begin_failure fault ≡ failure.Disk → fault ≡ begin.DiskFault
begin_disk_by begin.NotUpgraded e = let h : failure.Refused refusal.NotUpgraded ≡ failure.Disk = e in cc
begin_disk_by (begin.HeadDamaged b) e = let h : failure.Refused (refusal.HeadDamaged b) ≡ failure.Disk = e in cc
begin_disk_by begin.DiskFault e = refl
begin_disk_by begin.NoMemory e = let h : failure.Memory ≡ failure.Disk = e in cc

-- it is not the input, and not the output
pub begin_not_input : (fault : BeginFault) → failed (begin_failure fault) ≢ failed failure.Input
begin_not_input fault e = begin_input fault (same_failure (begin_failure fault) failure.Input e)

pub begin_not_output : (fault : BeginFault) → failed (begin_failure fault) ≢ failed failure.Output
begin_not_output fault e = begin_output fault (same_failure (begin_failure fault) failure.Output e)

-- and the disk only by the beginning's own fault of it
pub begin_disk : (fault : BeginFault) → failed (begin_failure fault) ≡ failed failure.Disk → fault ≡ begin.DiskFault
begin_disk fault e = begin_disk_by fault (same_failure (begin_failure fault) failure.Disk e)

-- ---- where the messages ended before the input did

stop_by : (stopped : Stop) (why : Refusal) → stop_failure stopped ≡ failure.Refused why → IsAfterOpening why
stop_by (stop.BadMessage at) why e = subst IsAfterOpening (same_why (refusal.BadMessage at) why e) tt
stop_by (stop.BadStream at) why e = subst IsAfterOpening (same_why (refusal.BadStream at) why e) tt
stop_by stop.TooManyMessages why e = subst IsAfterOpening (same_why refusal.TooManyMessages why e) tt
stop_by stop.Input why e = let h : failure.Input ≡ failure.Refused why = e in cc
stop_by stop.Memory why e = let h : failure.Memory ≡ failure.Refused why = e in cc
stop_by (stop.Taken (take.Damaged b)) why e = subst IsAfterOpening (same_why (refusal.Damaged b) why e) tt
stop_by (stop.Taken take.DiskFault) why e = let h : failure.Disk ≡ failure.Refused why = e in cc
stop_by (stop.Taken take.WriteFault) why e = let h : failure.Output ≡ failure.Refused why = e in cc
stop_by (stop.Taken take.NoMemory) why e = let h : failure.Memory ≡ failure.Refused why = e in cc

stop_words : (stopped : Stop) → stop_failure stopped ≡ failure.Words → ⊥
stop_words (stop.BadMessage at) e = cc
stop_words (stop.BadStream at) e = cc
stop_words stop.TooManyMessages e = cc
stop_words stop.Input e = cc
stop_words stop.Memory e = cc
stop_words (stop.Taken (take.Damaged b)) e = cc
stop_words (stop.Taken take.DiskFault) e = cc
stop_words (stop.Taken take.WriteFault) e = cc
stop_words (stop.Taken take.NoMemory) e = cc

stop_clash : (stopped : Stop) (b : BlockId) (revealed computed : List ℕ) → stop_failure stopped ≡ failure.Clash b revealed computed → ⊥
stop_clash (stop.BadMessage at) b revealed computed e = cc
stop_clash (stop.BadStream at) b revealed computed e = cc
stop_clash stop.TooManyMessages b revealed computed e = cc
stop_clash stop.Input b revealed computed e = cc
stop_clash stop.Memory b revealed computed e = cc
stop_clash (stop.Taken (take.Damaged a)) b revealed computed e = cc
stop_clash (stop.Taken take.DiskFault) b revealed computed e = cc
stop_clash (stop.Taken take.WriteFault) b revealed computed e = cc
stop_clash (stop.Taken take.NoMemory) b revealed computed e = cc

stop_input_by : (stopped : Stop) → stop_failure stopped ≡ failure.Input → stopped ≡ stop.Input
stop_input_by (stop.BadMessage at) e = let h : failure.Refused (refusal.BadMessage at) ≡ failure.Input = e in cc
stop_input_by (stop.BadStream at) e = let h : failure.Refused (refusal.BadStream at) ≡ failure.Input = e in cc
stop_input_by stop.TooManyMessages e = let h : failure.Refused refusal.TooManyMessages ≡ failure.Input = e in cc
stop_input_by stop.Input e = refl
stop_input_by stop.Memory e = let h : failure.Memory ≡ failure.Input = e in cc
stop_input_by (stop.Taken (take.Damaged b)) e = let h : failure.Refused (refusal.Damaged b) ≡ failure.Input = e in cc
stop_input_by (stop.Taken take.DiskFault) e = let h : failure.Disk ≡ failure.Input = e in cc
stop_input_by (stop.Taken take.WriteFault) e = let h : failure.Output ≡ failure.Input = e in cc
stop_input_by (stop.Taken take.NoMemory) e = let h : failure.Memory ≡ failure.Input = e in cc

stop_output_by : (stopped : Stop) → stop_failure stopped ≡ failure.Output → stopped ≡ stop.Taken take.WriteFault
stop_output_by (stop.BadMessage at) e = let h : failure.Refused (refusal.BadMessage at) ≡ failure.Output = e in cc
stop_output_by (stop.BadStream at) e = let h : failure.Refused (refusal.BadStream at) ≡ failure.Output = e in cc
stop_output_by stop.TooManyMessages e = let h : failure.Refused refusal.TooManyMessages ≡ failure.Output = e in cc
stop_output_by stop.Input e = let h : failure.Input ≡ failure.Output = e in cc
stop_output_by stop.Memory e = let h : failure.Memory ≡ failure.Output = e in cc
stop_output_by (stop.Taken (take.Damaged b)) e = let h : failure.Refused (refusal.Damaged b) ≡ failure.Output = e in cc
stop_output_by (stop.Taken take.DiskFault) e = let h : failure.Disk ≡ failure.Output = e in cc
stop_output_by (stop.Taken take.WriteFault) e = refl
stop_output_by (stop.Taken take.NoMemory) e = let h : failure.Memory ≡ failure.Output = e in cc

stop_disk_by : (stopped : Stop) → stop_failure stopped ≡ failure.Disk → stopped ≡ stop.Taken take.DiskFault
stop_disk_by (stop.BadMessage at) e = let h : failure.Refused (refusal.BadMessage at) ≡ failure.Disk = e in cc
stop_disk_by (stop.BadStream at) e = let h : failure.Refused (refusal.BadStream at) ≡ failure.Disk = e in cc
stop_disk_by stop.TooManyMessages e = let h : failure.Refused refusal.TooManyMessages ≡ failure.Disk = e in cc
stop_disk_by stop.Input e = let h : failure.Input ≡ failure.Disk = e in cc
stop_disk_by stop.Memory e = let h : failure.Memory ≡ failure.Disk = e in cc
stop_disk_by (stop.Taken (take.Damaged b)) e = let h : failure.Refused (refusal.Damaged b) ≡ failure.Disk = e in cc
stop_disk_by (stop.Taken take.DiskFault) e = refl
stop_disk_by (stop.Taken take.WriteFault) e = let h : failure.Output ≡ failure.Disk = e in cc
stop_disk_by (stop.Taken take.NoMemory) e = let h : failure.Memory ≡ failure.Disk = e in cc

-- a refusal is none of the opening
pub stop_after : (stopped : Stop) (why : Refusal) → failed (stop_failure stopped) ≡ failed (failure.Refused why) → IsAfterOpening why
stop_after stopped why e = stop_by stopped why (same_failure (stop_failure stopped) (failure.Refused why) e)

-- the words are no cause
pub stop_not_words : (stopped : Stop) → failed (stop_failure stopped) ≢ failed failure.Words
stop_not_words stopped e = stop_words stopped (same_failure (stop_failure stopped) failure.Words e)

-- and no digest clashes
pub stop_no_clash : (stopped : Stop) → NeverClashes (failed (stop_failure stopped))
stop_no_clash stopped b revealed computed e = stop_clash stopped b revealed computed (same_failure (stop_failure stopped) (failure.Clash b revealed computed) e)

-- what the messages ended by
abbrev pub ended : Stop → Result (Unit {0}) Stop
ended stopped = Err stopped

-- the run fails by the input only where the messages ended by it, and so by the output and the disk
pub stop_input : (stopped : Stop) → failed (stop_failure stopped) ≡ failed failure.Input → ended stopped ≡ ended stop.Input
stop_input stopped e = ap ended (stop_input_by stopped (same_failure (stop_failure stopped) failure.Input e))

pub input_stop : (stopped : Stop) → ended stopped ≡ ended stop.Input → failed (stop_failure stopped) ≡ failed failure.Input
input_stop stopped e = let same : stopped ≡ stop.Input = (let h : ended stopped ≡ ended stop.Input = e in cc) in ap (λ (s : Stop). failed (stop_failure s)) same

pub stop_output : (stopped : Stop) → failed (stop_failure stopped) ≡ failed failure.Output → ended stopped ≡ ended (stop.Taken take.WriteFault)
stop_output stopped e = ap ended (stop_output_by stopped (same_failure (stop_failure stopped) failure.Output e))

pub output_stop : (stopped : Stop) → ended stopped ≡ ended (stop.Taken take.WriteFault) → failed (stop_failure stopped) ≡ failed failure.Output
output_stop stopped e = let same : stopped ≡ stop.Taken take.WriteFault = (let h : ended stopped ≡ ended (stop.Taken take.WriteFault) = e in cc) in ap (λ (s : Stop). failed (stop_failure s)) same

pub stop_disk : (stopped : Stop) → failed (stop_failure stopped) ≡ failed failure.Disk → ended stopped ≡ ended (stop.Taken take.DiskFault)
stop_disk stopped e = ap ended (stop_disk_by stopped (same_failure (stop_failure stopped) failure.Disk e))

pub disk_stop : (stopped : Stop) → ended stopped ≡ ended (stop.Taken take.DiskFault) → failed (stop_failure stopped) ≡ failed failure.Disk
disk_stop stopped e = let same : stopped ≡ stop.Taken take.DiskFault = (let h : ended stopped ≡ ended (stop.Taken take.DiskFault) = e in cc) in ap (λ (s : Stop). failed (stop_failure s)) same
