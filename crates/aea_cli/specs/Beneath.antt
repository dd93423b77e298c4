-- What a run does of a disk on which copies of the ledger may be: they are adopted first, and then the command runs over a disk
-- that keeps them up.
use Rattle.std.specs.Prelude.{◌≡◌, ◌⊎◌, ℕ, Bool, true, false, Result, Ok, Err}
use Rattle.aea_io.specs.Streams.{SourceState, SinkState}
use Rattle.aea_disk.specs.Files.{Files}
use Rattle.aea_disk.specs.State.{State, Passes, Goes}
use Rattle.aea_copies.specs.Kept.{AreOn, LeavesAdopted}
use Rattle.aea_adopt.specs.Adopts.{Adopts}
use Rattle.aea_adopt.specs.Choosing.{AreBad, AreDifferent}
use Rattle.aea_adopt.specs.Mending.{FitsAdopting}
use Rattle.aea_adopt.specs.declared.answers.Adopted.{Adopted}
use Rattle.aea_adopt.specs.declared.answers.AdoptFault.{AdoptFault}
use Rattle.aea_adopt.specs.declared.answers.AdoptFault.TheVariants as adopting
use Rattle.aea_mirror.specs.Mirrored.{Kept, mirror_state, fresh}
use Rattle.aea_command.specs.declared.refusal.Failure.{Failure}
use Rattle.aea_command.specs.declared.refusal.Failure.TheVariants as failure
use Rattle.aea_command.specs.declared.refusal.Refusal.{Refusal}
use Rattle.aea_command.specs.declared.refusal.Refusal.TheVariants.{CopiesBad, CopiesDiffer}
use Rattle.aea_command.specs.Failures.{Answer}
use Rattle.aea_command.specs.Worlds.{World, world}
use Rattle.aea_command_copies.specs.Copies.{EndsBegun, MakesCopies}
use Rattle.aea_dispatch.specs.declared.command.Command.{Command}
use Rattle.aea_dispatch.specs.declared.command.Command.TheVariants.{Copies}
use Rattle.aea_dispatch.specs.Does.{UsesDisk, Causes, FitsDisk, FitsOutput, IsHonest, Runs}
use Rattle.aea_dispatch.specs.Sound.{IsSound}

-- the failure where copies were not adopted
abbrev pub adopting_failure : AdoptFault → Failure
adopting_failure (adopting.CopiesBad first second) = failure.Refused (CopiesBad first second)
adopting_failure (adopting.CopiesDiffer at) = failure.Refused (CopiesDiffer at)
adopting_failure adopting.DiskFault = failure.Disk

-- the answer of the adopting
abbrev pub adopting_answer : Result Adopted AdoptFault → Result Adopted Failure
adopting_answer (Ok adopted) = Ok adopted
adopting_answer (Err fault) = Err (adopting_failure fault)

-- Memory ran out for a word of the command, before the first call: nothing was done.
pub record HasNotBegun {D : Type 0} (old new : D) (i j : SourceState) (o p : SinkState) (answer : Answer) : Type 0 where
  pub is : answer ≡ Err failure.Memory
  pub disk : new ≡ old
  pub input : j ≡ i
  pub out : p ≡ o

-- Copies could not be adopted, and that is the answer; nothing was read or printed.
pub record IsUnadopted (D reveals : Type 0) (state : D → State) (old new : D) (i j : SourceState) (o p : SinkState) (answer : Answer) : Type 0 where
  pub fault : AdoptFault
  pub adopts : Adopts reveals (state old) (state new) (Err fault)
  pub is : answer ≡ Err (adopting_failure fault)
  pub input : j ≡ i
  pub out : p ≡ o

-- Copies were adopted, which left the disk in the middle; and the command ran over a Mirror of that. The disk in the middle is one
-- of the same type, as it was then: it is no part of what is seen at the end.
pub record RunsAdopted (D reveals : Type 0) (state : D → State) (command : Command) (old new : D) (i j : SourceState) (o p : SinkState) (answer : Answer) : Type 0 where
  pub mid : D
  pub adopted : Adopted
  pub adopts : Adopts reveals (state old) (state mid) (Ok adopted)
  pub name : ℕ
  pub kept : Kept
  -- what the Mirror keeps at the end is of the same loan; and it is set as it was, but by `copies`
  pub named : kept.name ≡ name
  pub set : (command ≡ Copies → ⊥) → kept.on ≡ adopted.on
  pub runs : Runs command (world reveals (mirror_state reveals (state mid) (fresh name adopted)) i o) (world reveals (mirror_state reveals (state new) kept) j p) answer
  pub sound : IsSound (world reveals (mirror_state reveals (state mid) (fresh name adopted)) i o) (world reveals (mirror_state reveals (state new) kept) j p) answer
  -- no command but `copies` changes how the Mirror is set
  pub time : (command ≡ Copies → ⊥) → Passes (mirror_state reveals (state mid) (fresh name adopted)) (mirror_state reveals (state new) kept)
  pub goes : Goes (state mid) (state new)
  pub makes : command ≡ Copies → MakesCopies reveals adopted.on (answer ≡ Err failure.Disk) (EndsBegun answer) (state mid) (state new)

-- Of a run of a command that uses the disk, by the disk's values and what they mean.
abbrev pub RunsBeneath : (D reveals : Type 0) (state : D → State) → Command → (old new : D) (i j : SourceState) (o p : SinkState) → Answer → Type 0
RunsBeneath D reveals state command old new i j o p answer =
    HasNotBegun old new i j o p answer ⊎ (IsUnadopted D reveals state old new i j o p answer ⊎ RunsAdopted D reveals state command old new i j o p answer)

-- what a command meets over a Mirror of a disk that reads so, with copies on or not
abbrev pub met_world : World → Files → Bool → World
met_world w files on =
    world w.reveals
    (mirror_state w.reveals (record { files = files; moment = w.disk.moment; image = w.disk.image; faults = w.disk.faults; room = w.disk.room; beneath = w.disk.beneath; takes = w.disk.takes; keeps = w.disk.keeps; free = w.disk.free; lent = w.disk.lent })
    (record { name = 0; on = on; end = 0; dead = false; own = 0 }))
    w.input w.out

-- why a run of a command that uses the disk is refused over the ledger that adopting leaves: as the command is over a Mirror of that
pub record CausesAdopted (command : Command) (w : World) (why : Refusal) : Type 0 where
  pub files : Files
  pub leaves : LeavesAdopted w.disk.files files
  pub on : Bool
  pub are : (on ≡ true → AreOn w.disk.files) × (AreOn w.disk.files → on ≡ true)
  pub causes : Causes command (met_world w files on) why

-- Why a run of a command that uses the disk is refused: both copies are bad, or they differ; or a cause of the command, over the ledger
-- that adopting leaves.
abbrev pub CausesBeneath : Command → World → Refusal → Type 0
CausesBeneath command w (CopiesBad first second) = AreBad w.disk.files first second
CausesBeneath command w (CopiesDiffer at) = AreDifferent w.disk.files at
CausesBeneath command w why = CausesAdopted command w why

-- why a run is refused
abbrev pub RunCauses : Command → World → Refusal → Type 0
RunCauses command w why = (UsesDisk command × CausesBeneath command w why) ⊎ ((UsesDisk command → ⊥) × Causes command w why)

-- the intact blocks are honest that a run of the command meets, where that makes a difference
abbrev pub IsHonestRun : Command → World → Type 0
IsHonestRun command w = (files : Files) (on : Bool) → LeavesAdopted w.disk.files files → IsHonest command (met_world w files on)

-- The output has space for all that a run of the command prints, over the ledger that adopting leaves where it uses the disk.
pub record FitsOutputRun (command : Command) (w : World) : Type 0 where
  pub idle : (UsesDisk command → ⊥) → FitsOutput command w
  pub over : UsesDisk command → (files : Files) (on : Bool) → LeavesAdopted w.disk.files files → (on ≡ true → AreOn w.disk.files) × (AreOn w.disk.files → on ≡ true) → FitsOutput command (met_world w files on)

-- The disk has no rule, and space for all that a run of the command writes where it uses the disk: to adopt copies, and for the command
-- over a Mirror of whatever disk that leaves.
pub record FitsRun (D reveals : Type 0) (state : D → State) (command : Command) (old : D) (i : SourceState) (o : SinkState) : Type 0 where
  pub free : UsesDisk command → (state old).free
  pub adopting : UsesDisk command → FitsAdopting (state old)
  pub over : UsesDisk command → (mid : D) (adopted : Adopted) (name : ℕ) → Adopts reveals (state old) (state mid) (Ok adopted)
      → FitsDisk command (world reveals (mirror_state reveals (state mid) (fresh name adopted)) i o)
