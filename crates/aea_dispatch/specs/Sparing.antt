-- What runs of commands that leave the ledger leave of the blocks.
use Rattle.std.specs.Prelude.{◌≡◌, ◌⊎◌, ℕ}
use Rattle.aea_io.specs.Streams.{SourceState, SinkState}
use Rattle.aea_disk.specs.State.{State}
use Rattle.aea_dispatch.specs.declared.command.Command.{Command}
use Rattle.aea_dispatch.specs.declared.command.Command.TheVariants.{Repair}
use Rattle.aea_dispatch.specs.Does.{MayChange, Runs}
use Rattle.aea_command.specs.Failures.{Answer}
use Rattle.aea_command.specs.Worlds.{world}
use Rattle.aea_stops.specs.GoingOn.{Leaving, DoesRun, LeavesBlocks}

-- the command may change no file, or is `repair`
abbrev pub IsSparing : Command → Type 0
IsSparing command = (command ≡ Repair) ⊎ ((file : ℕ) → MayChange command file → ⊥)

-- Over a disk of a type whose values have these states: a run of such a command is one that leaves the ledger, in the sense of the
-- law of stopped runs, and it leaves the blocks that are intact.
abbrev pub RunsSpareBlocks : {D : Type 0} → Type 0 → (D → State) → Type 0
RunsSpareBlocks {D} reveals state =
    (command : Command) (old new : D) (input rest : SourceState) (before after : SinkState) (answer : Answer) → IsSparing command → Runs command (world reveals (state old) input before) (world reveals (state new) rest after) answer
    → DoesRun Leaving reveals (state old) (state new) × LeavesBlocks Leaving reveals (state old) (state new)
