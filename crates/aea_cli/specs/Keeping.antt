-- What runs leave of the copies, and what a run finds of files of which pieces are kept.
use Rattle.std.specs.Prelude.{◌≡◌, ◌⊎◌, true, Err}
use Rattle.aea_faults.specs.Faults.{Rose}
use Rattle.aea_io.specs.Streams.{SourceState, SinkState}
use Rattle.aea_disk.specs.State.{State, During, EveryImage}
use Rattle.aea_mirror.specs.Shown.{AreGood}
use Rattle.aea_survival.specs.Surviving.{HasKept}
use Rattle.aea_command.specs.declared.refusal.Failure.TheVariants as failure
use Rattle.aea_command.specs.Failures.{Answer}
use Rattle.aea_command_copies.specs.Copies.{EndsBegun}
use Rattle.aea_dispatch.specs.declared.command.Command.{Command}
use Rattle.aea_dispatch.specs.declared.command.Command.TheVariants.{Copies}
use Rattle.aea_cli.specs.Beneath.{RunsAdopted, RunsBeneath}

-- Of a run over copies that were adopted: where they were on, both are good in each image of each moment from then on, and pieces are
-- kept; and so they are in each image at the end of a run that says that copies were begun.
pub record StayGood (D reveals : Type 0) (state : D → State) (command : Command) (old new : D) (i j : SourceState) (o p : SinkState) (answer : Answer) (run : RunsAdopted D reveals state command old new i j o p answer) : Type 0 where
  pub on : run.adopted.on ≡ true → During (state run.mid) (state new) AreGood
  pub begun : command ≡ Copies → EndsBegun answer → EveryImage (state new) AreGood

-- each run leaves copies so
abbrev pub CopiesStayGood : {D : Type 0} → Type 0 → (D → State) → Type 0
CopiesStayGood {D} reveals state =
    reveals → (command : Command) (old new : D) (i j : SourceState) (o p : SinkState) (answer : Answer) (run : RunsAdopted D reveals state command old new i j o p answer) → StayGood D reveals state command old new i j o p answer run

-- A run over files of which pieces are kept adopts them, unless the disk failed, and its count rose, or memory ran out for a word: so it
-- is refused for no copy.
abbrev pub KeptIsAdopted : {D : Type 0} → Type 0 → (D → State) → Type 0
KeptIsAdopted {D} reveals state =
    reveals → (command : Command) (old new : D) (i j : SourceState) (o p : SinkState) (answer : Answer) → RunsBeneath D reveals state command old new i j o p answer → HasKept (state old).files
    → (answer ≡ Err failure.Memory) ⊎ (((answer ≡ Err failure.Disk) × Rose (state old).faults (state new).faults) ⊎ RunsAdopted D reveals state command old new i j o p answer)
