-- What holds of a run of `upgrade`, from what its calls ensure.
use Rattle.std.proofs.Common.{◌≢◌, Ok, Err}
use Rattle.aea_io.specs.Streams.{SinkState}
use Rattle.aea_disk.specs.State.{State}
use Rattle.aea_command.specs.declared.refusal.Failure.{Failure}
use Rattle.aea_command.specs.declared.refusal.Failure.TheVariants as failure
use Rattle.aea_command_store.specs.Adding.{AddsRecord}
use Rattle.aea_command.specs.Failures.{Answer}
use Rattle.aea_command.specs.Printed.{PrintsText}
use Rattle.aea_command_store.specs.Upgrade.{next_raise, upgraded_line, Upgrades}
use Rattle.aea_command_store.proofs.Adding.{adds_as, agrees_failed}
use Rattle.aea_command_store.proofs.Adding.Running.{agrees_printed}
use Rattle.aea_command_store.proofs.CreateLemmas.{IsPrinting, printing_done}
use Rattle.aea_command.proofs.Texts.{text_unused}

-- the limit was not raised
pub upgrades_failed : {T : Type 0} (reveals : Type 0) (old new : State) (out : SinkState) (f : Failure) → f ≢ failure.Output → AddsRecord {T = T} next_raise reveals old new (Err f) → Upgrades reveals old new out out (Err f)
upgrades_failed {T} reveals old new out f output adds = record {
  done = tt;
  adds = adds_as next_raise reveals old new (Err f) (Err f) (agrees_failed f) adds;
  prints = text_unused out f upgraded_line output;
}

-- it was, and then the line was printed, or the output failed
pub upgrades_added : {T : Type 0} (reveals : Type 0) (old new : State) (before after : SinkState) (value : T) (answer : Answer) → IsPrinting answer
    → AddsRecord next_raise reveals old new (Ok value) → PrintsText before after answer upgraded_line → Upgrades reveals old new before after answer
upgrades_added reveals old new before after value answer printing adds prints = record {
  done = printing_done answer printing;
  adds = adds_as next_raise reveals old new (Ok value) answer (agrees_printed value answer printing) adds;
  prints = prints;
}
