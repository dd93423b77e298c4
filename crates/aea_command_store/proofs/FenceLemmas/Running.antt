-- What holds of a run of `fence`, from what its calls ensure.
use Rattle.std.proofs.Common.{◌≡◌, ◌≢◌, ℕ, ◌≤◌, List, subst, arith, Ok, Err}
use Rattle.aea_io.specs.Streams.{SinkState}
use Rattle.aea_lattice.specs.declared.shape.Shape.{Shape}
use Rattle.aea_disk.specs.State.{State}
use Rattle.aea_records.specs.Format.{Record, nodes_of, raised_limit}
use Rattle.aea_ledger.specs.Stops.{HasLedger}
use Rattle.aea_command.specs.declared.refusal.Failure.{Failure}
use Rattle.aea_command.specs.declared.refusal.Failure.TheVariants as failure
use Rattle.aea_command_store.specs.Adding.{AddsRecord}
use Rattle.aea_command.specs.Failures.{Answer}
use Rattle.aea_command_store.specs.Fence.{fence_line, next_fence, Fences}
use Rattle.aea_command.specs.Printed.{PrintsText}
use Rattle.aea_command_store.proofs.Adding.{adds_as, agrees_failed}
use Rattle.aea_command_store.proofs.Adding.Running.{agrees_printed}
use Rattle.aea_command_store.proofs.CreateLemmas.{IsPrinting, printing_done}
use Rattle.aea_command.proofs.Texts.{text_unused}

-- no fence was added
pub fences_failed : {T : Type 0} (reveals : Type 0) (old new : State) (out : SinkState) (f : Failure) → f ≢ failure.Output → AddsRecord {T = T} next_fence reveals old new (Err f) → Fences reveals old new out out (Err f)
fences_failed {T} reveals old new out f output adds = record {
  done = tt;
  adds = adds_as next_fence reveals old new (Err f) (Err f) (agrees_failed f) adds;
  prints = λ revealed shape records has. text_unused out f (fence_line (nodes_of records)) output;
  some = (0, (omega arith, text_unused out f (fence_line 0) output));
}

-- one was, and then its line was printed, or the output failed
pub fences_added : (reveals : Type 0) (old new : State) (before after : SinkState) (nodes : ℕ) (answer : Answer) → IsPrinting answer → nodes ≤ raised_limit
    → (reveals → (shape : Shape) (records : List Record) → HasLedger shape records (old.files 0) → nodes ≡ nodes_of records)
    → AddsRecord next_fence reveals old new (Ok nodes) → PrintsText before after answer (fence_line nodes) → Fences reveals old new before after answer
fences_added reveals old new before after nodes answer printing small counted adds prints = record {
  done = printing_done answer printing;
  adds = adds_as next_fence reveals old new (Ok nodes) answer (agrees_printed nodes answer printing) adds;
  prints = λ revealed shape records has. subst (λ (n : ℕ). PrintsText before after answer (fence_line n)) (counted revealed shape records has) prints;
  some = (nodes, (small, prints));
}
