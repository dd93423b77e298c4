-- The lines of some cases that are printed after each other. No public contract cites this.
use Rattle.std.specs.Prelude.{◌≡◌, ◌≢◌, ◌⊎◌, ℕ, ◌+◌, ◌≤◌, List, length, Some, Result, Err, IfErr, OnOk}
use Rattle.aea_faults.specs.Faults.{Rose}
use Rattle.aea_io.specs.Streams.{SinkState}
use Rattle.aea_lattice.specs.declared.grid.Lattice.{Lattice}
use Rattle.aea_command.specs.declared.refusal.Failure.{Failure}
use Rattle.aea_command.specs.declared.refusal.Failure.TheVariants as failure
use Rattle.aea_command_loss.specs.Sites.{PrintsLosses}

-- where the space of the sink is known and is enough for the text, so is what is left of it
abbrev pub LeavesRoom : SinkState → SinkState → List ℕ → Type 0
LeavesRoom before after text = (room : ℕ) → before.room ≡ Some room → length text ≤ room → (rest : ℕ) × (after.room ≡ Some rest) × (rest + length text ≡ room)

-- the lines of these cases are printed, with what is left of the space of the sink, and its count of faults
pub record PutsLosses {T : Type 0} (l : Lattice) (sites : ℕ) (cases : List (ℕ × ℕ)) (before after : SinkState) (answer : Result T Failure) : Type 0 where
  pub prints : PrintsLosses l sites cases before after answer
  pub kinds : IfErr answer (λ f. (f ≡ failure.Output) ⊎ (f ≡ failure.Memory))
  pub left : OnOk answer (LeavesRoom before after prints.text)
  pub kept : before.faults ≤ after.faults
  pub cause : answer ≡ Err failure.Output → Rose before.faults after.faults
  pub still : answer ≢ Err failure.Output → after.faults ≡ before.faults
