-- How a run ends of a command, whether it uses the disk or not.
use Rattle.std.proofs.Common.{◌≡◌, ◌≢◌, ◌⊎◌, inl, inr, ⊎_elim, Err}
use Rattle.aea_io.specs.Streams.{SourceState, SinkState}
use Rattle.aea_disk.specs.State.{State}
use Rattle.aea_command.specs.declared.refusal.Failure.TheVariants as failure
use Rattle.aea_command.specs.declared.refusal.Refusal.{Refusal}
use Rattle.aea_command.specs.Causes.{IsFirst}
use Rattle.aea_command.specs.Failures.{Answer, NeverClashes}
use Rattle.aea_command.specs.Worlds.{World, world}
use Rattle.aea_dispatch.specs.declared.command.Command.{Command}
use Rattle.aea_dispatch.specs.declared.command.Command.TheVariants.{Drill, Rehearse}
use Rattle.aea_dispatch.specs.Does.{UsesDisk, IsHonest, IsRevealed, IsRevealedFor, PrintsEarly, Runs}
use Rattle.aea_dispatch.proofs.Uses.{uses_or_not}
use Rattle.aea_cli.specs.Beneath.{RunsBeneath, RunCauses, IsHonestRun, FitsRun, FitsOutputRun}
use Rattle.aea_cli.proofs.Ending.{beneath_only, beneath_disk, beneath_output, beneath_honest, beneath_always}
use Rattle.aea_cli.proofs.Refusing.{first_idle, idle_first}

-- a command that uses no disk compares no digests
honest_idle : (c : Command) (w : World) → (UsesDisk c → ⊥) → IsHonest c w
honest_idle (Drill l) w idle = tt
honest_idle (Rehearse number nodes permille) w idle = tt
honest_idle c w idle = absurd (idle tt)

module _ (D reveals : Type 0) (state : D → State) (command : Command) (old new : D) (i j : SourceState) (o p : SinkState) (answer : Answer)
    (runs : (UsesDisk command → ⊥) → Runs command (world reveals (state old) i o) (world reveals (state new) j p) answer)
    (beneath : UsesDisk command → RunsBeneath D reveals state command old new i j o p answer) where
  abbrev before : World
  before = world reveals (state old) i o

  -- a refusal is the first reason that holds
  pub ended_only : (UsesDisk command → reveals) → (PrintsEarly command → answer ≢ Err failure.Output) → (why : Refusal) → answer ≡ Err (failure.Refused why) → IsRevealedFor command before why → IsFirst (RunCauses command before) why
  ended_only revealed early why is known = ⊎_elim
      (λ (uses : UsesDisk command). beneath_only D reveals state command old new i j o p answer (revealed uses) uses (beneath uses) early why is known)
      (λ (idle : UsesDisk command → ⊥). first_idle command before idle why (((runs idle).refuses early).only why is known))
      (uses_or_not command)

  -- no digests clash where the intact blocks are honest
  pub ended_honest : (UsesDisk command → reveals) → IsHonestRun command before → NeverClashes answer
  ended_honest revealed honest = ⊎_elim
      (λ (uses : UsesDisk command). beneath_honest D reveals state command old new i j o p answer (revealed uses) uses (beneath uses) honest)
      (λ (idle : UsesDisk command → ⊥). (runs idle).honest revealed (honest_idle command before idle))
      (uses_or_not command)

  -- the output does not fail where it has space
  pub ended_output : IsRevealed command before → FitsOutputRun command before → answer ≢ Err failure.Output
  ended_output known fits = ⊎_elim
      (λ (uses : UsesDisk command). beneath_output D reveals state command old new i j o p answer (known.disk uses) uses (beneath uses) known fits)
      (λ (idle : UsesDisk command → ⊥). (runs idle).output_fits known (fits.idle idle))
      (uses_or_not command)

  -- nor the disk
  pub ended_disk : (UsesDisk command → reveals) → ((UsesDisk command → ⊥) → answer ≢ Err failure.Disk) → FitsRun D reveals state command old i o → answer ≢ Err failure.Disk
  ended_disk revealed never fits = ⊎_elim
      (λ (uses : UsesDisk command). beneath_disk D reveals state command old new i j o p answer (revealed uses) uses (beneath uses) fits)
      never
      (uses_or_not command)

  -- the first reason that holds is the answer, but that the input fails or memory runs out
  pub ended_always : (UsesDisk command → reveals) → ((UsesDisk command → ⊥) → answer ≢ Err failure.Disk) → FitsRun D reveals state command old i o → (PrintsEarly command → answer ≢ Err failure.Output)
      → (why : Refusal) → IsRevealedFor command before why → IsFirst (RunCauses command before) why → (answer ≡ Err (failure.Refused why)) ⊎ ((answer ≡ Err failure.Input) ⊎ (answer ≡ Err failure.Memory))
  ended_always revealed never fits early why known first = ⊎_elim
      (λ (uses : UsesDisk command). beneath_always D reveals state command old new i j o p answer (revealed uses) uses (beneath uses) why known first fits early)
      (λ (idle : UsesDisk command → ⊥). elim (((runs idle).refuses early).always why known (idle_first command before idle why first)) [
        | inl e ↦ inl e
        | inr (inl e) ↦ absurd (never idle e)
        | inr (inr (inl e)) ↦ inr (inl e)
        | inr (inr (inr e)) ↦ inr (inr e)
      ])
      (uses_or_not command)
