-- What `upgrade` does: the line that it prints, why it is refused, and the record that it adds.
use Rattle.std.specs.Prelude.{◌≡◌, ℕ, List, ◌++◌, codes, IfOk, IsTrue}
use Rattle.std.specs.List.{list_any}
use Rattle.aea_io.specs.Streams.{SinkState}
use Rattle.aea_lattice.specs.declared.shape.Shape.{Shape}
use Rattle.aea_disk.specs.State.{State}
use Rattle.aea_records.specs.Faults.{IsNoArchive, IsBadAt}
use Rattle.aea_records.specs.Format.{Record, Raise, is_raise}
use Rattle.aea_ledger.specs.Stops.{HasLedger}
use Rattle.aea_command.specs.declared.refusal.Refusal.{Refusal}
use Rattle.aea_command.specs.declared.refusal.Refusal.TheVariants.{NoArchive, LedgerBad, AlreadyUpgraded}
use Rattle.aea_command.specs.declared.status.Status.TheVariants.{Done}
use Rattle.aea_command_store.specs.Adding.{AddsRecord}
use Rattle.aea_command.specs.Failures.{Answer}
use Rattle.aea_command.specs.Lines.{newline}
use Rattle.aea_command.specs.Printed.{PrintsText}

-- `upgraded 1048576`, with the raised limit
abbrev pub upgraded_line : List ℕ
upgraded_line = codes "upgraded 1048576" ++ newline

-- the raise of the limit, whatever comes before it
abbrev pub next_raise : List Record → Record
next_raise records = Raise

-- the bytes are a ledger with a raise of the limit
pub record IsRaised (bytes : List ℕ) : Type 0 where
  pub shape : Shape
  pub records : List Record
  pub ledger : HasLedger shape records bytes
  pub raised : IsTrue (list_any is_raise records)

-- why the limit is not raised in an archive whose ledger file has these bytes
abbrev pub UpgradeCauses : List ℕ → Refusal → Type 0
UpgradeCauses bytes NoArchive = IsNoArchive bytes
UpgradeCauses bytes (LedgerBad at) = IsBadAt bytes at
UpgradeCauses bytes AlreadyUpgraded = IsRaised bytes
UpgradeCauses bytes why = ⊥

-- Of a run that raises the limit, with the disk and `out` before and after it, and its answer:
pub record Upgrades (reveals : Type 0) (old new : State) (before after : SinkState) (answer : Answer) : Type 0 where
  -- no block is lost
  pub done : IfOk answer (λ status. status ≡ Done)
  -- what is added to the ledger
  pub adds : AddsRecord next_raise reveals old new answer
  -- what is printed
  pub prints : PrintsText before after answer upgraded_line
