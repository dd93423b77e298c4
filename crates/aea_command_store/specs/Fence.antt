-- What `fence` does: the line that it prints, why it is refused, and the record that it adds.
use Rattle.std.specs.Prelude.{◌≡◌, ◌⊎◌, ◌≤◌, ℕ, List, ◌++◌, length, codes, decimal, IfOk}
use Rattle.aea_io.specs.Streams.{SinkState}
use Rattle.aea_lattice.specs.declared.shape.Shape.{Shape}
use Rattle.aea_lattice.specs.Fences.{greatest_fences, last_fence}
use Rattle.aea_disk.specs.State.{State}
use Rattle.aea_records.specs.Faults.{IsNoArchive, IsBadAt}
use Rattle.aea_records.specs.Format.{Record, Fence, nodes_of, fences_of, raised_limit}
use Rattle.aea_ledger.specs.Stops.{HasLedger}
use Rattle.aea_command.specs.declared.refusal.Refusal.{Refusal}
use Rattle.aea_command.specs.declared.refusal.Refusal.TheVariants.{NoArchive, LedgerBad, AlreadyFenced, TooManyFences}
use Rattle.aea_command.specs.declared.status.Status.TheVariants.{Done}
use Rattle.aea_command_store.specs.Adding.{AddsRecord}
use Rattle.aea_command.specs.Failures.{Answer}
use Rattle.aea_command.specs.Lines.{newline}
use Rattle.aea_command.specs.Printed.{PrintsText}

-- `fence N`, with N the number of nodes
abbrev pub fence_line : ℕ → List ℕ
fence_line nodes = codes "fence " ++ decimal nodes ++ newline

-- the fence after the last node of these records
abbrev pub next_fence : List Record → Record
next_fence records = Fence (nodes_of records)

-- the bytes are a ledger with so many nodes: there is none, or the last fence is at the last one
pub record IsFencedAtEnd (bytes : List ℕ) (nodes : ℕ) : Type 0 where
  pub shape : Shape
  pub records : List Record
  pub ledger : HasLedger shape records bytes
  pub counted : nodes ≡ nodes_of records
  pub fenced : (nodes ≡ 0) ⊎ (last_fence (fences_of records) ≡ nodes)

-- the bytes are a ledger with the most fences that there may be
pub record HasAllFences (bytes : List ℕ) : Type 0 where
  pub shape : Shape
  pub records : List Record
  pub ledger : HasLedger shape records bytes
  pub many : length (fences_of records) ≡ greatest_fences

-- why no fence is added to an archive whose ledger file has these bytes
abbrev pub FenceCauses : List ℕ → Refusal → Type 0
FenceCauses bytes NoArchive = IsNoArchive bytes
FenceCauses bytes (LedgerBad at) = IsBadAt bytes at
FenceCauses bytes (AlreadyFenced nodes) = IsFencedAtEnd bytes nodes
FenceCauses bytes TooManyFences = HasAllFences bytes
FenceCauses bytes why = ⊥

-- Of a run that adds a fence, with the disk and `out` before and after it, and its answer:
pub record Fences (reveals : Type 0) (old new : State) (before after : SinkState) (answer : Answer) : Type 0 where
  -- no block is lost
  pub done : IfOk answer (λ status. status ≡ Done)
  -- what is added to the ledger
  pub adds : AddsRecord next_fence reveals old new answer
  -- what is printed: the number of the ledger's nodes; over a disk on which the file is not known, some number of nodes
  pub prints : reveals → (shape : Shape) (records : List Record) → HasLedger shape records (old.files 0)
      → PrintsText before after answer (fence_line (nodes_of records))
  pub some : (nodes : ℕ) × ((nodes ≤ raised_limit) × PrintsText before after answer (fence_line nodes))
