-- What `copies` does: the line that it prints, why it is refused, and the copies that it begins.
use Rattle.std.specs.Prelude.{◌≡◌, ◌≢◌, ◌≤◌, ◌+◌, ℕ, Bool, true, false, List, ◌++◌, codes, Ok, Err, IfOk}
use Rattle.aea_faults.specs.Faults.{Rose}
use Rattle.aea_io.specs.Streams.{SinkState}
use Rattle.aea_disk.specs.Ends.{EndsAt, copied_end}
use Rattle.aea_disk.specs.Files.{KeepsFiles}
use Rattle.aea_disk.specs.State.{State, Goes, During, KeepsImages, IsSynced, IsReady, IsRoomy}
use Rattle.aea_records.specs.Faults.{IsNoArchive, IsBadAt}
use Rattle.aea_copies.specs.Format.{whole_copy}
use Rattle.aea_copies.specs.Kept.{IsCopyFile}
use Rattle.aea_ledger.specs.Stops.{HasOpening, StaysAll}
use Rattle.aea_mirror.specs.Shown.{AreGood, NoneBegun}
use Rattle.aea_mirror.specs.Starting.{ArePiecesOf, MayBeStarted}
use Rattle.aea_command.specs.declared.refusal.Refusal.{Refusal}
use Rattle.aea_command.specs.declared.refusal.Refusal.TheVariants.{NoArchive, LedgerBad, CopiesAreOn}
use Rattle.aea_command.specs.declared.refusal.Failure.TheVariants as failure
use Rattle.aea_command.specs.declared.status.Status.TheVariants.{Done}
use Rattle.aea_command.specs.Failures.{Answer}
use Rattle.aea_command.specs.Lines.{newline}
use Rattle.aea_command.specs.Printed.{PrintsText}

-- `copies on`
abbrev pub copies_line : List ℕ
copies_line = codes "copies on" ++ newline

-- why no copies are begun of a ledger file with these bytes, over a disk of which this says whether copies are on
abbrev pub CopiesCauses : List ℕ → Bool → Refusal → Type 0
CopiesCauses bytes on NoArchive = IsNoArchive bytes
CopiesCauses bytes on (LedgerBad at) = IsBadAt bytes at
CopiesCauses bytes on CopiesAreOn = on ≡ true
CopiesCauses bytes on why = ⊥

-- the run says that copies were begun, or that the output failed once they were
abbrev pub EndsBegun : Answer → Type 0
EndsBegun (Ok status) = Unit {0}
EndsBegun (Err failure.Output) = Unit {0}
EndsBegun (Err f) = ⊥

-- The disk that keeps copies up has some space, and to sync; and the one that is lent to it has no rule, what it needs to sync, and
-- space for both copies of a ledger whose records end.
pub record FitsBeginning (s : State) : Type 0 where
  pub some : IsRoomy s
  pub free : s.lent.free
  pub sync : s.lent.keeps (s.files 0)
  pub first : (last : ℕ) (ends : EndsAt (s.files 0) last) → s.lent.room 65 (copied_end (ends.records + 1) last + 1)
  pub second : (last : ℕ) (ends : EndsAt (s.files 0) last) → s.lent.room 66 (copied_end (ends.records + 1) last + 1)

-- Of a run that begins copies, with the disk that keeps them up and `out` before and after it, and its answer:
pub record Begins (reveals : Type 0) (old new : State) (before after : SinkState) (answer : Answer) : Type 0 where
  -- no block is lost
  pub done : IfOk answer (λ status. status ≡ Done)
  pub prints : PrintsText before after answer copies_line
  -- copies are on afterwards
  pub set : EndsBegun answer → new.lent.set ≡ true
  -- the files that are shown stay, as they read and in each image; the run begins with a sync
  pub contents : reveals → new.files ≡ old.files
  pub images : KeepsImages old new
  pub stops : reveals → HasOpening old new (StaysAll old.files)
  -- nothing fails where there is space for the copies
  pub in_room : reveals → IsReady old → FitsBeginning old → answer ≢ Err failure.Disk

-- Of the disk that is lent to that, over which copies were on or not, and nothing was pending at the entry, by whether the disk was at fault
-- and whether copies were begun: where they were both are whole with the pieces of the ledger, and nothing is pending; where they were
-- not, and the disk was not at fault, none is begun; and whatever the answer is,
pub record MakesCopies (reveals : Type 0) (on : Bool) (fault begun : Type 0) (old new : State) : Type 0 where
  pub none : (begun → ⊥) → (fault → ⊥) → reveals → on ≡ false → During old new NoneBegun
  pub made : begun → reveals → (pieces : List (List ℕ)) × ArePiecesOf (old.files 0) pieces × ((f : ℕ) → IsCopyFile f → new.files f ≡ whole_copy pieces)
  pub synced : begun → reveals → IsSynced new
  -- the ledger and the sites stay, as they read and in each image of each moment
  pub others : reveals → KeepsFiles (λ f. f ≤ 64) old.files new.files
  pub stays : reveals → During old new (KeepsFiles (λ f. f ≤ 64) old.files)
  -- in each image no copy is begun, or the first is whole, and the second not begun, or whole too; where copies are on both stay good
  pub any_moment : reveals → on ≡ false → (pieces : List (List ℕ)) → ArePiecesOf (old.files 0) pieces → During old new (MayBeStarted pieces)
  pub good : reveals → on ≡ true → During old new AreGood

-- Of the calls that open an archive and begin copies, by what is lent before and after them (old, new) and what the disk that keeps
-- copies up shows (seen, now); whether they were at fault, and whether copies were begun:
pub record BeginsOver (reveals : Type 0) (on : Bool) (fault begun : Type 0) (old new seen now : State) : Type 0 where
  pub makes : MakesCopies reveals on fault begun old new
  pub goes : Goes old new
  pub set : begun → now.lent.set ≡ true
  pub contents : reveals → now.files ≡ seen.files
  pub images : KeepsImages seen now
  pub stops : reveals → HasOpening seen now (StaysAll seen.files)
  pub kept : seen.faults ≤ now.faults
  pub cause : fault → Rose seen.faults now.faults
  pub still : (fault → ⊥) → now.faults ≡ seen.faults
  pub beneath : reveals → IsReady seen → fault → Rose seen.beneath now.beneath
  pub in_room : reveals → IsReady seen → FitsBeginning seen → fault → ⊥
