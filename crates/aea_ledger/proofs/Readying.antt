-- What a disk takes, and has space for, once calls were made: lemmas for the calls above that write cells and records.
use Rattle.std.proofs.Common.{◌≡◌, ℕ, ◌+◌, List, sym, subst}
use Rattle.aea_lattice.specs.declared.shape.Shape.{Shape}
use Rattle.aea_disk.specs.Ends.{EndsAt}
use Rattle.aea_disk.specs.State.{State, Passes, KeepsTaking, IsReady}
use Rattle.aea_records.specs.Format.{Record}
use Rattle.aea_records.specs.Grammar.{IsLedger}
use Rattle.aea_ledger.specs.Taking.{FitsAdding}
use Rattle.aea_ledger.proofs.Ends.{ledger_ends}

-- calls that did not fail and left the ledger file leave the disk ready
pub ready_same : (old mid : State) → mid.files 0 ≡ old.files 0 → KeepsTaking old mid → IsReady old → IsReady mid
ready_same old mid same goes ready = (ready.0, subst (λ (l : List ℕ). mid.takes 0 l ready.0) (sym same) (goes 0 (old.files 0) ready.0 ready.1))

-- and so do those after which it is a ledger
pub ready_after : (old mid : State) (shape : Shape) (records : List Record) (end : ℕ) → ((b c : List ℕ) (m n : ℕ) → EndsAt c n → mid.takes 0 b m → mid.takes 0 c n)
    → IsLedger (mid.files 0) shape records end → KeepsTaking old mid → IsReady old → IsReady mid
ready_after old mid shape records end ended ledger goes ready =
    (end, ended (old.files 0) (mid.files 0) ready.0 end (ledger_ends (mid.files 0) shape records end ledger).ends (goes 0 (old.files 0) ready.0 ready.1))

-- the space for records stays where the ledger file does
pub adding_later : (old mid : State) (more end : ℕ) → mid.files 0 ≡ old.files 0 → Passes old mid → FitsAdding old more end → FitsAdding mid more end
adding_later old mid more end same time fit = record {
  room = time.room 0 (end + 1) fit.room;
  now = subst (λ (l : List ℕ). mid.keeps l) (sym same) (time.syncs (old.files 0) fit.now);
  then = λ bytes last one two count.
      time.syncs bytes
      (subst (λ (l : List ℕ). (one : EndsAt l last) → two.records ≡ one.records + more → old.keeps bytes) (sym same)
      (λ (first : EndsAt (old.files 0) last) more_are. fit.then bytes last first two more_are) one count);
}
