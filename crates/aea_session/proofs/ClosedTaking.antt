-- What a close that was taken leaves of the disk.
use Rattle.std.proofs.Common.{◌≡◌, inl, inr, ℕ, List, Result, Ok, Err, refl, sym, subst}
use Rattle.aea_disk.specs.State.{State, IsFixed, IsReady, IsSynced}
use Rattle.aea_disk.specs.Frames.{OnlyWrites}
use Rattle.aea_disk.proofs.Moments.{synced_fixed}
use Rattle.aea_shelf.specs.Writes.{KeepsPadded}
use Rattle.aea_records.specs.Format.{raised_limit}
use Rattle.aea_records.specs.Laws.{HasOneReading}
use Rattle.aea_archive.specs.Blocks.{IsBlockIn}
use Rattle.aea_archive.specs.Cells.{IsBesides, ChangesArchive}
use Rattle.aea_messages.specs.declared.message.Message.{Message}
use Rattle.aea_messages.specs.declared.message.Message.TheVariants.{Close}
use Rattle.aea_machine.specs.declared.refusal.Refusal.{Refusal}
use Rattle.aea_machine.specs.Closings.{Closing, closing_in}
use Rattle.aea_machine.specs.Machine.{Machine}
use Rattle.aea_append.specs.Puts.{LeavesLedger}
use Rattle.aea_append.specs.declared.store.Stored.{Stored}
use Rattle.aea_session.specs.declared.fault.StepFault.{StepFault}
use Rattle.aea_session.specs.declared.fault.StepFault.TheVariants.{DiskFault, NoMemory}
use Rattle.aea_session.specs.declared.work.Work.{Work}
use Rattle.aea_session.specs.Closes.{HasClosed, MayHaveClosed, HasCloseRoom}
use Rattle.aea_session.specs.Stands.{KeepsMachine}
use Rattle.aea_session.specs.Steps.{MakesStep, closed_by}
use Rattle.aea_session.specs.Takes.{Leaves}
use Rattle.aea_session.proofs.Taking.{adds_none, refused_closes, leaves_same, leaves_as}

-- the close of an upload writes so
abbrev Writes : Type 0 → Type 0 → Work → ℕ → State → State → Type 0
Writes reveals fault v slot old new =
    OnlyWrites reveals (IsReady old) (HasCloseRoom v slot old) fault
    (ChangesArchive v.ledger.shape raised_limit (IsBlockIn v.ledger.shape v.heads.lattice.n) (IsBesides v.ledger.shape)) old new

-- and leaves the blocks so far so
abbrev Pads : Type 0 → Type 0 → Work → State → State → Type 0
Pads reveals fault v old new = (fault → ⊥) → reveals → KeepsPadded v.ledger.shape (IsBlockIn v.ledger.shape v.heads.lattice.n) old.files new.files

-- a close that was made: its record was added
leaves_made : (reveals : Type 0) (v w : Work) (slot : ℕ) (old new : State) (fault : Type 0)
    → (reveals → (m : Machine) → KeepsMachine v m → HasClosed v w m (closing_in v.ledger.shape m (Close slot)) old new)
    → Writes reveals fault v slot old new → Pads reveals fault v old new → Leaves reveals v w (Close slot) old new (Unit {0}) fault ⊥
leaves_made reveals v w slot old new fault closed writes padded = record {
  ledger = λ revealed m kept. let has = closed revealed m kept in inr (has.r, has.adds);
  closed = λ _ revealed m c kept is. subst (λ (closings : List Closing). HasClosed v w m closings old new) is (closed revealed m kept);
  quiet = λ none. absurd none;
  writes = writes;
  padded = padded;
}

module _ {D : Type 0} (one : HasOneReading) (reveals : Type 0) (state : D → State) (v w : Work) (message : Message) (slot : ℕ) (kind : message ≡ Close slot) (d e : D) (fixed : reveals → IsFixed (state d) 0) where
  -- one that was answered, with an object or a refusal
  module _ (closed : Result Stored Refusal) (refused : (refusal : Refusal) → closed ≡ Err refusal → (w ≡ v) × (e ≡ d)) where
    pub leaves_answered : (fault : Type 0) → (fault → ⊥) → MakesStep closed_by v w (Close slot) closed
        → ((stored : Stored) → closed ≡ Ok stored → reveals → (m : Machine) → KeepsMachine v m → HasClosed v w m (closing_in v.ledger.shape m (Close slot)) (state d) (state e))
        → Writes reveals fault v slot (state d) (state e) → Pads reveals fault v (state d) (state e) → Leaves reveals v w message (state d) (state e) (Unit {0}) fault ⊥
    leaves_answered fault fine makes made writes padded =
        subst (λ (a : Message). Leaves reveals v w a (state d) (state e) (Unit {0}) fault ⊥) (sym kind)
        (cases closed refl)
      where
        cases : (c : Result Stored Refusal) → closed ≡ c → Leaves reveals v w (Close slot) (state d) (state e) (Unit {0}) fault ⊥
        cases (Ok stored) is = leaves_made reveals v w slot (state d) (state e) fault (made stored is) writes padded
        cases (Err p) is =
            subst (λ (x : D). Leaves reveals v w (Close slot) (state d) (state x) (Unit {0}) fault ⊥) (sym (refused p is).1)
            (leaves_as reveals v w (Close slot) (state d) (state d) (Unit {0}) ⊥ ⊥ (Unit {0}) fault ⊥ (λ u. u) (λ bad. fine bad) (λ none. absurd none) (λ none. none)
            (leaves_same one reveals v w (Close slot) (state d) (refused_closes v w slot p (subst (MakesStep closed_by v w (Close slot)) is makes)) fixed (Unit {0}) ⊥))

    -- and nothing is pending on the ledger
    pub fixed_answered : ((stored : Stored) → closed ≡ Ok stored → reveals → IsSynced (state e)) → reveals → IsFixed (state e) 0
    fixed_answered synced revealed = cases closed refl
      where
        cases : (c : Result Stored Refusal) → closed ≡ c → IsFixed (state e) 0
        cases (Ok stored) is = synced_fixed (state e) 0 (synced stored is revealed)
        cases (Err p) is = subst (λ (x : D). IsFixed (state x) 0) (sym (refused p is).1) (fixed revealed)

  -- one that failed: the ledger is as it was, or, where the disk failed, it may have the record
  pub leaves_failed : {T : Type 0} (result : Result T StepFault) (met : StepFault) → result ≡ Err met
      → (result ≡ Err DiskFault → reveals → (m : Machine) → KeepsMachine v m → MayHaveClosed v m (closing_in v.ledger.shape m (Close slot)) (state d) (state e))
      → (result ≡ Err NoMemory → reveals → LeavesLedger (state d) (state e))
      → Writes reveals (result ≡ Err DiskFault) v slot (state d) (state e) → Pads reveals (result ≡ Err DiskFault) v (state d) (state e)
      → Leaves reveals v w message (state d) (state e) ⊥ (result ≡ Err DiskFault) (result ≡ Err NoMemory)
  leaves_failed result met is stopped quiet writes padded =
      subst (λ (a : Message). Leaves reveals v w a (state d) (state e) ⊥ (result ≡ Err DiskFault) (result ≡ Err NoMemory)) (sym kind)
      record {
        ledger = λ revealed m kept. ledger met is revealed m kept;
        closed = λ none. absurd none;
        quiet = quiet;
        writes = writes;
        padded = padded;
      }
    where
      ledger : (fault : StepFault) → result ≡ Err fault → reveals → (m : Machine) → KeepsMachine v m → MayHaveClosed v m (closing_in v.ledger.shape m (Close slot)) (state d) (state e)
      ledger DiskFault now revealed m kept = stopped now revealed m kept
      ledger NoMemory now revealed m kept = inl (adds_none one v m (state d) (state e) writes.earlier (quiet now revealed))
