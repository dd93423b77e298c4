-- What one message leaves of the records of the session's ledger: where it closes nothing they are the same, and where it is a
-- close the one of that is after them.
use Rattle.std.proofs.Common.{◌≡◌, ◌⊎◌, ⊎_elim, inl, inr, ℕ, List, [], ◌∷◌, ◌++◌, Option, None, Some, refl, sym, ◌∙◌, ap, subst, arith, take_all}
use Rattle.std.proofs.lemmas.List.{append-nil}
use Rattle.aea_lattice.specs.declared.blocks.BlockId.{BlockId}
use Rattle.aea_lattice.specs.declared.grid.Lattice.{Lattice}
use Rattle.aea_lattice.specs.declared.shape.Shape.{Shape}
use Rattle.aea_disk.specs.State.{State}
use Rattle.aea_records.specs.Format.{Record}
use Rattle.aea_records.specs.Grammar.{IsLedger}
use Rattle.aea_ledger.specs.Next.{AreItsRecords}
use Rattle.aea_ledger.specs.Stops.{HasLedger}
use Rattle.aea_ledger.specs.Values.{Opened, HasRecords}
use Rattle.aea_archive.specs.Stretches.{HasPrefix}
use Rattle.aea_messages.specs.declared.message.Message.{Message}
use Rattle.aea_messages.specs.declared.message.Message.TheVariants.{Open, Chunk, Close, Abort, Read, Patrol}
use Rattle.aea_machine.specs.Closings.{Closing, closing_by, closing_in, AreClosedRecords}
use Rattle.aea_machine.specs.Machine.{Upload, Machine, Answer, Made, Closed, Reads, Patrols, BadSlot, SlotTaken, SlotFree, BadName, NameTaken, NameOpen, Full, CatalogFull, UnknownName, BadRange, step, in_slot, last_block, closed_nodes}
use Rattle.aea_session.specs.declared.work.Work.{Work}
use Rattle.aea_session.specs.Closes.{AddsCloses, HasClosed, MayHaveClosed, IsRecordOfClose, AreRecordsOfCloses}
use Rattle.aea_session.specs.Stands.{KeepsMachine}
use Rattle.aea_session.specs.Takes.{Moves, Leaves}
use Rattle.aea_command_session.proofs.Writing.Entries.{closes_none}

-- ---- a message is one close or none

-- by what stands in the slot, and the answer
closing_by_few : (shape : Shape) (m : Machine) (o : Option Upload) (a : Answer) → (closing_by shape m o a ≡ []) ⊎ ((c : Closing) × (closing_by shape m o a ≡ c ∷ []))
closing_by_few shape m None a = inl refl
closing_by_few shape m (Some u) (Closed nodes size digest) =
    inr (record { name = u.name; bytes = u.bytes; nodes = closed_nodes shape m u; blocks = m.woven ++ last_block shape u }, refl)
closing_by_few shape m (Some u) Made = inl refl
closing_by_few shape m (Some u) (Reads placed) = inl refl
closing_by_few shape m (Some u) (Patrols first count) = inl refl
closing_by_few shape m (Some u) BadSlot = inl refl
closing_by_few shape m (Some u) SlotTaken = inl refl
closing_by_few shape m (Some u) SlotFree = inl refl
closing_by_few shape m (Some u) BadName = inl refl
closing_by_few shape m (Some u) NameTaken = inl refl
closing_by_few shape m (Some u) NameOpen = inl refl
closing_by_few shape m (Some u) (Full nodes) = inl refl
closing_by_few shape m (Some u) CatalogFull = inl refl
closing_by_few shape m (Some u) UnknownName = inl refl
closing_by_few shape m (Some u) BadRange = inl refl

-- by the message
pub closing_few : (shape : Shape) (m : Machine) (message : Message) → (closing_in shape m message ≡ []) ⊎ ((c : Closing) × (closing_in shape m message ≡ c ∷ []))
closing_few shape m (Open slot name) = inl refl
closing_few shape m (Chunk slot bytes) = inl refl
closing_few shape m (Close slot) = closing_by_few shape m (in_slot m slot) (step shape m (Close slot)).answer
closing_few shape m (Abort slot) = inl refl
closing_few shape m (Read name) = inl refl
closing_few shape m (Patrol first count) = inl refl

-- ---- records

-- these are the records of an opened ledger, and of bytes that have them
its_by : (w : Opened) (shape : Shape) (records : List Record) (bytes : List ℕ) → w.shape ≡ shape → HasRecords w records → HasLedger shape records bytes → AreItsRecords w records bytes
its_by w shape records bytes same has ledger = record {
  has = has;
  ledger = subst (IsLedger bytes w.shape records) (sym has.end) (subst (λ (s : Shape). HasLedger s records bytes) (sym same) ledger);
}

-- where none was added the ledger has those that it had
prefix_none : (shape : Shape) (records : List Record) (bytes : List ℕ) → HasPrefix shape records [] bytes → HasLedger shape records bytes
prefix_none shape records bytes has =
    subst (λ (rs : List Record). HasLedger shape rs bytes) (ap (λ (l : List Record). records ++ l) (take_all has.count [] (omega arith)) ∙ append-nil records) has.ledger

-- the record of one close
record_of_close : (shape : Shape) (l m : Lattice) (payload : BlockId → List ℕ) (c : Closing) (r : Record) → AreClosedRecords shape l m payload (c ∷ []) (r ∷ []) → IsRecordOfClose c r
record_of_close shape l m payload c r are = (are.1, are.2, are.3.name_is, are.3.size, are.3.digest, are.3.count)

module _ (reveals : Type 0) (revealed : reveals) (u w : Work) (m : Machine) (message : Message) (now next : State) (keeps : KeepsMachine u m)
    (moves : Moves reveals u w message now next) (leaves : Leaves reveals u w message now next (Unit {0}) ⊥ ⊥) (records : List Record) (its : AreItsRecords u.ledger records (now.files 0)) where
  -- it closes nothing
  pub its_none : closing_in u.ledger.shape m message ≡ [] → AreItsRecords w.ledger records (next.files 0)
  its_none none =
      let g = moves.goes m keeps records its.has in
      let nil : g.added ≡ [] = closes_none g.added (subst (λ (cs : List Closing). AreRecordsOfCloses cs g.added) none g.are) in
      let has : HasRecords w.ledger records = subst (HasRecords w.ledger) (ap (λ (l : List Record). records ++ l) nil ∙ append-nil records) g.has in
      its_by w.ledger u.ledger.shape records (next.files 0) moves.shape has
      (⊎_elim
      (λ (adds : AddsCloses u m [] [] now next). prefix_none u.ledger.shape records (next.files 0) (adds.adds records its).reads)
      (λ (one : (r : Record) × AddsCloses u m [] (r ∷ []) now next). absurd one.1.are)
      (subst (λ (cs : List Closing). MayHaveClosed u m cs now next) none (leaves.ledger revealed m keeps)))

  -- it is a close
  pub its_one : (c : Closing) → closing_in u.ledger.shape m message ≡ c ∷ [] → (r : Record) × IsRecordOfClose c r × AreItsRecords w.ledger (records ++ r ∷ []) (next.files 0)
  its_one c is =
      let closed : HasClosed u w m (c ∷ []) now next = leaves.closed tt revealed m c keeps is in (
        closed.r,
        record_of_close u.ledger.shape u.ledger.lattice closed.adds.longer closed.adds.payload c closed.r closed.adds.are,
        its_by w.ledger u.ledger.shape (records ++ closed.r ∷ []) (next.files 0) moves.shape (closed.value records its.has) (closed.added records its).ledger,
      )
