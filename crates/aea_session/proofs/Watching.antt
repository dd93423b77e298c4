-- A message that was taken and only looked.
use Rattle.std.proofs.Common.{◌≡◌, ◌≢◌, ◌⊎◌, inl, inr, ℕ, ◌≤◌, List, [], Option, None, Some, Bool, true, false, Result, Ok, Err, refl, sym, ◌∙◌, ap, subst}
use Rattle.std.specs.Prelude.{if◌then◌else◌, IfOk, IfErr, OnOk}
use Rattle.std.specs.FinMap.{get}
use Rattle.aea_faults.specs.Faults.{Rose}
use Rattle.aea_io.specs.Streams.{SinkState}
use Rattle.aea_io.specs.Written.{IsFlushed}
use Rattle.aea_lattice.specs.declared.blocks.BlockId.{BlockId}
use Rattle.aea_lattice.specs.declared.shape.Shape.{Shape}
use Rattle.aea_catalog.specs.Catalogs.{Placed}
use Rattle.aea_disk.specs.Frames.{OnlyReads}
use Rattle.aea_disk.specs.State.{State, IsFixed}
use Rattle.aea_shelf.specs.Facts.{HomesAreOnItsSites}
use Rattle.aea_records.specs.Laws.{HasOneReading}
use Rattle.aea_ledger.specs.Values.{Opened}
use Rattle.aea_messages.specs.declared.message.Message.{Message}
use Rattle.aea_messages.specs.declared.message.Message.TheVariants.{Close, Read, Patrol}
use Rattle.aea_machine.specs.Closings.{closing_in}
use Rattle.aea_machine.specs.Machine.{Machine, Patrols, BadRange, step, stays, read_in, is_range}
use Rattle.aea_session.specs.declared.fault.TakeFault.{TakeFault}
use Rattle.aea_session.specs.declared.fault.TakeFault.TheVariants.{Damaged, DiskFault, WriteFault}
use Rattle.aea_session.specs.declared.work.Work.{Work}
use Rattle.aea_session.specs.Looks.{KeepsAllButCell, LooksKeep, IsReplyTo, MayBegin, Replies, RepliesPart, greatest_reply}
use Rattle.aea_session.specs.Stands.{KeepsMachine, StandsFor, IsTheSessions}
use Rattle.aea_session.specs.Takes.{IsRead, Moves, Takes}
use Rattle.aea_session.proofs.LookingPrinted.{err_with}
use Rattle.aea_session.proofs.Taking.{goes_same, leaves_read, fixed_read}

-- ---- what the machine does for them

-- it keeps its state, and adds no close
pub record OnlyLooks (message : Message) : Type 0 where
  pub stays : (shape : Shape) (m : Machine) → (step shape m message).state ≡ m
  pub none : (shape : Shape) (m : Machine) → closing_in shape m message ≡ []
  pub other : (slot : ℕ) → message ≡ Close slot → ⊥

read_stays : (m : Machine) (o : Option Placed) → (read_in m o).state ≡ m
read_stays m None = refl
read_stays m (Some placed) = refl

pub read_looks : (message : Message) (name : List ℕ) → message ≡ Read name → OnlyLooks message
read_looks message name kind = record {
  stays = λ shape m. ap (λ (a : Message). (step shape m a).state) kind ∙ read_stays m (get m.objects name);
  none = λ shape m. ap (closing_in shape m) kind;
  other = λ slot is. (let bad : Read name ≡ Close slot = sym kind ∙ is in cc);
}

range_stays : (m : Machine) (first count : ℕ) (b : Bool) → (if b then stays m (Patrols first count) else stays m BadRange).state ≡ m
range_stays m first count true = refl
range_stays m first count false = refl

pub patrol_looks : (message : Message) (first count : ℕ) → message ≡ Patrol first count → OnlyLooks message
patrol_looks message first count kind = record {
  stays = λ shape m. ap (λ (a : Message). (step shape m a).state) kind ∙ range_stays m first count (is_range shape m first count);
  none = λ shape m. ap (closing_in shape m) kind;
  other = λ slot is. (let bad : Patrol first count ≡ Close slot = sym kind ∙ is in cc);
}

-- ---- where it was taken

-- the session keeps the state, which is the next one
moves_looked : LooksKeep → (reveals fault : Type 0) (v w : Work) (message : Message) (old new : State) → OnlyLooks message → v.ledger.live ≡ true
    → (reveals → IsTheSessions v old.files) → (reveals → IsFixed old 0) → KeepsAllButCell v w → OnlyReads reveals fault old new → Moves reveals v w message old new
moves_looked keep reveals fault v w message old new looks live this fixed same reads = record {
  keeps = λ m kept. subst (KeepsMachine w) (sym (looks.stays v.ledger.shape m)) ((keep v w same).0 m kept);
  stands = λ m kept stood. subst (StandsFor w) (sym (looks.stays v.ledger.shape m)) ((keep v w same).1 m stood);
  shape = ap (λ (l : Opened). l.shape) same.ledger;
  live = ap (λ (l : Opened). l.live) same.ledger ∙ live;
  goes = goes_same v w message same.ledger (λ m kept. looks.none v.ledger.shape m);
  this = λ revealed. subst (IsTheSessions w) (sym (reads.contents revealed)) ((keep v w same).2 old.files (this revealed));
  fixed = λ revealed. fixed_read reveals fault old new revealed (fixed revealed) reads;
}

-- ---- whatever the result

-- of each result what holds in any case
on_any : (result : Result ℕ TakeFault) (P : Type 0) → P → OnOk result P
on_any (Ok code) P is = is
on_any (Err fault) P is = tt

-- it is no close
unsaid_any : (result : Result ℕ TakeFault) (message : Message) (P : Type 0) → OnlyLooks message → IfErr result (λ fault. fault ≢ WriteFault → (slot : ℕ) → message ≡ Close slot → P)
unsaid_any (Ok code) message P looks = tt
unsaid_any (Err fault) message P looks = λ fine slot is. absurd (looks.other slot is)

-- what was appended is said of the states of the output
part_of : (result : Result ℕ TakeFault) (v : Work) (P Q : Type 0) (may : Machine → Type 0) → (P → Q) → IfErr result (λ fault. (m : Machine) → KeepsMachine v m → P ⊎ may m)
    → IfErr result (λ fault. (m : Machine) → KeepsMachine v m → Q ⊎ may m)
part_of result v P Q may so all =
    err_with result (λ fault. (m : Machine) → KeepsMachine v m → P ⊎ may m) (λ fault. (m : Machine) → KeepsMachine v m → Q ⊎ may m)
    (λ fault is m kept. elim (is m kept) [ inl none ↦ inl (so none) | inr some ↦ inr some ]) all

-- what a look ensures, of the session, the disk and the output before and after it
pub record Looked (reveals : Type 0) (v w : Work) (message : Message) (old new : State) (before after : SinkState) (untouched : Type 0) (result : Result ℕ TakeFault) : Type 0 where
  pub same : KeepsAllButCell v w
  pub replies : IfOk result (λ code. (m : Machine) → KeepsMachine v m → Replies (IsReplyTo reveals v.ledger m old.files message code) before after)
  pub flushed : OnOk result (IsFlushed after)
  pub part : IfErr result (λ fault. (m : Machine) → KeepsMachine v m → untouched ⊎ RepliesPart (MayBegin reveals v.ledger m old.files message) before after)
  pub damaged : (b : BlockId) → result ≡ Err (Damaged b) → IsRead v message b × (reveals → ⊥)
  pub reads : OnlyReads reveals (result ≡ Err DiskFault) old new
  pub out_kept : before.faults ≤ after.faults
  pub out_cause : result ≡ Err WriteFault → Rose before.faults after.faults
  pub out_still : result ≢ Err WriteFault → after.faults ≡ before.faults
  pub in_room : (m : Machine) (room : ℕ) → KeepsMachine v m → before.room ≡ Some room → greatest_reply (step v.ledger.shape m message).answer ≤ room
      → (result ≢ Err WriteFault) × (after.faults ≡ before.faults)

-- the message was taken
pub takes_looked : HasOneReading → HomesAreOnItsSites → LooksKeep → (reveals : Type 0) (v w : Work) (message : Message) (old new : State) (before after : SinkState) (untouched : Type 0) (result : Result ℕ TakeFault)
    → OnlyLooks message → v.ledger.live ≡ true → (reveals → IsTheSessions v old.files) → (reveals → IsFixed old 0) → (untouched → after ≡ before)
    → Looked reveals v w message old new before after untouched result → Takes reveals v w message old new before after result
takes_looked one sites keep reveals v w message old new before after untouched result looks live this fixed so looked = record {
  moves = on_any result (Moves reveals v w message old new) (moves_looked keep reveals (result ≡ Err DiskFault) v w message old new looks live this fixed looked.same looked.reads);
  replies = looked.replies;
  part = part_of result v untouched (after ≡ before) (λ m. RepliesPart (MayBegin reveals v.ledger m old.files message) before after) so looked.part;
  unsaid = unsaid_any result message (after ≡ before) looks;
  flushed = looked.flushed;
  leaves = leaves_read one sites reveals v w message old new (result ≡ Err DiskFault) (λ m kept. looks.none v.ledger.shape m) fixed looked.reads _ _;
  damaged = looked.damaged;
  out_kept = looked.out_kept;
  out_cause = looked.out_cause;
  out_still = looked.out_still;
  in_room = λ room revealed m kept enough. (looked.in_room m room kept revealed enough).0;
}
