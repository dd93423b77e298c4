-- A message that was taken without the disk.
use Rattle.std.proofs.Common.{◌≡◌, ℕ, List, [], Result, Ok, Err, sym, ◌∙◌, ap, subst}
use Rattle.std.specs.Prelude.{true}
use Rattle.aea_io.specs.Pages.{Prints}
use Rattle.aea_io.specs.Streams.{SinkState}
use Rattle.aea_io.specs.Written.{IsFlushed}
use Rattle.aea_disk.specs.Files.{Files}
use Rattle.aea_disk.specs.State.{State, IsFixed}
use Rattle.aea_records.specs.Laws.{HasOneReading}
use Rattle.aea_ledger.specs.Values.{Opened, IsThisOne}
use Rattle.aea_weave.specs.Woven.{Woven}
use Rattle.aea_append.specs.Weaving.{AreIntactOn}
use Rattle.aea_messages.specs.declared.message.Message.{Message}
use Rattle.aea_machine.specs.declared.refusal.Refusal.{Refusal}
use Rattle.aea_machine.specs.Replies.{code_of}
use Rattle.aea_session.specs.declared.fault.TakeFault.TheVariants.{WriteFault, NoMemory}
use Rattle.aea_session.specs.declared.work.Work.{Work}
use Rattle.aea_session.specs.Stands.{KeepsSomeMachine, IsTheSessions}
use Rattle.aea_session.specs.Steps.{MakesStep, KeepsArchive, answer_by, made_by}
use Rattle.aea_session.specs.Takes.{Takes}
use Rattle.aea_session.proofs.Taking.{ClosesNone, reply_to, reply_made, long_made, goes_same, moves_made, leaves_same, takes_put, takes_unwritten, takes_dry}

-- a disk that is the session's stays so where the session keeps what it has of its archive
this_kept : (v w : Work) (c : Files) → KeepsArchive v w → IsTheSessions v c → IsTheSessions w c
this_kept v w c archive this = record {
  ledger = subst (λ (l : Opened). IsThisOne l (c 0)) (sym archive.ledger) this.ledger;
  cells =
      subst (λ (l : Opened). AreIntactOn (Unit {0}) l.shape l.lattice.n w.heads.lattice.n w.digests.items c) (sym archive.ledger)
      (subst (λ (h : Woven). AreIntactOn (Unit {0}) v.ledger.shape v.ledger.lattice.n h.lattice.n w.digests.items c) (sym archive.heads)
      (subst (λ (ds : List (List ℕ)). AreIntactOn (Unit {0}) v.ledger.shape v.ledger.lattice.n v.heads.lattice.n ds c) (sym archive.digests) this.cells));
}

module _ (one : HasOneReading) (reveals : Type 0) (v w : Work) (message : Message) (old : State) (before after : SinkState) (none : ClosesNone v message) (fixed : reveals → IsFixed old 0) where
  -- there was no memory
  pub quietly_dry : Takes reveals v w message old old before before (Err NoMemory)
  quietly_dry = takes_dry reveals v w message old old before ⊥ ⊥ (Unit {0}) (leaves_same one reveals v w message old none fixed ⊥ (Unit {0})) tt (λ bad. bad)

  module _ (made : Result (Unit {0}) Refusal) (some : KeepsSomeMachine v) (makes : MakesStep made_by v w message made) (archive : KeepsArchive v w) (live : v.ledger.live ≡ true) (this : reveals → IsTheSessions v old.files) where
    -- the reply was given
    pub quietly_put : {T E : Type 0} {value : T} (code : ℕ) → code ≡ code_of (answer_by made_by made) → IsFlushed after
        → Prints {E = E} before [] after [] (Ok value) (reply_to message (answer_by made_by made)) → Takes reveals v w message old old before after (Ok code)
    quietly_put code is flushed prints =
        subst (λ (n : ℕ). Takes reveals v w message old old before after (Ok n)) (sym is)
        (takes_put reveals v w message old old before after (Unit {0}) ⊥ ⊥ (code_of (answer_by made_by made)) (reply_to message (answer_by made_by made))
        (leaves_same one reveals v w message old none fixed (Unit {0}) ⊥) tt (λ bad. bad)
        (moves_made reveals made_by v w message old old made some makes (ap (λ (l : Opened). l.live) archive.ledger ∙ live) (goes_same v w message archive.ledger none) (λ revealed. this_kept v w old.files archive (this revealed)) fixed)
        (reply_made reveals v w old.files message made makes) flushed prints)

    -- it failed
    pub quietly_unwritten : {T E : Type 0} {value : E} → Prints {T = T} before [] after [] (Err value) (reply_to message (answer_by made_by made)) → Takes reveals v w message old old before after (Err WriteFault)
    quietly_unwritten prints =
        takes_unwritten reveals v w message old old before after (Unit {0}) ⊥ ⊥ (code_of (answer_by made_by made)) (reply_to message (answer_by made_by made))
        (leaves_same one reveals v w message old none fixed (Unit {0}) ⊥) tt (λ bad. bad)
        (reply_made reveals v w old.files message made makes) (long_made v w message made makes) prints
