-- A step of the machine that a session makes.
use Rattle.std.specs.Prelude.{◌≡◌, Result, Ok, Err}
use Rattle.aea_messages.specs.declared.message.Message.{Message}
use Rattle.aea_machine.specs.declared.refusal.Refusal.{Refusal}
use Rattle.aea_machine.specs.Machine.{Machine, Answer, Made, Closed, step}
use Rattle.aea_machine.specs.Refusals.{refused_by}
use Rattle.aea_append.specs.declared.store.Stored.{Stored}
use Rattle.aea_session.specs.declared.work.Work.{Work}
use Rattle.aea_session.specs.Stands.{KeepsMachine, StandsFor}

-- the answer of the machine that a result is, where `done` says which one is what was asked
abbrev pub answer_by : {T : Type 0} → (T → Answer) → Result T Refusal → Answer
answer_by done (Ok value) = done value
answer_by done (Err refusal) = refused_by refusal

-- what an open, a chunk and an abort answer
abbrev pub made_by : Unit {0} → Answer
made_by u = Made

-- what a close answers
abbrev pub closed_by : Stored → Answer
closed_by stored = Closed stored.nodes stored.length stored.digest

-- The session made the step of the machine for this message: the result is the machine's answer, and where it kept the state m
-- it keeps the next one, and stands for it where it stood for m.
pub record Steps {T : Type 0} (done : T → Answer) (v w : Work) (m : Machine) (message : Message) (result : Result T Refusal) : Type 0 where
  pub answer : (step v.ledger.shape m message).answer ≡ answer_by done result
  pub keeps : KeepsMachine w (step v.ledger.shape m message).state
  pub stands : StandsFor v m → StandsFor w (step v.ledger.shape m message).state
  pub shape : w.ledger.shape ≡ v.ledger.shape

-- it is so of each state that the session keeps
abbrev pub MakesStep : {T : Type 0} → (T → Answer) → Work → Work → Message → Result T Refusal → Type 0
MakesStep done v w message result = (m : Machine) → KeepsMachine v m → Steps done v w m message result

-- What the session has of its archive is as it was: the ledger, the heads, and the digests of W.
pub record KeepsArchive (v w : Work) : Type 0 where
  pub ledger : w.ledger ≡ v.ledger
  pub heads : w.heads ≡ v.heads
  pub digests : w.digests.items ≡ v.digests.items
