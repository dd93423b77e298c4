-- What holds of messages that were taken one after the other.
use Rattle.std.specs.Prelude.{◌≡◌, ℕ, true, List, ◌++◌}
use Rattle.aea_disk.specs.State.{State, IsFixed}
use Rattle.aea_messages.specs.declared.message.Message.{Message}
use Rattle.aea_machine.specs.Machine.{Machine, after}
use Rattle.aea_session.specs.declared.work.Work.{Work}
use Rattle.aea_session.specs.Stands.{KeepsMachine, StandsFor, IsTheSessions}
use Rattle.aea_session.specs.Serving.{HasServed}

-- What a session is after these messages, which kept the state m of the machine before them: it keeps the state after them, stands
-- for it where it stood for m, and is as fit for use as it was.
pub record IsAfter (reveals : Type 0) (m : Machine) (v w : Work) (messages : List Message) (old new : State) : Type 0 where
  pub keeps : KeepsMachine w (after v.ledger.shape m messages)
  pub stands : StandsFor v m → StandsFor w (after v.ledger.shape m messages)
  pub shape : w.ledger.shape ≡ v.ledger.shape
  pub live : v.ledger.live ≡ true → w.ledger.live ≡ true
  pub this : (reveals → IsTheSessions v old.files) → reveals → IsTheSessions w new.files
  pub fixed : (reveals → IsFixed old 0) → reveals → IsFixed new 0

-- So it is after messages that were taken, whatever the replies.
abbrev pub ServedAreAfter : Type 0 → {D : Type 0} → (D → State) → Type 0
ServedAreAfter reveals {D} state =
    (m : Machine) (v w : Work) (d e : D) (messages : List Message) (bytes : List ℕ) → KeepsMachine v m → HasServed reveals state m v d messages bytes w e
    → IsAfter reveals m v w messages (state d) (state e)

-- Where two lists of messages, joined, were taken, the first one was, and then the second, in the state of the machine after it.
abbrev pub ServedInTwo : Type 0 → {D : Type 0} → (D → State) → Type 0
ServedInTwo reveals {D} state =
    (m : Machine) (v w : Work) (d e : D) (early late : List Message) (bytes : List ℕ) → HasServed reveals state m v d (early ++ late) bytes w e
    → (u : Work) × (f : D) × (first : List ℕ) × (second : List ℕ) × (bytes ≡ first ++ second)
    × HasServed reveals state m v d early first u f × HasServed reveals state (after v.ledger.shape m early) u f late second w e

-- And two that were taken one after the other, joined, were taken.
abbrev pub ServedAsOne : Type 0 → {D : Type 0} → (D → State) → Type 0
ServedAsOne reveals {D} state =
    (m : Machine) (v u w : Work) (d f e : D) (early late : List Message) (first second : List ℕ)
    → HasServed reveals state m v d early first u f → HasServed reveals state (after v.ledger.shape m early) u f late second w e
    → HasServed reveals state m v d (early ++ late) (first ++ second) w e
