-- A session that may be used after a message.
use Rattle.std.proofs.Common.{◌≡◌, ℕ, true, Result, Ok, Err}
use Rattle.std.proofs.lemmas.Bool.{false≢true}
use Rattle.std.specs.Prelude.{OnOk}
use Rattle.std.specs.Result.{is_ok}
use Rattle.aea_disk.specs.State.{State}
use Rattle.aea_messages.specs.declared.message.Message.{Message}
use Rattle.aea_machine.specs.Machine.{step}
use Rattle.aea_session.specs.declared.fault.TakeFault.{TakeFault}
use Rattle.aea_session.specs.declared.work.Work.{Work}
use Rattle.aea_session.specs.Stands.{KeepsSomeMachine}
use Rattle.aea_session.specs.Takes.{Moves}

-- where a message was taken, the session keeps the next state, and its ledger may be appended to
pub usable_after : (reveals : Type 0) (v w : Work) (message : Message) (old new : State) (r : Result ℕ TakeFault) → KeepsSomeMachine v
    → OnOk r (Moves reveals v w message old new) → is_ok r ≡ true → KeepsSomeMachine w × (w.ledger.live ≡ true)
usable_after reveals v w message old new (Ok code) some moves is = (((step v.ledger.shape some.0 message).state, moves.keeps some.0 some.1), moves.live)
usable_after reveals v w message old new (Err fault) some moves is = absurd (false≢true is)
