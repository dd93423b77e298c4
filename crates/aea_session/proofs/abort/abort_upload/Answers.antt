use Rattle.std.proofs.Common.{None}
use Rattle.aea_messages.specs.declared.message.Message.TheVariants.{Abort}
use Rattle.aea_machine.specs.declared.refusal.Refusal.TheVariants.{SlotFree}
use Rattle.aea_session.specs.Steps.{made_by}
use Rattle.aea_session.proofs.Aborts.{aborts_free, aborts_made}
use Rattle.aea_session.proofs.Slotted.{slot_some, read_free, read_taken, steps_refused, steps_slot}
use Rattle.aea_session.proofs.abort.abort_upload.Goals as goal

pub returns-then-is_none-clause-steps : goal.returns-then-is_none-clause-steps
returns-then-is_none-clause-steps c m keeps =
    let v = c.args.work.now in
    let inside = c.if-slot-ge16.false in
    steps_refused made_by v m (Abort c.args.slot) SlotFree
    (aborts_free v.ledger.shape m c.args.slot (slot_some c.args.slot inside) (read_free v m c.args.slot c.index-work-slot.result keeps inside c.if-is_none.ensures)) keeps

pub returns-clause-steps : goal.returns-clause-steps
returns-clause-steps c m keeps =
    let v = c.args.work.now in
    let inside = c.if-slot-ge16.false in
    let taken = read_taken v m c.args.slot c.index-work-slot.result keeps inside c.if-is_none.ensures in
    steps_slot c.names_stay_own.ensures c.limits_stay.ensures v m (Abort c.args.slot) c.args.slot None None inside
    (aborts_made v.ledger.shape m c.args.slot taken.has.upload (slot_some c.args.slot inside) taken.has.is) keeps tt
