use Rattle.std.proofs.Common.{true, false, refl}
use Rattle.aea_session.proofs.Opens.{looked_at, opens_open, opens_new}
use Rattle.aea_session.proofs.open.open_refusal.Goals as goal

pub returns-then-is_open-clause-steps : goal.returns-then-is_open-clause-steps
returns-then-is_open-clause-steps c m keeps =
    let v = c.args.work.now in
    opens_open v.ledger.shape m c.args.slot c.args.name.now
    (looked_at v m c.args.slot c.args.name.now c.index-work-slot.result c.catalog.result.now.objects c.find.result true keeps c.if-slot-ge16.false c.if-is_some.ensures (c.if-not-check_name.ensures.0 refl)
    c.catalog.ensures.objects c.find.ensures c.if-is_some-2.ensures c.if-is_open.ensures)

pub returns-clause-steps : goal.returns-clause-steps
returns-clause-steps c m keeps =
    let v = c.args.work.now in
    opens_new v.ledger.shape m c.args.slot c.args.name.now
    (looked_at v m c.args.slot c.args.name.now c.index-work-slot.result c.catalog.result.now.objects c.find.result false keeps c.if-slot-ge16.false c.if-is_some.ensures (c.if-not-check_name.ensures.0 refl)
    c.catalog.ensures.objects c.find.ensures c.if-is_some-2.ensures c.if-is_open.ensures)
