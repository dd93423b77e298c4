use Rattle.std.proofs.Common.{◌≡◌, ◌-◌, ◌<◌, sym, ◌∙◌, ap, arith}
use Rattle.std.proofs.lemmas.Bool.Decides.{nat_tests}
use Rattle.aea_lattice.specs.declared.shape.Shape.{Shape}
use Rattle.aea_machine.specs.Machine.{slots_count}
use Rattle.aea_session.proofs.Chunked.{slot_read, slot_none, decided_bad, decided_free, decided_room, decided_over}
use Rattle.aea_session.proofs.Slotted.{machine_free}
use Rattle.aea_session.proofs.chunk.refusal_of.Goals as goal

pub returns-then-place-ge16 : goal.returns-then-place-ge16
returns-then-place-ge16 c m keeps =
    decided_bad c.args.work.now.ledger.shape m c.args.slot c.args.bytes.now (let past = c.if-place-ge16.true in let place = c.from-place.ensures in grind (arith, nat_tests, past, place))

pub returns-in-None : goal.returns-in-None
returns-in-None c m keeps =
    let v = c.args.work.now in
    let inside : c.from-place.result < slots_count = grind (arith, nat_tests, c.if-place-ge16.false) in
    let place : c.from-place.result ≡ c.args.slot = c.from-place.ensures in
    decided_free v.ledger.shape m c.args.slot c.args.bytes.now (omega (arith, inside, place))
    (machine_free v m c.args.slot keeps (slot_none v.slots c.args.slot c.from-place.result c.index-work-place.result place (omega (arith, inside, keeps.many)) c.index-work-place.is (c.index-work-place.is ∙ c.in-None.is)))

pub returns-then-are_left : goal.returns-then-are_left
returns-then-are_left c m keeps =
    let v = c.args.work.now in
    let inside : c.from-place.result < slots_count = grind (arith, nat_tests, c.if-place-ge16.false) in
    let place : c.from-place.result ≡ c.args.slot = c.from-place.ensures in
    decided_room c.filled_are_counted.ensures v m c.args.slot c.in-Some.held c.args.bytes.now (c.next_node-nodes.result - 1) c.limit.result c.block-size.result keeps (omega (arith, inside, place))
    (slot_read v.slots c.args.slot c.from-place.result c.index-work-place.result c.in-Some.held place (omega (arith, inside, keeps.many)) c.index-work-place.is (c.index-work-place.is ∙ c.in-Some.is))
    (omega (arith, c.next_node-nodes.ensures)) c.limit.ensures.value (c.block-size.ensures ∙ ap (λ (s : Shape). s.block) c.shape.ensures.value)
    (sym c.are_left.ensures ∙ c.if-are_left.true)

pub returns-else-are_left : goal.returns-else-are_left
returns-else-are_left c m keeps =
    let v = c.args.work.now in
    let inside : c.from-place.result < slots_count = grind (arith, nat_tests, c.if-place-ge16.false) in
    let place : c.from-place.result ≡ c.args.slot = c.from-place.ensures in
    decided_over c.filled_are_counted.ensures v m c.args.slot c.in-Some.held c.args.bytes.now (c.next_node-nodes.result - 1) c.limit.result c.block-size.result keeps (omega (arith, inside, place))
    (slot_read v.slots c.args.slot c.from-place.result c.index-work-place.result c.in-Some.held place (omega (arith, inside, keeps.many)) c.index-work-place.is (c.index-work-place.is ∙ c.in-Some.is))
    (omega (arith, c.next_node-nodes.ensures)) c.limit.ensures.value (c.block-size.ensures ∙ ap (λ (s : Shape). s.block) c.shape.ensures.value)
    (sym c.are_left.ensures ∙ c.if-are_left.false)
