use Rattle.std.proofs.Common.{◌≡◌, ◌+◌, ◌-◌, ◌*◌, ◌<◌, ◌≤◌, ◌++◌, None, Some, Err, Ok, sym, ◌∙◌, ap, subst, arith, length-append}
use Rattle.std.proofs.KnownBytes.{Consumes-trans}
use Rattle.std.proofs.lemmas.Bool.Decides.{nat_tests}
use Rattle.aea_lattice.specs.declared.grid.Lattice.{Lattice}
use Rattle.aea_lattice.specs.declared.shape.Shape.{Shape}
use Rattle.aea_lattice.specs.Profile.{greatest_nodes}
use Rattle.aea_append.specs.declared.fault.PutFault.TheVariants.{DiskFault, ReadFault}
use Rattle.aea_records.specs.Format.{limit_when}
use Rattle.aea_archive.specs.Blocks.{IsBlockIn}
use Rattle.aea_append.specs.Taking.{room_left, limit_of, most_of}
use Rattle.aea_append.proofs.Faults.{fault_as, ok_no_fault}
use Rattle.aea_append.proofs.Rooms.{room_within, room_few, limit_is, all_writes, all_padded}
use Rattle.aea_append.proofs.Starts.{same_nodes}
use Rattle.aea_append.proofs.Takings.{takes_object, counts_none, counts_more, counts_then}
use Rattle.aea_append.proofs.Wanted.{limit_most, limit_more, limit_all, limit_cut, over_limit, over_all, not_both}
use Rattle.aea_archive.proofs.Writes.{cells_none}
use Rattle.aea_append.proofs.object.take_object.Goals as goal

pub weave_all-requires-clause-limit : goal.weave_all-requires-clause-limit
weave_all-requires-clause-limit g c =
    let room = limit_is c.args.ledger.now c.limit.result c.n-nodes.result c.from.result c.block.result c.from-2.result c.lattice.result c.shape-shape.result c.limit.ensures.value c.lattice.ensures.value c.n-nodes.ensures c.from.ensures c.shape-shape.ensures.value c.block.ensures c.from-2.ensures in
    let most : c.greatest_length-most.result ≡ limit_of c.args.want (room_left c.args.ledger.now) = c.greatest_length-most.ensures ∙ ap (limit_of c.args.want) room in
    let within : c.greatest_length-most.result ≤ room_left c.args.ledger.now = (let w : c.greatest_length-most.result ≤ c.from.result * c.from-2.result = grind (arith, nat_tests, c.if-room-most.false) in omega (arith, w, room)) in
    let v = c.args.ledger.now in
    let few : c.greatest_length-most.result ≤ (greatest_nodes - v.lattice.n) * v.shape.block = omega (arith, within, room_within c.args.ledger.now) in
    subst (λ (s : Shape). c.greatest_length-most.result ≤ (greatest_nodes - c.args.heads.lattice.n) * s.block) (sym c.shape-shape.ensures.value)
    (subst (λ (l : Lattice). c.greatest_length-most.result ≤ (greatest_nodes - l.n) * v.shape.block) (sym c.requires.lattice) few)

pub weave_all-requires-clause-count : goal.weave_all-requires-clause-count
weave_all-requires-clause-count g c =
    let room = limit_is c.args.ledger.now c.limit.result c.n-nodes.result c.from.result c.block.result c.from-2.result c.lattice.result c.shape-shape.result c.limit.ensures.value c.lattice.ensures.value c.n-nodes.ensures c.from.ensures c.shape-shape.ensures.value c.block.ensures c.from-2.ensures in
    let most : c.greatest_length-most.result ≡ limit_of c.args.want (room_left c.args.ledger.now) = c.greatest_length-most.ensures ∙ ap (limit_of c.args.want) room in
    let within : c.greatest_length-most.result ≤ room_left c.args.ledger.now = (let w : c.greatest_length-most.result ≤ c.from.result * c.from-2.result = grind (arith, nat_tests, c.if-room-most.false) in omega (arith, w, room)) in
    omega (arith, within, room_few c.args.ledger.now, c.requires.count)

pub has_more-requires : goal.has_more-requires
has_more-requires g c =
    let room = limit_is c.args.ledger.now c.limit.result c.n-nodes.result c.from.result c.block.result c.from-2.result c.lattice.result c.shape-shape.result c.limit.ensures.value c.lattice.ensures.value c.n-nodes.ensures c.from.ensures c.shape-shape.ensures.value c.block.ensures c.from-2.ensures in
    let most : c.greatest_length-most.result ≡ limit_of c.args.want (room_left c.args.ledger.now) = c.greatest_length-most.ensures ∙ ap (limit_of c.args.want) room in
    let within : c.greatest_length-most.result ≤ room_left c.args.ledger.now = (let w : c.greatest_length-most.result ≤ c.from.result * c.from-2.result = grind (arith, nat_tests, c.if-room-most.false) in omega (arith, w, room)) in
    (let e = c.in-Ok.ensures.exact in let m = c.in-Ok.ensures.most in omega (arith, e, m, within, room_few c.args.ledger.now, c.requires.count))

pub returns-then-room-most-clause-writes : goal.returns-then-room-most-clause-writes
returns-then-room-most-clause-writes g c =
    cells_none g.D.Disk.reveals _ c.args.ledger.now.shape (limit_when c.args.ledger.now.raised) (IsBlockIn c.args.ledger.now.shape c.args.ledger.now.lattice.n) (g.D.Disk.state c.args.disk.now) (λ is. absurd (let e = is in cc))

pub returns-then-room-most-clause-counted : goal.returns-then-room-most-clause-counted
returns-then-room-most-clause-counted g c =
    counts_none (g.S.Source.state c.args.source.now).left c.args.at.now (most_of c.args.want (room_left c.args.ledger.now))

pub returns-then-room-most-clause-full : goal.returns-then-room-most-clause-full
returns-then-room-most-clause-full g c nodes is =
    let room = limit_is c.args.ledger.now c.limit.result c.n-nodes.result c.from.result c.block.result c.from-2.result c.lattice.result c.shape-shape.result c.limit.ensures.value c.lattice.ensures.value c.n-nodes.ensures c.from.ensures c.shape-shape.ensures.value c.block.ensures c.from-2.ensures in
    let most : c.greatest_length-most.result ≡ limit_of c.args.want (room_left c.args.ledger.now) = c.greatest_length-most.ensures ∙ ap (limit_of c.args.want) room in
    let over : c.from.result * c.from-2.result < c.greatest_length-most.result = grind (arith, nat_tests, c.if-room-most.true) in (
      (sym (same_nodes c.n-nodes.result nodes is) ∙ c.n-nodes.ensures ∙ ap (λ (l : Lattice). l.n) c.lattice.ensures.value),
      over_limit c.args.ledger.now c.args.want (g.S.Source.state c.args.source.now).left (g.S.Source.state c.args.source.now).left (omega (arith, over, most, room)),
    )

pub returns-in-Err-clause-writes : goal.returns-in-Err-clause-writes
returns-in-Err-clause-writes g c =
    let room = limit_is c.args.ledger.now c.limit.result c.n-nodes.result c.from.result c.block.result c.from-2.result c.lattice.result c.shape-shape.result c.limit.ensures.value c.lattice.ensures.value c.n-nodes.ensures c.from.ensures c.shape-shape.ensures.value c.block.ensures c.from-2.ensures in
    let most : c.greatest_length-most.result ≡ limit_of c.args.want (room_left c.args.ledger.now) = c.greatest_length-most.ensures ∙ ap (limit_of c.args.want) room in
    let within : c.greatest_length-most.result ≤ room_left c.args.ledger.now = (let w : c.greatest_length-most.result ≤ c.from.result * c.from-2.result = grind (arith, nat_tests, c.if-room-most.false) in omega (arith, w, room)) in
    all_writes c.records_are_few.ensures g.D.Disk.reveals (c.weave_all.result ≡ Err DiskFault) _ c.args.ledger.now c.shape-shape.result c.args.heads.lattice c.greatest_length-most.result (g.D.Disk.state c.args.disk.now) (g.D.Disk.state c.weave_all.new.disk)
    c.shape-shape.ensures.records c.shape-shape.ensures.value c.requires.lattice within (λ is. c.in-Err.is ∙ fault_as c.in-Err.fault DiskFault is) (λ is. cc) c.weave_all.ensures.writes

pub returns-in-Err-clause-padded : goal.returns-in-Err-clause-padded
returns-in-Err-clause-padded g c fine revealed =
    all_padded c.args.ledger.now c.shape-shape.result c.args.heads.lattice (g.D.Disk.state c.args.disk.now).files (g.D.Disk.state c.weave_all.new.disk).files c.shape-shape.ensures.value c.requires.lattice
    (c.weave_all.ensures.padded (λ bad. fine (fault_as c.in-Err.fault DiskFault (sym c.in-Err.is ∙ bad))) revealed)

pub returns-in-Err-clause-over : goal.returns-in-Err-clause-over
returns-in-Err-clause-over g c n is past =
    let room = limit_is c.args.ledger.now c.limit.result c.n-nodes.result c.from.result c.block.result c.from-2.result c.lattice.result c.shape-shape.result c.limit.ensures.value c.lattice.ensures.value c.n-nodes.ensures c.from.ensures c.shape-shape.ensures.value c.block.ensures c.from-2.ensures in
    let most : c.greatest_length-most.result ≡ limit_of c.args.want (room_left c.args.ledger.now) = c.greatest_length-most.ensures ∙ ap (limit_of c.args.want) room in
    let within : c.greatest_length-most.result ≤ room_left c.args.ledger.now = (let w : c.greatest_length-most.result ≤ c.from.result * c.from-2.result = grind (arith, nat_tests, c.if-room-most.false) in omega (arith, w, room)) in
    absurd (omega (arith, within, most, limit_cut c.args.want (room_left c.args.ledger.now) n is, past))

pub returns-in-Err-clause-counted : goal.returns-in-Err-clause-counted
returns-in-Err-clause-counted g c =
    let room = limit_is c.args.ledger.now c.limit.result c.n-nodes.result c.from.result c.block.result c.from-2.result c.lattice.result c.shape-shape.result c.limit.ensures.value c.lattice.ensures.value c.n-nodes.ensures c.from.ensures c.shape-shape.ensures.value c.block.ensures c.from-2.ensures in
    let most : c.greatest_length-most.result ≡ limit_of c.args.want (room_left c.args.ledger.now) = c.greatest_length-most.ensures ∙ ap (limit_of c.args.want) room in
    let within : c.greatest_length-most.result ≤ room_left c.args.ledger.now = (let w : c.greatest_length-most.result ≤ c.from.result * c.from-2.result = grind (arith, nat_tests, c.if-room-most.false) in omega (arith, w, room)) in
    counts_more (g.S.Source.state c.args.source.now).left (g.S.Source.state c.weave_all.new.source).left c.args.at.now c.weave_all.new.at c.greatest_length-most.result (most_of c.args.want (room_left c.args.ledger.now)) c.weave_all.ensures.counted
    (omega (arith, most, limit_most c.args.want (room_left c.args.ledger.now) (omega (arith, most, within))))

pub returns-in-Ok-true-clause-writes : goal.returns-in-Ok-true-clause-writes
returns-in-Ok-true-clause-writes g c =
    let room = limit_is c.args.ledger.now c.limit.result c.n-nodes.result c.from.result c.block.result c.from-2.result c.lattice.result c.shape-shape.result c.limit.ensures.value c.lattice.ensures.value c.n-nodes.ensures c.from.ensures c.shape-shape.ensures.value c.block.ensures c.from-2.ensures in
    let most : c.greatest_length-most.result ≡ limit_of c.args.want (room_left c.args.ledger.now) = c.greatest_length-most.ensures ∙ ap (limit_of c.args.want) room in
    let within : c.greatest_length-most.result ≤ room_left c.args.ledger.now = (let w : c.greatest_length-most.result ≤ c.from.result * c.from-2.result = grind (arith, nat_tests, c.if-room-most.false) in omega (arith, w, room)) in
    all_writes c.records_are_few.ensures g.D.Disk.reveals (c.weave_all.result ≡ Err DiskFault) _ c.args.ledger.now c.shape-shape.result c.args.heads.lattice c.greatest_length-most.result (g.D.Disk.state c.args.disk.now) (g.D.Disk.state c.weave_all.new.disk)
    c.shape-shape.ensures.records c.shape-shape.ensures.value c.requires.lattice within (λ is. absurd (let e = is in cc)) (λ is. absurd (ok_no_fault c.in-Ok.is is)) c.weave_all.ensures.writes

pub returns-in-Ok-true-clause-padded : goal.returns-in-Ok-true-clause-padded
returns-in-Ok-true-clause-padded g c fine revealed =
    all_padded c.args.ledger.now c.shape-shape.result c.args.heads.lattice (g.D.Disk.state c.args.disk.now).files (g.D.Disk.state c.weave_all.new.disk).files c.shape-shape.ensures.value c.requires.lattice
    (c.weave_all.ensures.padded (λ bad. (let is = c.in-Ok.is in cc)) revealed)

pub returns-in-Ok-true-clause-over : goal.returns-in-Ok-true-clause-over
returns-in-Ok-true-clause-over g c n is past =
    let room = limit_is c.args.ledger.now c.limit.result c.n-nodes.result c.from.result c.block.result c.from-2.result c.lattice.result c.shape-shape.result c.limit.ensures.value c.lattice.ensures.value c.n-nodes.ensures c.from.ensures c.shape-shape.ensures.value c.block.ensures c.from-2.ensures in
    let most : c.greatest_length-most.result ≡ limit_of c.args.want (room_left c.args.ledger.now) = c.greatest_length-most.ensures ∙ ap (limit_of c.args.want) room in
    let within : c.greatest_length-most.result ≤ room_left c.args.ledger.now = (let w : c.greatest_length-most.result ≤ c.from.result * c.from-2.result = grind (arith, nat_tests, c.if-room-most.false) in omega (arith, w, room)) in
    absurd (omega (arith, within, most, limit_cut c.args.want (room_left c.args.ledger.now) n is, past))

pub returns-in-Ok-true-clause-counted : goal.returns-in-Ok-true-clause-counted
returns-in-Ok-true-clause-counted g c =
    let room = limit_is c.args.ledger.now c.limit.result c.n-nodes.result c.from.result c.block.result c.from-2.result c.lattice.result c.shape-shape.result c.limit.ensures.value c.lattice.ensures.value c.n-nodes.ensures c.from.ensures c.shape-shape.ensures.value c.block.ensures c.from-2.ensures in
    let most : c.greatest_length-most.result ≡ limit_of c.args.want (room_left c.args.ledger.now) = c.greatest_length-most.ensures ∙ ap (limit_of c.args.want) room in
    let within : c.greatest_length-most.result ≤ room_left c.args.ledger.now = (let w : c.greatest_length-most.result ≤ c.from.result * c.from-2.result = grind (arith, nat_tests, c.if-room-most.false) in omega (arith, w, room)) in
    let more = most_of c.args.want (room_left c.args.ledger.now) - c.greatest_length-most.result in
    let less : c.greatest_length-most.result ≤ most_of c.args.want (room_left c.args.ledger.now) = omega (arith, most, limit_most c.args.want (room_left c.args.ledger.now) (omega (arith, most, within))) in
    counts_more (g.S.Source.state c.args.source.now).left (g.S.Source.state c.has_more.new.source).left c.args.at.now c.has_more.new.at (c.greatest_length-most.result + more) (most_of c.args.want (room_left c.args.ledger.now))
    (counts_then (g.S.Source.state c.args.source.now).left (g.S.Source.state c.weave_all.new.source).left (g.S.Source.state c.has_more.new.source).left c.args.at.now c.weave_all.new.at c.has_more.new.at c.greatest_length-most.result more c.weave_all.ensures.counted
    (c.has_more.ensures.counted more (λ full. (let all = c.is_full.ensures.yes full in omega (arith, most, limit_more c.args.want (room_left c.args.ledger.now) all.0)))))
    (omega (arith, less))

pub returns-in-Ok-false-clause-writes : goal.returns-in-Ok-false-clause-writes
returns-in-Ok-false-clause-writes g c =
    let room = limit_is c.args.ledger.now c.limit.result c.n-nodes.result c.from.result c.block.result c.from-2.result c.lattice.result c.shape-shape.result c.limit.ensures.value c.lattice.ensures.value c.n-nodes.ensures c.from.ensures c.shape-shape.ensures.value c.block.ensures c.from-2.ensures in
    let most : c.greatest_length-most.result ≡ limit_of c.args.want (room_left c.args.ledger.now) = c.greatest_length-most.ensures ∙ ap (limit_of c.args.want) room in
    let within : c.greatest_length-most.result ≤ room_left c.args.ledger.now = (let w : c.greatest_length-most.result ≤ c.from.result * c.from-2.result = grind (arith, nat_tests, c.if-room-most.false) in omega (arith, w, room)) in
    all_writes c.records_are_few.ensures g.D.Disk.reveals (c.weave_all.result ≡ Err DiskFault) _ c.args.ledger.now c.shape-shape.result c.args.heads.lattice c.greatest_length-most.result (g.D.Disk.state c.args.disk.now) (g.D.Disk.state c.weave_all.new.disk)
    c.shape-shape.ensures.records c.shape-shape.ensures.value c.requires.lattice within (λ is. absurd (let e = is in cc)) (λ is. absurd (ok_no_fault c.in-Ok.is is)) c.weave_all.ensures.writes

pub returns-in-Ok-false-clause-padded : goal.returns-in-Ok-false-clause-padded
returns-in-Ok-false-clause-padded g c fine revealed =
    all_padded c.args.ledger.now c.shape-shape.result c.args.heads.lattice (g.D.Disk.state c.args.disk.now).files (g.D.Disk.state c.weave_all.new.disk).files c.shape-shape.ensures.value c.requires.lattice
    (c.weave_all.ensures.padded (λ bad. (let is = c.in-Ok.is in cc)) revealed)

pub returns-in-Ok-false-clause-over : goal.returns-in-Ok-false-clause-over
returns-in-Ok-false-clause-over g c n is past =
    let room = limit_is c.args.ledger.now c.limit.result c.n-nodes.result c.from.result c.block.result c.from-2.result c.lattice.result c.shape-shape.result c.limit.ensures.value c.lattice.ensures.value c.n-nodes.ensures c.from.ensures c.shape-shape.ensures.value c.block.ensures c.from-2.ensures in
    let most : c.greatest_length-most.result ≡ limit_of c.args.want (room_left c.args.ledger.now) = c.greatest_length-most.ensures ∙ ap (limit_of c.args.want) room in
    let within : c.greatest_length-most.result ≤ room_left c.args.ledger.now = (let w : c.greatest_length-most.result ≤ c.from.result * c.from-2.result = grind (arith, nat_tests, c.if-room-most.false) in omega (arith, w, room)) in
    absurd (omega (arith, within, most, limit_cut c.args.want (room_left c.args.ledger.now) n is, past))

pub returns-in-Ok-false-clause-counted : goal.returns-in-Ok-false-clause-counted
returns-in-Ok-false-clause-counted g c =
    let room = limit_is c.args.ledger.now c.limit.result c.n-nodes.result c.from.result c.block.result c.from-2.result c.lattice.result c.shape-shape.result c.limit.ensures.value c.lattice.ensures.value c.n-nodes.ensures c.from.ensures c.shape-shape.ensures.value c.block.ensures c.from-2.ensures in
    let most : c.greatest_length-most.result ≡ limit_of c.args.want (room_left c.args.ledger.now) = c.greatest_length-most.ensures ∙ ap (limit_of c.args.want) room in
    let within : c.greatest_length-most.result ≤ room_left c.args.ledger.now = (let w : c.greatest_length-most.result ≤ c.from.result * c.from-2.result = grind (arith, nat_tests, c.if-room-most.false) in omega (arith, w, room)) in
    let more = most_of c.args.want (room_left c.args.ledger.now) - c.greatest_length-most.result in
    let less : c.greatest_length-most.result ≤ most_of c.args.want (room_left c.args.ledger.now) = omega (arith, most, limit_most c.args.want (room_left c.args.ledger.now) (omega (arith, most, within))) in
    counts_more (g.S.Source.state c.args.source.now).left (g.S.Source.state c.has_more.new.source).left c.args.at.now c.has_more.new.at (c.greatest_length-most.result + more) (most_of c.args.want (room_left c.args.ledger.now))
    (counts_then (g.S.Source.state c.args.source.now).left (g.S.Source.state c.weave_all.new.source).left (g.S.Source.state c.has_more.new.source).left c.args.at.now c.weave_all.new.at c.has_more.new.at c.greatest_length-most.result more c.weave_all.ensures.counted
    (c.has_more.ensures.counted more (λ full. (let all = c.is_full.ensures.yes full in omega (arith, most, limit_more c.args.want (room_left c.args.ledger.now) all.0)))))
    (omega (arith, less))

pub returns-in-Err-has_more-clause-writes : goal.returns-in-Err-has_more-clause-writes
returns-in-Err-has_more-clause-writes g c =
    let room = limit_is c.args.ledger.now c.limit.result c.n-nodes.result c.from.result c.block.result c.from-2.result c.lattice.result c.shape-shape.result c.limit.ensures.value c.lattice.ensures.value c.n-nodes.ensures c.from.ensures c.shape-shape.ensures.value c.block.ensures c.from-2.ensures in
    let most : c.greatest_length-most.result ≡ limit_of c.args.want (room_left c.args.ledger.now) = c.greatest_length-most.ensures ∙ ap (limit_of c.args.want) room in
    let within : c.greatest_length-most.result ≤ room_left c.args.ledger.now = (let w : c.greatest_length-most.result ≤ c.from.result * c.from-2.result = grind (arith, nat_tests, c.if-room-most.false) in omega (arith, w, room)) in
    all_writes c.records_are_few.ensures g.D.Disk.reveals (c.weave_all.result ≡ Err DiskFault) _ c.args.ledger.now c.shape-shape.result c.args.heads.lattice c.greatest_length-most.result (g.D.Disk.state c.args.disk.now) (g.D.Disk.state c.weave_all.new.disk)
    c.shape-shape.ensures.records c.shape-shape.ensures.value c.requires.lattice within (λ is. absurd (let e = is in cc)) (λ is. absurd (ok_no_fault c.in-Ok.is is)) c.weave_all.ensures.writes

pub returns-in-Err-has_more-clause-padded : goal.returns-in-Err-has_more-clause-padded
returns-in-Err-has_more-clause-padded g c fine revealed =
    all_padded c.args.ledger.now c.shape-shape.result c.args.heads.lattice (g.D.Disk.state c.args.disk.now).files (g.D.Disk.state c.weave_all.new.disk).files c.shape-shape.ensures.value c.requires.lattice
    (c.weave_all.ensures.padded (λ bad. (let is = c.in-Ok.is in cc)) revealed)

pub returns-in-Err-has_more-clause-over : goal.returns-in-Err-has_more-clause-over
returns-in-Err-has_more-clause-over g c n is past =
    let room = limit_is c.args.ledger.now c.limit.result c.n-nodes.result c.from.result c.block.result c.from-2.result c.lattice.result c.shape-shape.result c.limit.ensures.value c.lattice.ensures.value c.n-nodes.ensures c.from.ensures c.shape-shape.ensures.value c.block.ensures c.from-2.ensures in
    let most : c.greatest_length-most.result ≡ limit_of c.args.want (room_left c.args.ledger.now) = c.greatest_length-most.ensures ∙ ap (limit_of c.args.want) room in
    let within : c.greatest_length-most.result ≤ room_left c.args.ledger.now = (let w : c.greatest_length-most.result ≤ c.from.result * c.from-2.result = grind (arith, nat_tests, c.if-room-most.false) in omega (arith, w, room)) in
    absurd (omega (arith, within, most, limit_cut c.args.want (room_left c.args.ledger.now) n is, past))

pub returns-in-Err-has_more-clause-counted : goal.returns-in-Err-has_more-clause-counted
returns-in-Err-has_more-clause-counted g c =
    let room = limit_is c.args.ledger.now c.limit.result c.n-nodes.result c.from.result c.block.result c.from-2.result c.lattice.result c.shape-shape.result c.limit.ensures.value c.lattice.ensures.value c.n-nodes.ensures c.from.ensures c.shape-shape.ensures.value c.block.ensures c.from-2.ensures in
    let most : c.greatest_length-most.result ≡ limit_of c.args.want (room_left c.args.ledger.now) = c.greatest_length-most.ensures ∙ ap (limit_of c.args.want) room in
    let within : c.greatest_length-most.result ≤ room_left c.args.ledger.now = (let w : c.greatest_length-most.result ≤ c.from.result * c.from-2.result = grind (arith, nat_tests, c.if-room-most.false) in omega (arith, w, room)) in
    let more = most_of c.args.want (room_left c.args.ledger.now) - c.greatest_length-most.result in
    let less : c.greatest_length-most.result ≤ most_of c.args.want (room_left c.args.ledger.now) = omega (arith, most, limit_most c.args.want (room_left c.args.ledger.now) (omega (arith, most, within))) in
    counts_more (g.S.Source.state c.args.source.now).left (g.S.Source.state c.has_more.new.source).left c.args.at.now c.has_more.new.at (c.greatest_length-most.result + more) (most_of c.args.want (room_left c.args.ledger.now))
    (counts_then (g.S.Source.state c.args.source.now).left (g.S.Source.state c.weave_all.new.source).left (g.S.Source.state c.has_more.new.source).left c.args.at.now c.weave_all.new.at c.has_more.new.at c.greatest_length-most.result more c.weave_all.ensures.counted
    (c.has_more.ensures.counted more (λ full. (let all = c.is_full.ensures.yes full in omega (arith, most, limit_more c.args.want (room_left c.args.ledger.now) all.0)))))
    (omega (arith, less))

pub returns-in-Ok-true-clause-full : goal.returns-in-Ok-true-clause-full
returns-in-Ok-true-clause-full g c nodes is =
    let room = limit_is c.args.ledger.now c.limit.result c.n-nodes.result c.from.result c.block.result c.from-2.result c.lattice.result c.shape-shape.result c.limit.ensures.value c.lattice.ensures.value c.n-nodes.ensures c.from.ensures c.shape-shape.ensures.value c.block.ensures c.from-2.ensures in
    let most : c.greatest_length-most.result ≡ limit_of c.args.want (room_left c.args.ledger.now) = c.greatest_length-most.ensures ∙ ap (limit_of c.args.want) room in
    let within : c.greatest_length-most.result ≤ room_left c.args.ledger.now = (let w : c.greatest_length-most.result ≤ c.from.result * c.from-2.result = grind (arith, nat_tests, c.if-room-most.false) in omega (arith, w, room)) in
    let v = c.args.ledger.now in
    let took = c.in-Ok.ensures.took in
    let more = c.in-Ok-true.ensures.more (let t = c.in-Ok-true.field-0-test in ap Ok t) in
    let all = c.is_full.ensures.yes more.0 in (
      (sym (same_nodes c.n-nodes.result nodes is) ∙ c.n-nodes.ensures ∙ ap (λ (l : Lattice). l.n) c.lattice.ensures.value),
      over_all v c.args.want (g.S.Source.state c.args.source.now).left (g.S.Source.state c.has_more.new.source).left all.0 (
        took.bytes ++ more.1.0,
        Consumes-trans (g.S.Source.state c.args.source.now).left (g.S.Source.state c.weave_all.new.source).left (g.S.Source.state c.has_more.new.source).left took.bytes more.1.0 took.taken more.1.1,
        length-append took.bytes more.1.0 ∙ omega (arith, took.long, all.1, most, limit_all c.args.want (room_left c.args.ledger.now) all.0, more.1.2),
      ),
    )

pub returns-in-Ok-true-clause-full_leaves : goal.returns-in-Ok-true-clause-full_leaves
returns-in-Ok-true-clause-full_leaves g c nodes n is some =
    let more = c.in-Ok-true.ensures.more (let t = c.in-Ok-true.field-0-test in ap Ok t) in
    absurd (not_both c.args.want n (c.is_full.ensures.yes more.0).0 some)

pub returns-in-Ok-false-clause-took : goal.returns-in-Ok-false-clause-took
returns-in-Ok-false-clause-took g c first start =
    let v = c.args.ledger.now in
    takes_object g.D.Disk.reveals v c.shape-shape.result c.shape-shape.ensures.value c.in-Ok.length (g.S.Source.state c.args.source.now).left (g.S.Source.state c.weave_all.new.source).left (g.S.Source.state c.has_more.new.source).left c.new-hasher.result c.weave_all.new.hasher
    c.args.heads c.weave_all.new.heads c.new-digests.result.items c.weave_all.new.digests.items first (g.D.Disk.state c.args.disk.now).files (g.D.Disk.state c.weave_all.new.disk).files c.finalize.result
    c.in-Ok.ensures.took start c.new-digests.ensures.items c.new-hasher.ensures c.finalize.ensures c.requires.lattice c.requires.size (c.in-Ok-false.ensures.none (let t = c.in-Ok-false.field-0-test in ap Ok t))

pub returns-in-Ok-false-clause-end : goal.returns-in-Ok-false-clause-end
returns-in-Ok-false-clause-end g c all =
    c.in-Ok-false.ensures.end (let t = c.in-Ok-false.field-0-test in ap Ok t) (λ part. c.in-Ok.ensures.end (let not = c.is_full.ensures.no part all in let few = c.in-Ok.ensures.most in omega (arith, not, few)))

pub returns-in-Ok-false-clause-cut : goal.returns-in-Ok-false-clause-cut
returns-in-Ok-false-clause-cut g c n is =
    let room = limit_is c.args.ledger.now c.limit.result c.n-nodes.result c.from.result c.block.result c.from-2.result c.lattice.result c.shape-shape.result c.limit.ensures.value c.lattice.ensures.value c.n-nodes.ensures c.from.ensures c.shape-shape.ensures.value c.block.ensures c.from-2.ensures in
    let most : c.greatest_length-most.result ≡ limit_of c.args.want (room_left c.args.ledger.now) = c.greatest_length-most.ensures ∙ ap (limit_of c.args.want) room in
    let within : c.greatest_length-most.result ≤ room_left c.args.ledger.now = (let w : c.greatest_length-most.result ≤ c.from.result * c.from-2.result = grind (arith, nat_tests, c.if-room-most.false) in omega (arith, w, room)) in
    let few = c.in-Ok.ensures.most in
    let cut = limit_cut c.args.want (room_left c.args.ledger.now) n is in (
      omega (arith, few, most, cut),
      (λ short. c.in-Ok-false.ensures.end (let t = c.in-Ok-false.field-0-test in ap Ok t) (λ part. c.in-Ok.ensures.end (omega (arith, short, most, cut)))),
    )

pub returns-in-Ok-false-clause-exact : goal.returns-in-Ok-false-clause-exact
returns-in-Ok-false-clause-exact g c =
    (let e = c.in-Ok.ensures.exact in let s = c.in-Ok-false.ensures.same (let t = c.in-Ok-false.field-0-test in ap Ok t) in omega (arith, e, s))

-- a read fails only before all that is wanted was taken
pub returns-in-Err-clause-short : goal.returns-in-Err-clause-short
returns-in-Err-clause-short g c n some is =
    let room = limit_is c.args.ledger.now c.limit.result c.n-nodes.result c.from.result c.block.result c.from-2.result c.lattice.result c.shape-shape.result c.limit.ensures.value c.lattice.ensures.value c.n-nodes.ensures c.from.ensures c.shape-shape.ensures.value c.block.ensures c.from-2.ensures in
    let most : c.greatest_length-most.result ≡ limit_of c.args.want (room_left c.args.ledger.now) = c.greatest_length-most.ensures ∙ ap (limit_of c.args.want) room in
    let short = c.weave_all.ensures.short (c.in-Err.is ∙ fault_as c.in-Err.fault ReadFault is) in
    omega (arith, short, most, limit_cut c.args.want (room_left c.args.ledger.now) n some)

-- a byte more is asked for only where all is wanted
pub returns-in-Err-has_more-clause-short : goal.returns-in-Err-has_more-clause-short
returns-in-Err-has_more-clause-short g c n some is =
    let all = (c.is_full.ensures.yes c.in-Err-has_more.ensures.only_full).0 in
    absurd (let never : None ≡ Some n = sym all ∙ some in cc)
