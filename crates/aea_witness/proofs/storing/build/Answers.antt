use Rattle.std.proofs.Common.{[], ◌∷◌, sym, subst, arith}
use Rattle.aea_disk.proofs.Moments.{passes_both}
use Rattle.aea_rehearse.proofs.Built.{empty_some, opened_new}
use Rattle.aea_witness.specs.Objects.{HasPuts, first_object}
use Rattle.aea_witness.proofs.Lists.{first_small, second_small, first_new, second_new}
use Rattle.aea_witness.proofs.Putting.{no_puts}
use Rattle.aea_witness.proofs.Rooms.{room_stays}
use Rattle.aea_witness.proofs.storing.build.Goals as goal

pub open-requires-clause-archive : goal.open-requires-clause-archive
open-requires-clause-archive g c = empty_some c.rehearsal_shape-shape.result ((g.D.Disk.state c.create.new.disk).files 0) c.create.ensures.made

pub store-requires-clause-small : goal.store-requires-clause-small
store-requires-clause-small g c = first_small

pub store-requires-clause-puts : goal.store-requires-clause-puts
store-requires-clause-puts g c =
    let v = c.in_ok-ledger.ledger in
    let mid = (g.D.Disk.state c.create.new.disk).files in
    let new = opened_new c.ledgers_have_one_reading.ensures c.rehearsal_shape-shape.result v (mid 0) c.create.ensures.made c.in_ok-ledger.ensures.this in
    let none = no_puts c.none_record_none.ensures c.rehearsal_shape-shape.result v mid c.rehearsal_shape-shape.ensures c.create.ensures.made new in
    ([], subst (HasPuts v []) (sym (c.open.ensures.reads.contents c.requires.reveals)) none, first_new, omega arith)

pub returns-in_err-store-clause-time : goal.returns-in_err-store-clause-time
returns-in_err-store-clause-time g c =
    passes_both (g.D.Disk.state c.args.disk.now) (g.D.Disk.state c.create.new.disk) (g.D.Disk.state c.store.new.disk) c.create.ensures.time
    (passes_both (g.D.Disk.state c.create.new.disk) (g.D.Disk.state c.open.new.disk) (g.D.Disk.state c.store.new.disk) c.open.ensures.reads.time c.store.ensures.time)

pub store-requires-2-clause-room : goal.store-requires-2-clause-room
store-requires-2-clause-room g c =
    let old = g.D.Disk.state c.args.disk.now in
    let made = g.D.Disk.state c.create.new.disk in
    let opened = g.D.Disk.state c.open.new.disk in
    let one = g.D.Disk.state c.store.new.disk in
    room_stays opened one c.store.ensures.time c.store.ensures.steady
    (room_stays made opened c.open.ensures.reads.time (c.open.ensures.reads.still (λ none. none)) (room_stays old made c.create.ensures.time c.create.ensures.steady c.requires.room))

pub store-requires-2-clause-small : goal.store-requires-2-clause-small
store-requires-2-clause-small g c = second_small

pub store-requires-2-clause-puts : goal.store-requires-2-clause-puts
store-requires-2-clause-puts g c =
    let v = c.in_ok-ledger.ledger in
    let mid = (g.D.Disk.state c.create.new.disk).files in
    let new = opened_new c.ledgers_have_one_reading.ensures c.rehearsal_shape-shape.result v (mid 0) c.create.ensures.made c.in_ok-ledger.ensures.this in
    let none = no_puts c.none_record_none.ensures c.rehearsal_shape-shape.result v mid c.rehearsal_shape-shape.ensures c.create.ensures.made new in
    (first_object ∷ [], c.in_ok-store.ensures.puts [] (subst (HasPuts v []) (sym (c.open.ensures.reads.contents c.requires.reveals)) none), second_new, omega arith)

pub returns-in_err-store-2-clause-time : goal.returns-in_err-store-2-clause-time
returns-in_err-store-2-clause-time g c =
    let made = g.D.Disk.state c.create.new.disk in
    let opened = g.D.Disk.state c.open.new.disk in
    let one = g.D.Disk.state c.store.new.disk in
    let two = g.D.Disk.state c.store-2.new.disk in
    passes_both (g.D.Disk.state c.args.disk.now) made two c.create.ensures.time
    (passes_both made opened two c.open.ensures.reads.time (passes_both opened one two c.store.ensures.time c.store-2.ensures.time))

pub ingest-requires-clause-puts : goal.ingest-requires-clause-puts
ingest-requires-clause-puts g c =
    let v = c.in_ok-ledger.ledger in
    let mid = (g.D.Disk.state c.create.new.disk).files in
    let new = opened_new c.ledgers_have_one_reading.ensures c.rehearsal_shape-shape.result v (mid 0) c.create.ensures.made c.in_ok-ledger.ensures.this in
    let none = no_puts c.none_record_none.ensures c.rehearsal_shape-shape.result v mid c.rehearsal_shape-shape.ensures c.create.ensures.made new in
    c.in_ok-store-2.ensures.puts (first_object ∷ []) (c.in_ok-store.ensures.puts [] (subst (HasPuts v []) (sym (c.open.ensures.reads.contents c.requires.reveals)) none))

pub ingest-requires-clause-room : goal.ingest-requires-clause-room
ingest-requires-clause-room g c =
    let old = g.D.Disk.state c.args.disk.now in
    let made = g.D.Disk.state c.create.new.disk in
    let opened = g.D.Disk.state c.open.new.disk in
    let one = g.D.Disk.state c.store.new.disk in
    let two = g.D.Disk.state c.store-2.new.disk in
    room_stays one two c.store-2.ensures.time c.store-2.ensures.steady
    (room_stays opened one c.store.ensures.time c.store.ensures.steady
    (room_stays made opened c.open.ensures.reads.time (c.open.ensures.reads.still (λ none. none)) (room_stays old made c.create.ensures.time c.create.ensures.steady c.requires.room)))

pub returns-in_err-ingest-clause-time : goal.returns-in_err-ingest-clause-time
returns-in_err-ingest-clause-time g c =
    let made = g.D.Disk.state c.create.new.disk in
    let opened = g.D.Disk.state c.open.new.disk in
    let one = g.D.Disk.state c.store.new.disk in
    let two = g.D.Disk.state c.store-2.new.disk in
    let three = g.D.Disk.state c.ingest.new.disk in
    passes_both (g.D.Disk.state c.args.disk.now) made three c.create.ensures.time
    (passes_both made opened three c.open.ensures.reads.time (passes_both opened one three c.store.ensures.time (passes_both one two three c.store-2.ensures.time c.ingest.ensures.time)))

pub returns-clause-time : goal.returns-clause-time
returns-clause-time g c =
    let made = g.D.Disk.state c.create.new.disk in
    let opened = g.D.Disk.state c.open.new.disk in
    let one = g.D.Disk.state c.store.new.disk in
    let two = g.D.Disk.state c.store-2.new.disk in
    let three = g.D.Disk.state c.ingest.new.disk in
    passes_both (g.D.Disk.state c.args.disk.now) made three c.create.ensures.time
    (passes_both made opened three c.open.ensures.reads.time (passes_both opened one three c.store.ensures.time (passes_both one two three c.store-2.ensures.time c.ingest.ensures.time)))

pub returns-in_err-ledger-clause-time : goal.returns-in_err-ledger-clause-time
returns-in_err-ledger-clause-time g c = passes_both (g.D.Disk.state c.args.disk.now) (g.D.Disk.state c.create.new.disk) (g.D.Disk.state c.open.new.disk) c.create.ensures.time c.open.ensures.reads.time
