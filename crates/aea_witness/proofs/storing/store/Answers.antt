use Rattle.std.proofs.Common.{ℕ, List, Some, Err, sym, ◌∙◌, ap, subst}
use Rattle.aea_append.specs.Causes.{HasPutRoom}
use Rattle.aea_append.specs.Puts.{HasPut}
use Rattle.aea_append.specs.Taking.{HasPassedRoom}
use Rattle.aea_rehearse.proofs.Homes.{cells_willing, willing_ready}
use Rattle.aea_witness.specs.Objects.{object_of}
use Rattle.aea_witness.proofs.Putting.{may_enter, no_head, put_more}
use Rattle.aea_witness.proofs.Rooms.{put_room, none_past}
use Rattle.aea_witness.proofs.storing.store.Goals as goal

pub unreachable-requires : goal.unreachable-requires
unreachable-requires g c =
    let o = object_of c.args.name.now c.args.bytes.now in
    let r = c.requires.puts in
    let enters = may_enter c.new_names_are_free.ensures c.objects_are_counted.ensures c.args.ledger.now r.0 o (g.D.Disk.state c.args.disk.now).files r.1 c.requires.small r.2 r.3 in
    c.put.ensures.bad_name.0 (c.in-Err-BadName.is ∙ ap Err c.in-Err-BadName.field-0-is) enters.named

pub unreachable-requires-in-Err-NameTaken : goal.unreachable-requires-in-Err-NameTaken
unreachable-requires-in-Err-NameTaken g c =
    let o = object_of c.args.name.now c.args.bytes.now in
    let r = c.requires.puts in
    let enters = may_enter c.new_names_are_free.ensures c.objects_are_counted.ensures c.args.ledger.now r.0 o (g.D.Disk.state c.args.disk.now).files r.1 c.requires.small r.2 r.3 in
    (c.put.ensures.taken.0 (c.in-Err-NameTaken.is ∙ ap Err c.in-Err-NameTaken.field-0-is)).1 enters.free

pub unreachable-requires-in-Err-CatalogFull : goal.unreachable-requires-in-Err-CatalogFull
unreachable-requires-in-Err-CatalogFull g c =
    let o = object_of c.args.name.now c.args.bytes.now in
    let r = c.requires.puts in
    let enters = may_enter c.new_names_are_free.ensures c.objects_are_counted.ensures c.args.ledger.now r.0 o (g.D.Disk.state c.args.disk.now).files r.1 c.requires.small r.2 r.3 in
    enters.few (c.put.ensures.many.0 (c.in-Err-CatalogFull.is ∙ ap Err c.in-Err-CatalogFull.field-0-is)).2

pub unreachable-requires-in-Err-HeadDamaged : goal.unreachable-requires-in-Err-HeadDamaged
unreachable-requires-in-Err-HeadDamaged g c =
    let b = c.in-Err-HeadDamaged.field-0-0 in
    no_head c.args.ledger.now (g.D.Disk.state c.args.disk.now).files b c.requires.puts.1.intact
    ((c.put.ensures.head b (c.in-Err-HeadDamaged.is ∙ ap Err c.in-Err-HeadDamaged.field-0-is)).1 c.requires.reveals)

pub unreachable-requires-in-Err-Full : goal.unreachable-requires-in-Err-Full
unreachable-requires-in-Err-Full g c =
    let v = c.args.ledger.now in
    let o = object_of c.args.name.now c.args.bytes.now in
    let r = c.requires.puts in
    let rest = Some c.put.new.source.rest.now in
    let passed = (c.put.ensures.full c.in-Err-Full.field-0-0 (c.in-Err-Full.is ∙ ap Err c.in-Err-Full.field-0-is)).1.0 in
    none_past v r.0 o rest (g.D.Disk.state c.args.disk.now).files r.1 r.3 c.requires.small
    (subst (λ (xs : List ℕ). HasPassedRoom v (Some xs) rest) c.new-source.ensures passed)

pub unreachable-requires-in-Err-DiskFault : goal.unreachable-requires-in-Err-DiskFault
unreachable-requires-in-Err-DiskFault g c =
    let v = c.args.ledger.now in
    let o = object_of c.args.name.now c.args.bytes.now in
    let r = c.requires.puts in
    let old = g.D.Disk.state c.args.disk.now in
    let rest = Some c.put.new.source.rest.now in
    let room = subst (λ (xs : List ℕ). HasPutRoom v c.args.name.now (Some xs) rest old) (sym c.new-source.ensures) (put_room v r.0 o rest old r.1 r.3 c.requires.small c.requires.room) in
    (c.put.ensures.writes.sure c.requires.reveals (willing_ready old (g.met.D.Disk.free_taken c.args.disk.now) (cells_willing old c.requires.room.cells)) room).0
    (c.in-Err-DiskFault.is ∙ ap Err c.in-Err-DiskFault.field-0-is)

pub returns-in-Ok-clause-puts : goal.returns-in-Ok-clause-puts
returns-in-Ok-clause-puts g c puts p =
    let v = c.args.ledger.now in
    let w = c.put.new.ledger in
    let name = c.args.name.now in
    let bytes = c.args.bytes.now in
    let old = g.D.Disk.state c.args.disk.now in
    let new = g.D.Disk.state c.put.new.disk in
    let rest = Some c.put.new.source.rest.now in
    let stored = c.in-Ok.field-0 in
    let r = c.requires.puts in
    let enters = may_enter c.new_names_are_free.ensures c.objects_are_counted.ensures v r.0 (object_of name bytes) old.files r.1 c.requires.small r.2 r.3 in
    put_more c.puts_go_on.ensures c.digests_are_counted.ensures g.D.Disk.reveals c.requires.reveals v w name bytes rest old new stored puts p c.requires.small enters.free
    (subst (λ (xs : List ℕ). HasPut g.D.Disk.reveals v w name (Some xs) rest old new stored) c.new-source.ensures c.in-Ok.ensures.stored)
    (c.put.ensures.writes.contents c.requires.reveals).homes (c.in-Ok.ensures.ledger c.requires.reveals)

pub returns-in-Ok-clause-live : goal.returns-in-Ok-clause-live
returns-in-Ok-clause-live g c = c.in-Ok.ensures.stored.2.live

pub returns-in-Ok-clause-fixed : goal.returns-in-Ok-clause-fixed
returns-in-Ok-clause-fixed g c d image =
    let p = c.requires.puts.1 in
    (c.in-Ok.ensures.stored.2.added c.requires.reveals p.records p.its).synced d image 0

pub returns-in-Ok-clause-steady : goal.returns-in-Ok-clause-steady
returns-in-Ok-clause-steady g c =
    let v = c.args.ledger.now in
    let o = object_of c.args.name.now c.args.bytes.now in
    let r = c.requires.puts in
    let old = g.D.Disk.state c.args.disk.now in
    let rest = Some c.put.new.source.rest.now in
    let room = subst (λ (xs : List ℕ). HasPutRoom v c.args.name.now (Some xs) rest old) (sym c.new-source.ensures) (put_room v r.0 o rest old r.1 r.3 c.requires.small c.requires.room) in
    (c.put.ensures.writes.sure c.requires.reveals (willing_ready old (g.met.D.Disk.free_taken c.args.disk.now) (cells_willing old c.requires.room.cells)) room).1
