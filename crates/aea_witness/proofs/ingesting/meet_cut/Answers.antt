use Rattle.std.proofs.Common.{length, length-append, Ok, Err, refl, sym, ◌∙◌, ap, subst, arith}
use Rattle.aea_append.specs.Frames.{frame_head, EndsInside}
use Rattle.aea_rehearse.proofs.Homes.{cells_willing, willing_ready}
use Rattle.aea_ledger.specs.Values.{Opened}
use Rattle.aea_witness.specs.Objects.{HasPuts}
use Rattle.aea_witness.proofs.Putting.{may_enter, no_head, puts_stay}
use Rattle.aea_witness.proofs.Streams.{frame_room, ends_inside, length-head, never_stored, never_other, no_disk_fault, not_put, counts_all}
use Rattle.aea_witness.proofs.ingesting.meet_cut.Goals as goal

pub unreachable-requires-in-Ok-Stored : goal.unreachable-requires-in-Ok-Stored
unreachable-requires-in-Ok-Stored g c =
    let v = c.args.ledger.now in
    let b = c.requires.cut in
    let stream = c.args.source.now.rest.now in
    let files = (g.D.Disk.state c.args.disk.now).files in
    let enters = may_enter c.new_names_are_free.ensures c.objects_are_counted.ensures v b.puts b.object files b.has b.small b.new b.few in
    let inside = ends_inside v b.puts b.object b.front stream files b.has b.small b.few enters b.begins b.cut in
    let either = c.ingest_one.ensures.bad_stream_refused stream refl inside in
    never_stored c.ingest_one.result _ _ either (c.in-Ok-Stored.is ∙ ap Ok c.in-Ok-Stored.field-0-is)

pub unreachable-requires-in-Ok-End : goal.unreachable-requires-in-Ok-End
unreachable-requires-in-Ok-End g c =
    let v = c.args.ledger.now in
    let b = c.requires.cut in
    let stream = c.args.source.now.rest.now in
    let files = (g.D.Disk.state c.args.disk.now).files in
    let enters = may_enter c.new_names_are_free.ensures c.objects_are_counted.ensures v b.puts b.object files b.has b.small b.new b.few in
    let inside = ends_inside v b.puts b.object b.front stream files b.has b.small b.few enters b.begins b.cut in
    let either = c.ingest_one.ensures.bad_stream_refused stream refl inside in
    never_stored c.ingest_one.result _ _ either (c.in-Ok-End.is ∙ ap Ok c.in-Ok-End.field-0-is)

pub unreachable-requires : goal.unreachable-requires
unreachable-requires g c =
    let v = c.args.ledger.now in
    let b = c.requires.cut in
    let stream = c.args.source.now.rest.now in
    let files = (g.D.Disk.state c.args.disk.now).files in
    let enters = may_enter c.new_names_are_free.ensures c.objects_are_counted.ensures v b.puts b.object files b.has b.small b.new b.few in
    let inside = ends_inside v b.puts b.object b.front stream files b.has b.small b.few enters b.begins b.cut in
    let either = c.ingest_one.ensures.bad_stream_refused stream refl inside in
    never_other c.ingest_one.result _ _ either refl (c.in-Err-BadName.is ∙ ap Err c.in-Err-BadName.field-0-is)

pub unreachable-requires-in-Err-NameTaken : goal.unreachable-requires-in-Err-NameTaken
unreachable-requires-in-Err-NameTaken g c =
    let v = c.args.ledger.now in
    let b = c.requires.cut in
    let stream = c.args.source.now.rest.now in
    let files = (g.D.Disk.state c.args.disk.now).files in
    let enters = may_enter c.new_names_are_free.ensures c.objects_are_counted.ensures v b.puts b.object files b.has b.small b.new b.few in
    let inside = ends_inside v b.puts b.object b.front stream files b.has b.small b.few enters b.begins b.cut in
    let either = c.ingest_one.ensures.bad_stream_refused stream refl inside in
    never_other c.ingest_one.result _ _ either refl (c.in-Err-NameTaken.is ∙ ap Err c.in-Err-NameTaken.field-0-is)

pub unreachable-requires-in-Err-CatalogFull : goal.unreachable-requires-in-Err-CatalogFull
unreachable-requires-in-Err-CatalogFull g c =
    let v = c.args.ledger.now in
    let b = c.requires.cut in
    let stream = c.args.source.now.rest.now in
    let files = (g.D.Disk.state c.args.disk.now).files in
    let enters = may_enter c.new_names_are_free.ensures c.objects_are_counted.ensures v b.puts b.object files b.has b.small b.new b.few in
    let inside = ends_inside v b.puts b.object b.front stream files b.has b.small b.few enters b.begins b.cut in
    let either = c.ingest_one.ensures.bad_stream_refused stream refl inside in
    never_other c.ingest_one.result _ _ either refl (c.in-Err-CatalogFull.is ∙ ap Err c.in-Err-CatalogFull.field-0-is)

pub unreachable-requires-in-Err-Full : goal.unreachable-requires-in-Err-Full
unreachable-requires-in-Err-Full g c =
    let v = c.args.ledger.now in
    let b = c.requires.cut in
    let stream = c.args.source.now.rest.now in
    let files = (g.D.Disk.state c.args.disk.now).files in
    let enters = may_enter c.new_names_are_free.ensures c.objects_are_counted.ensures v b.puts b.object files b.has b.small b.new b.few in
    let inside = ends_inside v b.puts b.object b.front stream files b.has b.small b.few enters b.begins b.cut in
    let either = c.ingest_one.ensures.bad_stream_refused stream refl inside in
    never_other c.ingest_one.result _ _ either refl (c.in-Err-Full.is ∙ ap Err c.in-Err-Full.field-0-is)

pub unreachable-requires-in-Err-HeadDamaged : goal.unreachable-requires-in-Err-HeadDamaged
unreachable-requires-in-Err-HeadDamaged g c =
    let v = c.args.ledger.now in
    let b = c.requires.cut in
    let stream = c.args.source.now.rest.now in
    let files = (g.D.Disk.state c.args.disk.now).files in
    let enters = may_enter c.new_names_are_free.ensures c.objects_are_counted.ensures v b.puts b.object files b.has b.small b.new b.few in
    no_head v files c.in-Err-HeadDamaged.field-0-0 b.has.intact ((c.ingest_one.ensures.head c.in-Err-HeadDamaged.field-0-0 (c.in-Err-HeadDamaged.is ∙ ap Err c.in-Err-HeadDamaged.field-0-is)).1 c.requires.reveals)

pub unreachable-requires-in-Err-DiskFault : goal.unreachable-requires-in-Err-DiskFault
unreachable-requires-in-Err-DiskFault g c =
    let v = c.args.ledger.now in
    let b = c.requires.cut in
    let stream = c.args.source.now.rest.now in
    let files = (g.D.Disk.state c.args.disk.now).files in
    let enters = may_enter c.new_names_are_free.ensures c.objects_are_counted.ensures v b.puts b.object files b.has b.small b.new b.few in
    let old = g.D.Disk.state c.args.disk.now in
    let brief = b.small.short in
    let block = b.small.block in
    let cut = b.cut in
    let long = ap length b.begins in
    let room = frame_room v b.puts b.object.name (length b.object.bytes) b.front stream old b.has b.few b.small.short b.small.block (omega (arith, brief, block, cut, long, length-append (frame_head b.object.name (length b.object.bytes)) b.front, length-head b.object.name (length b.object.bytes))) b.begins c.requires.room in
    (c.ingest_one.ensures.writes.sure c.requires.reveals (willing_ready old (g.met.D.Disk.free_taken c.args.disk.now) (cells_willing old c.requires.room.cells)) room).0 (c.in-Err-DiskFault.is ∙ ap Err c.in-Err-DiskFault.field-0-is)

pub returns-in-Err-BadStream-clause-cut : goal.returns-in-Err-BadStream-clause-cut
returns-in-Err-BadStream-clause-cut g c =
    let v = c.args.ledger.now in
    let b = c.requires.cut in
    let stream = c.args.source.now.rest.now in
    let files = (g.D.Disk.state c.args.disk.now).files in
    let enters = may_enter c.new_names_are_free.ensures c.objects_are_counted.ensures v b.puts b.object files b.has b.small b.new b.few in
    let is = (c.in-Err-BadStream.is ∙ ap Err c.in-Err-BadStream.field-0-is) in
    let same = c.ingest_one.ensures.refused (no_disk_fault c.ingest_one.result c.in-Err-BadStream.field-0-0 is) (not_put c.ingest_one.result c.in-Err-BadStream.field-0-0 is) in
    subst (λ (w : Opened). EndsInside w stream) (sym same) (c.ingest_one.ensures.bad_stream_revealed c.in-Err-BadStream.field-0-0 stream refl is)

pub returns-in-Err-BadStream-clause-stays : goal.returns-in-Err-BadStream-clause-stays
returns-in-Err-BadStream-clause-stays g c b =
    let v = c.args.ledger.now in
    let old = g.D.Disk.state c.args.disk.now in
    let new = g.D.Disk.state c.ingest_one.new.disk in
    let is = (c.in-Err-BadStream.is ∙ ap Err c.in-Err-BadStream.field-0-is) in
    let same = c.ingest_one.ensures.refused (no_disk_fault c.ingest_one.result c.in-Err-BadStream.field-0-0 is) (not_put c.ingest_one.result c.in-Err-BadStream.field-0-0 is) in
    let leaves = c.ingest_one.ensures.refused_leaves (no_disk_fault c.ingest_one.result c.in-Err-BadStream.field-0-0 is) (not_put c.ingest_one.result c.in-Err-BadStream.field-0-0 is) c.requires.reveals in
    subst (λ (w : Opened). HasPuts w b.puts new.files) (sym same) (puts_stay v b.puts old.files new.files b.has leaves.reads (c.ingest_one.ensures.writes.contents c.requires.reveals).homes)

pub returns-in-Err-BadStream-clause-steady : goal.returns-in-Err-BadStream-clause-steady
returns-in-Err-BadStream-clause-steady g c =
    let v = c.args.ledger.now in
    let b = c.requires.cut in
    let stream = c.args.source.now.rest.now in
    let files = (g.D.Disk.state c.args.disk.now).files in
    let enters = may_enter c.new_names_are_free.ensures c.objects_are_counted.ensures v b.puts b.object files b.has b.small b.new b.few in
    let old = g.D.Disk.state c.args.disk.now in
    let brief = b.small.short in
    let block = b.small.block in
    let cut = b.cut in
    let long = ap length b.begins in
    let room = frame_room v b.puts b.object.name (length b.object.bytes) b.front stream old b.has b.few b.small.short b.small.block (omega (arith, brief, block, cut, long, length-append (frame_head b.object.name (length b.object.bytes)) b.front, length-head b.object.name (length b.object.bytes))) b.begins c.requires.room in
    (c.ingest_one.ensures.writes.sure c.requires.reveals (willing_ready old (g.met.D.Disk.free_taken c.args.disk.now) (cells_willing old c.requires.room.cells)) room).1

pub returns-in-Err-BadStream-clause-counted : goal.returns-in-Err-BadStream-clause-counted
returns-in-Err-BadStream-clause-counted g c =
    let rest = c.ingest_one.new.source.rest.now in
    let all = counts_all c.args.source.now.rest.now rest c.args.at.now c.ingest_one.new.at _ c.ingest_one.ensures.taken in
    let end = ap length (c.ingest_one.ensures.bad_stream c.in-Err-BadStream.field-0-0 (c.in-Err-BadStream.is ∙ ap Err c.in-Err-BadStream.field-0-is)).1 in
    omega (arith, all, end)
