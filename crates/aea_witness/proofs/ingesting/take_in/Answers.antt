use Rattle.std.proofs.Common.{◌++◌, length, Ok, Err, refl, ◌∙◌, ap}
use Rattle.std.specs.FinMap.{get}
use Rattle.aea_rehearse.proofs.Homes.{cells_willing, willing_ready}
use Rattle.aea_witness.proofs.Putting.{may_enter, no_head}
use Rattle.aea_witness.proofs.Streams.{frame_room, in_head, begins, not_end, not_bad, not_long, not_inside, taken_more, on_ok, on_err, counts_all}
use Rattle.aea_witness.proofs.ingesting.take_in.Goals as goal
use Rattle.aea_witness.proofs.ingesting.take_in.Goals.{in-Ok-Stored, in-Err-NoMemory}

pub unreachable-requires : goal.unreachable-requires
unreachable-requires g c =
    let v = c.args.ledger.now in
    let b = c.requires.frame in
    let stream = c.args.source.now.rest.now in
    let files = (g.D.Disk.state c.args.disk.now).files in
    let enters = may_enter c.new_names_are_free.ensures c.objects_are_counted.ensures v b.puts b.object files b.has b.small b.new b.few in
    not_end v b.puts b.object b.rest stream files b.has b.small b.few enters b.begins (c.ingest_one.ensures.end (c.in-Ok-End.is ∙ ap Ok c.in-Ok-End.field-0-is)).0

pub unreachable-requires-in-Err-BadName : goal.unreachable-requires-in-Err-BadName
unreachable-requires-in-Err-BadName g c =
    let v = c.args.ledger.now in
    let b = c.requires.frame in
    let stream = c.args.source.now.rest.now in
    let files = (g.D.Disk.state c.args.disk.now).files in
    let enters = may_enter c.new_names_are_free.ensures c.objects_are_counted.ensures v b.puts b.object files b.has b.small b.new b.few in
    not_bad v b.puts b.object b.rest stream files b.has b.small b.few enters b.begins (c.ingest_one.ensures.bad_name stream refl (c.in-Err-BadName.is ∙ ap Err c.in-Err-BadName.field-0-is))

pub unreachable-requires-in-Err-NameTaken : goal.unreachable-requires-in-Err-NameTaken
unreachable-requires-in-Err-NameTaken g c =
    let v = c.args.ledger.now in
    let b = c.requires.frame in
    let stream = c.args.source.now.rest.now in
    let files = (g.D.Disk.state c.args.disk.now).files in
    let enters = may_enter c.new_names_are_free.ensures c.objects_are_counted.ensures v b.puts b.object files b.has b.small b.new b.few in
    (c.ingest_one.ensures.name_taken stream refl (c.in-Err-NameTaken.is ∙ ap Err c.in-Err-NameTaken.field-0-is)).2 (ap (get v.objects) (begins v b.puts b.object b.rest stream files b.has b.small b.few enters b.begins).name_is ∙ enters.free)

pub unreachable-requires-in-Err-CatalogFull : goal.unreachable-requires-in-Err-CatalogFull
unreachable-requires-in-Err-CatalogFull g c =
    let v = c.args.ledger.now in
    let b = c.requires.frame in
    let stream = c.args.source.now.rest.now in
    let files = (g.D.Disk.state c.args.disk.now).files in
    let enters = may_enter c.new_names_are_free.ensures c.objects_are_counted.ensures v b.puts b.object files b.has b.small b.new b.few in
    enters.few (c.ingest_one.ensures.many (c.in-Err-CatalogFull.is ∙ ap Err c.in-Err-CatalogFull.field-0-is)).0

pub unreachable-requires-in-Err-HeadDamaged : goal.unreachable-requires-in-Err-HeadDamaged
unreachable-requires-in-Err-HeadDamaged g c =
    let v = c.args.ledger.now in
    let b = c.requires.frame in
    let stream = c.args.source.now.rest.now in
    let files = (g.D.Disk.state c.args.disk.now).files in
    let enters = may_enter c.new_names_are_free.ensures c.objects_are_counted.ensures v b.puts b.object files b.has b.small b.new b.few in
    no_head v files c.in-Err-HeadDamaged.field-0-0 b.has.intact ((c.ingest_one.ensures.head c.in-Err-HeadDamaged.field-0-0 (c.in-Err-HeadDamaged.is ∙ ap Err c.in-Err-HeadDamaged.field-0-is)).1 c.requires.reveals)

pub unreachable-requires-in-Err-Full : goal.unreachable-requires-in-Err-Full
unreachable-requires-in-Err-Full g c =
    let v = c.args.ledger.now in
    let b = c.requires.frame in
    let stream = c.args.source.now.rest.now in
    let files = (g.D.Disk.state c.args.disk.now).files in
    let enters = may_enter c.new_names_are_free.ensures c.objects_are_counted.ensures v b.puts b.object files b.has b.small b.new b.few in
    not_long v b.puts b.object b.rest stream files b.has b.small b.few enters b.begins (c.ingest_one.ensures.full_revealed c.in-Err-Full.field-0-0 stream refl (c.in-Err-Full.is ∙ ap Err c.in-Err-Full.field-0-is)).1

pub unreachable-requires-in-Err-BadStream : goal.unreachable-requires-in-Err-BadStream
unreachable-requires-in-Err-BadStream g c =
    let v = c.args.ledger.now in
    let b = c.requires.frame in
    let stream = c.args.source.now.rest.now in
    let files = (g.D.Disk.state c.args.disk.now).files in
    let enters = may_enter c.new_names_are_free.ensures c.objects_are_counted.ensures v b.puts b.object files b.has b.small b.new b.few in
    not_inside v b.puts b.object b.rest stream files b.has b.small b.few enters b.begins (c.ingest_one.ensures.bad_stream_revealed c.in-Err-BadStream.field-0-0 stream refl (c.in-Err-BadStream.is ∙ ap Err c.in-Err-BadStream.field-0-is))

pub unreachable-requires-in-Err-DiskFault : goal.unreachable-requires-in-Err-DiskFault
unreachable-requires-in-Err-DiskFault g c =
    let v = c.args.ledger.now in
    let b = c.requires.frame in
    let stream = c.args.source.now.rest.now in
    let files = (g.D.Disk.state c.args.disk.now).files in
    let enters = may_enter c.new_names_are_free.ensures c.objects_are_counted.ensures v b.puts b.object files b.has b.small b.new b.few in
    let old = g.D.Disk.state c.args.disk.now in
    let room = frame_room v b.puts b.object.name (length b.object.bytes) (b.object.bytes ++ b.rest) stream old b.has b.few b.small.short b.small.block b.brief (in_head v b.puts b.object b.rest stream files b.has b.small b.few enters b.begins) c.requires.room in
    (c.ingest_one.ensures.writes.sure c.requires.reveals (willing_ready old (g.met.D.Disk.free_taken c.args.disk.now) (cells_willing old c.requires.room.cells)) room).0 (c.in-Err-DiskFault.is ∙ ap Err c.in-Err-DiskFault.field-0-is)

pub returns-clause-taken : goal.returns-clause-taken
returns-clause-taken g c =
    elim c.match-ingest_one.branch [
      | in-Ok-Stored w ↦ on_ok c.match-ingest_one.result _ w.result-is (λ b.
          let v = c.args.ledger.now in
          let stream = c.args.source.now.rest.now in
          let old = g.D.Disk.state c.args.disk.now in
          let new = g.D.Disk.state c.ingest_one.new.disk in
          let enters = may_enter c.new_names_are_free.ensures c.objects_are_counted.ensures v b.puts b.object old.files b.has b.small b.new b.few in
          let is = (w.in-Ok-Stored.is ∙ ap Ok w.in-Ok-Stored.field-0-is) in
          taken_more c.puts_go_on.ensures c.digests_are_counted.ensures g.D.Disk.reveals c.requires.reveals v c.ingest_one.new.ledger b.object b.rest stream c.ingest_one.new.source.rest.now w.in-Ok-Stored.field-0-0 c.args.at.now c.ingest_one.new.at old new w.in-Ok-Stored.field-0-1 b.puts
          b.has b.small b.few enters b.begins (c.ingest_one.ensures.within stream refl (begins v b.puts b.object b.rest stream old.files b.has b.small b.few enters b.begins).head)
          (c.ingest_one.ensures.exact w.in-Ok-Stored.field-0-0 w.in-Ok-Stored.field-0-1 is) (c.ingest_one.ensures.stored w.in-Ok-Stored.field-0-0 w.in-Ok-Stored.field-0-1 is) (c.ingest_one.ensures.writes.contents c.requires.reveals).homes (c.ingest_one.ensures.ledger w.in-Ok-Stored.field-0-0 w.in-Ok-Stored.field-0-1 is c.requires.reveals))
      | in-Err-NoMemory w ↦ on_err c.match-ingest_one.result _ _ w.result-is
    ]

pub returns-clause-live : goal.returns-clause-live
returns-clause-live g c =
    elim c.match-ingest_one.branch [
      | in-Ok-Stored w ↦ on_ok c.match-ingest_one.result _ w.result-is ((c.ingest_one.ensures.stored w.in-Ok-Stored.field-0-0 w.in-Ok-Stored.field-0-1 (w.in-Ok-Stored.is ∙ ap Ok w.in-Ok-Stored.field-0-is)).3.live)
      | in-Err-NoMemory w ↦ on_err c.match-ingest_one.result _ _ w.result-is
    ]

pub returns-clause-fixed : goal.returns-clause-fixed
returns-clause-fixed g c =
    elim c.match-ingest_one.branch [
      | in-Ok-Stored w ↦ on_ok c.match-ingest_one.result _ w.result-is (λ d image. (let p = c.requires.frame.has in ((c.ingest_one.ensures.stored w.in-Ok-Stored.field-0-0 w.in-Ok-Stored.field-0-1 (w.in-Ok-Stored.is ∙ ap Ok w.in-Ok-Stored.field-0-is)).3.added c.requires.reveals p.records p.its).synced d image 0))
      | in-Err-NoMemory w ↦ on_err c.match-ingest_one.result _ _ w.result-is
    ]

pub returns-clause-steady : goal.returns-clause-steady
returns-clause-steady g c =
    let v = c.args.ledger.now in
    let b = c.requires.frame in
    let stream = c.args.source.now.rest.now in
    let files = (g.D.Disk.state c.args.disk.now).files in
    let enters = may_enter c.new_names_are_free.ensures c.objects_are_counted.ensures v b.puts b.object files b.has b.small b.new b.few in
    let old = g.D.Disk.state c.args.disk.now in
    let room = frame_room v b.puts b.object.name (length b.object.bytes) (b.object.bytes ++ b.rest) stream old b.has b.few b.small.short b.small.block b.brief (in_head v b.puts b.object b.rest stream files b.has b.small b.few enters b.begins) c.requires.room in
    (c.ingest_one.ensures.writes.sure c.requires.reveals (willing_ready old (g.met.D.Disk.free_taken c.args.disk.now) (cells_willing old c.requires.room.cells)) room).1

pub returns-clause-counted : goal.returns-clause-counted
returns-clause-counted g c = counts_all c.args.source.now.rest.now c.ingest_one.new.source.rest.now c.args.at.now c.ingest_one.new.at _ c.ingest_one.ensures.taken
