use Rattle.std.proofs.Common.{ℕ, List, length, Some, Err, sym, ◌∙◌, ap, subst}
use Rattle.aea_records.specs.Format.{nodes_for}
use Rattle.aea_rehearse.specs.Rooms.{HasRehearsalRoom}
use Rattle.aea_rehearse.specs.Building.{IsBuilt}
use Rattle.aea_rehearse.proofs.Homes.{cells_willing, willing_ready}
use Rattle.aea_rehearse.proofs.Built.{may_enter, put_room, is_built}
use Rattle.aea_rehearse.proofs.building.store.Goals as goal

pub unreachable-requires : goal.unreachable-requires
unreachable-requires g c = c.put.ensures.bad_name.0 (c.in-Err-BadName.is ∙ ap Err c.in-Err-BadName.field-0-is) (may_enter c.args.ledger.now c.requires.none.has).named

pub unreachable-requires-in-Err-NameTaken : goal.unreachable-requires-in-Err-NameTaken
unreachable-requires-in-Err-NameTaken g c = (c.put.ensures.taken.0 (c.in-Err-NameTaken.is ∙ ap Err c.in-Err-NameTaken.field-0-is)).1 (may_enter c.args.ledger.now c.requires.none.has).free

pub unreachable-requires-in-Err-CatalogFull : goal.unreachable-requires-in-Err-CatalogFull
unreachable-requires-in-Err-CatalogFull g c = (may_enter c.args.ledger.now c.requires.none.has).few (c.put.ensures.many.0 (c.in-Err-CatalogFull.is ∙ ap Err c.in-Err-CatalogFull.field-0-is)).2

pub unreachable-requires-in-Err-DiskFault : goal.unreachable-requires-in-Err-DiskFault
unreachable-requires-in-Err-DiskFault g c =
    let v = c.args.ledger.now in
    let old = g.D.Disk.state c.args.disk.now in
    let xs = c.new-source.result.rest.now in
    let room : HasRehearsalRoom (nodes_for v.shape (length xs)) old = subst (λ (bytes : List ℕ). HasRehearsalRoom (nodes_for v.shape (length bytes)) old) (sym c.new-source.ensures) c.requires.room in
    (c.put.ensures.writes.sure c.requires.reveals (willing_ready old (g.met.D.Disk.free_taken c.args.disk.now) (cells_willing old room.cells)) (put_room v xs (Some c.put.new.source.rest.now) old c.requires.shape c.requires.none.has room)).0
    (c.in-Err-DiskFault.is ∙ ap Err c.in-Err-DiskFault.field-0-is)

pub returns-in-Ok-clause-built : goal.returns-in-Ok-clause-built
returns-in-Ok-clause-built g c =
    let v = c.args.ledger.now in
    let same = c.new-source.ensures in
    let xs = c.new-source.result.rest.now in
    subst (λ (bytes : List ℕ). IsBuilt bytes c.put.new.ledger (g.D.Disk.state c.put.new.disk).files) same
    (is_built c.cells_have_lengths.ensures c.cells_have_parts.ensures c.none_record_none.ensures g.D.Disk.reveals v c.put.new.ledger xs (Some c.put.new.source.rest.now) (g.D.Disk.state c.args.disk.now) (g.D.Disk.state c.put.new.disk) c.in-Ok.field-0
    c.requires.reveals c.requires.shape c.requires.none c.in-Ok.ensures.stored)

pub returns-in-Ok-clause-steady : goal.returns-in-Ok-clause-steady
returns-in-Ok-clause-steady g c =
    let v = c.args.ledger.now in
    let old = g.D.Disk.state c.args.disk.now in
    let xs = c.new-source.result.rest.now in
    let room : HasRehearsalRoom (nodes_for v.shape (length xs)) old = subst (λ (bytes : List ℕ). HasRehearsalRoom (nodes_for v.shape (length bytes)) old) (sym c.new-source.ensures) c.requires.room in
    (c.put.ensures.writes.sure c.requires.reveals (willing_ready old (g.met.D.Disk.free_taken c.args.disk.now) (cells_willing old room.cells)) (put_room v xs (Some c.put.new.source.rest.now) old c.requires.shape c.requires.none.has room)).1
