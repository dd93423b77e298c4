use Rattle.std.proofs.Common.{◌*◌, length, ◌∙◌, ap, subst}
use Rattle.std.proofs.lemmas.Bool.{false≢true}
use Rattle.std.specs.Prelude.{IsOk}
use Rattle.aea_place.specs.Homes.{home_of}
use Rattle.aea_rehearse.proofs.Homes.{file_by_number, place_by_number, room_by_number, written_by_number}
use Rattle.aea_rehearse.proofs.altering.write_home.Goals as goal

pub unreachable-requires : goal.unreachable-requires
unreachable-requires g c =
    let shape = c.args.ledger.now.shape in
    let l = c.lattice-lattice.result in
    let b = c.args.b in
    let old = g.D.Disk.state c.args.disk.now in
    let spot = c.home-spot.result in
    let same = c.home-spot.ensures.home ∙ ap (home_of 10) (c.from.ensures ∙ c.number.ensures.value) in
    let alpha = c.lattice-lattice.ensures.of_shape.alpha in
    let room =
    room_by_number shape b spot.site (spot.cell * 560) (length c.args.cell.now) old (file_by_number shape l b spot c.requires.shape alpha same) (place_by_number shape l b spot c.requires.shape alpha same)
    c.requires.cell c.requires.room in
    let takes = g.met.D.Disk.free_taken c.args.disk.now spot.site (old.files 0) (spot.cell * 560) c.requires.free in
    let ok = (c.write.ensures.sure.sure (c.requires.reveals, takes) room).0 in
    false≢true (subst IsOk c.in-Err.is ok)

pub returns-clause-written : goal.returns-clause-written
returns-clause-written g c =
    let shape = c.args.ledger.now.shape in
    let l = c.lattice-lattice.result in
    let b = c.args.b in
    let spot = c.home-spot.result in
    let same = c.home-spot.ensures.home ∙ ap (home_of 10) (c.from.ensures ∙ c.number.ensures.value) in
    written_by_number shape b spot.site (spot.cell * 560) c.args.cell.now (g.D.Disk.state c.args.disk.now).files (g.D.Disk.state c.write.new.self).files
    (file_by_number shape l b spot c.requires.shape c.lattice-lattice.ensures.of_shape.alpha same)
    (place_by_number shape l b spot c.requires.shape c.lattice-lattice.ensures.of_shape.alpha same)
    (c.in-Ok.ensures.written c.requires.reveals)
