use Rattle.std.proofs.Common.{◌+◌, length, arith}
use Rattle.aea_disk.specs.Files.{ChangesFile, Torn}
use Rattle.aea_disk.specs.State.{HasRoomTo, IsReady, TakesFrom}
use Rattle.aea_disk.proofs.Frames.{writes_one, writes_wider, torn_anyway}
use Rattle.aea_shelf.proofs.Homes.{home_on_sites, few_sites}
use Rattle.aea_shelf.proofs.shelf.write_home.Goals as goal

pub returns-clause-writes : goal.returns-clause-writes
returns-clause-writes g c =
    let shape = c.args.shape.now in
    let b = c.args.b in
    let old = g.D.Disk.state c.args.disk.now in
    let new = g.D.Disk.state c.write.new.self in
    let home = c.home_place-home in
    let bytes = c.args.cell.now in
    let sites = home_on_sites shape b in
    let few = few_sites shape in
    let step = ChangesFile home.result.file (Torn home.result.at (length bytes)) in
    let room = HasRoomTo old home.result.file (home.result.at + length bytes) in
    let frame =
    writes_wider g.D.Disk.reveals (TakesFrom old home.result.file home.result.at) room (IsReady old) room _ step step old new (λ a d is. is)
    (λ revealed ready. g.met.D.Disk.site_taken c.args.disk.now home.result.file (old.files 0) ready.0 home.result.at (omega (arith, sites.0, home.ensures.file)) (omega (arith, sites.1, few, home.ensures.file)) ready.1) (λ revealed fit. fit)
    (writes_one g.D.Disk.reveals (TakesFrom old home.result.file home.result.at) room step old new c.write.result
    (torn_anyway g.D.Disk.reveals home.result.file home.result.at bytes old.files new.files c.write.result c.write.ensures.written c.write.ensures.torn)
    c.write.ensures.crash c.write.ensures.settled c.write.ensures.time c.write.ensures.cause c.write.ensures.sure) in
    rw (home.ensures.file, home.ensures.place, c.requires.cell) at frame
