use Rattle.std.proofs.Common.{ℕ, ◌*◌, length, sym, ◌∙◌, ap, subst, arith}
use Rattle.aea_disk.proofs.Moments.{passes_none, passes_both}
use Rattle.aea_rehearse.specs.Rooms.{HasRehearsalRoom}
use Rattle.aea_rehearse.specs.Building.{AreLeft}
use Rattle.aea_rehearse.proofs.Homes.{cells_room_stays}
use Rattle.aea_rehearse.proofs.Ending.{length-bytes_from, whole_nodes, is_altered_archive}
use Rattle.aea_rehearse.proofs.rehearsing.damage.Goals as goal

pub build-requires-clause-few : goal.build-requires-clause-few
build-requires-clause-few g c =
    let long = ap length (c.as_slice.ensures.value ∙ c.in_ok-bytes.ensures.bytes) ∙ length-bytes_from c.args.number (c.args.nodes * 512) in
    let few = c.requires.few in
    omega (arith, long, few)

pub build-requires-clause-room : goal.build-requires-clause-room
build-requires-clause-room g c shape is =
    let long = ap length (c.as_slice.ensures.value ∙ c.in_ok-bytes.ensures.bytes) ∙ length-bytes_from c.args.number (c.args.nodes * 512) in
    subst (λ (n : ℕ). HasRehearsalRoom n (g.D.Disk.state c.args.disk.now)) (sym (whole_nodes shape c.args.nodes c.as_slice.result.now is long)) c.requires.room

pub alter-requires-clause-few : goal.alter-requires-clause-few
alter-requires-clause-few g c =
    let built = c.in_ok-ledger.ensures.built in
    let long = ap length (c.as_slice.ensures.value ∙ c.in_ok-bytes.ensures.bytes) ∙ length-bytes_from c.args.number (c.args.nodes * 512) in
    let same = built.nodes ∙ whole_nodes c.in_ok-ledger.ledger.shape c.args.nodes c.as_slice.result.now built.shape long in
    let few = c.requires.few in
    omega (arith, same, few)

pub alter-requires-clause-room : goal.alter-requires-clause-room
alter-requires-clause-room g c = cells_room_stays (g.D.Disk.state c.args.disk.now) (g.D.Disk.state c.build.new.disk) c.build.ensures.time c.build.ensures.steady c.requires.room.cells

pub returns-clause-altered : goal.returns-clause-altered
returns-clause-altered g c =
    let v = c.in_ok-ledger.ledger in
    let new = (g.D.Disk.state c.alter.new.disk).files in
    is_altered_archive c.args.number c.args.nodes c.args.permille c.as_slice.result.now v (g.D.Disk.state c.build.new.disk).files new
    (c.as_slice.ensures.value ∙ c.in_ok-bytes.ensures.bytes) c.in_ok-ledger.ensures.built c.alter.ensures.ledger
    (λ payload woven. subst (λ (x : ℕ). AreLeft v x c.args.permille payload new) c.in_ok-bytes.ensures.state (c.alter.ensures.left payload woven))

pub returns-clause-time : goal.returns-clause-time
returns-clause-time g c = passes_both (g.D.Disk.state c.args.disk.now) (g.D.Disk.state c.build.new.disk) (g.D.Disk.state c.alter.new.disk) c.build.ensures.time c.alter.ensures.time

pub returns-in_err-bytes-clause-time : goal.returns-in_err-bytes-clause-time
returns-in_err-bytes-clause-time g c = passes_none (g.D.Disk.state c.args.disk.now)
