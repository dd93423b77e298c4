use Rattle.std.proofs.Common.{refl, arith}
use Rattle.aea_disk.proofs.Moments.{passes_both}
use Rattle.aea_rehearse.proofs.Homes.{cells_room_stays}
use Rattle.aea_witness.proofs.Losses.{lost_ready, mended_again}
use Rattle.aea_witness.proofs.losing.lose_and_mend.Goals as goal

pub lose-requires-clause-free : goal.lose-requires-clause-free
lose-requires-clause-free g c = c.requires.room.free

pub lose-requires-clause-room : goal.lose-requires-clause-room
lose-requires-clause-room g c = c.requires.room.sites 1 0 (omega arith) (omega arith) (omega arith)

pub mend-requires-clause-ready : goal.mend-requires-clause-ready
mend-requires-clause-ready g c =
    let r = c.requires.puts in
    let old = g.D.Disk.state c.args.disk.now in
    let mid = g.D.Disk.state c.lose.new.disk in
    lost_ready c.cells_have_lengths.ensures c.cells_have_parts.ensures c.survivors_are_revealed.ensures c.args.ledger.now r.0 old.files mid.files r.1 c.lose.ensures.lost r.2 r.3
    c.args.report.now.room mid refl (cells_room_stays old mid c.lose.ensures.time c.lose.ensures.steady c.requires.room) c.requires.report.space

pub returns-clause-mended : goal.returns-clause-mended
returns-clause-mended g c puts p =
    let r = c.requires.puts in
    let old = g.D.Disk.state c.args.disk.now in
    let mid = g.D.Disk.state c.lose.new.disk in
    let new = g.D.Disk.state c.mend.new.disk in
    let one = r.1.nodes in
    let two = p.nodes in
    let some = r.2 in
    let few = r.3 in
    mended_again c.cells_have_lengths.ensures c.cells_have_parts.ensures c.survivors_are_revealed.ensures c.args.ledger.now puts old.files mid.files p c.lose.ensures.lost (omega (arith, one, two, some)) (omega (arith, one, two, few))
    c.mend.new.report.bytes.items new.files c.in_ok-outcome.outcome c.in_ok-outcome.ensures.mended

pub returns-clause-time : goal.returns-clause-time
returns-clause-time g c = passes_both (g.D.Disk.state c.args.disk.now) (g.D.Disk.state c.lose.new.disk) (g.D.Disk.state c.mend.new.disk) c.lose.ensures.time c.mend.ensures.time

pub returns-in_err-outcome-clause-time : goal.returns-in_err-outcome-clause-time
returns-in_err-outcome-clause-time g c = passes_both (g.D.Disk.state c.args.disk.now) (g.D.Disk.state c.lose.new.disk) (g.D.Disk.state c.mend.new.disk) c.lose.ensures.time c.mend.ensures.time
