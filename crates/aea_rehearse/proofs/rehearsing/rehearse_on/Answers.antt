use Rattle.aea_disk.proofs.Moments.{passes_none, passes_both}
use Rattle.aea_rehearse.proofs.Homes.{cells_room_stays, cells_willing}
use Rattle.aea_rehearse.proofs.Ending.{altered_in, altered_some, is_ready, small_outcome, is_rehearsed}
use Rattle.aea_rehearse.proofs.rehearsing.rehearse_on.Goals as goal

pub restore-requires-clause-archive : goal.restore-requires-clause-archive
restore-requires-clause-archive g c = altered_some c.args.number c.args.nodes c.args.permille (g.D.Disk.state c.damage.new.disk).files c.in_ok-damage.ensures.altered

pub restore-requires-clause-ready : goal.restore-requires-clause-ready
restore-requires-clause-ready g c v this =
    let a = c.in_ok-damage.ensures.altered in
    let mid = g.D.Disk.state c.damage.new.disk in
    is_ready c.cells_have_lengths.ensures c.cells_have_parts.ensures c.args.number c.args.nodes c.args.permille c.in_ok-report.report.room v a.stored mid c.requires.few c.in_ok-report.ensures.room
    (cells_room_stays (g.D.Disk.state c.args.disk.now) mid c.damage.ensures.time c.damage.ensures.steady c.requires.room.cells)
    (altered_in c.ledgers_have_one_reading.ensures c.args.number c.args.nodes c.args.permille mid.files v a this)

pub restore-requires-clause-willing : goal.restore-requires-clause-willing
restore-requires-clause-willing g c =
    let mid = g.D.Disk.state c.damage.new.disk in
    cells_willing mid (cells_room_stays (g.D.Disk.state c.args.disk.now) mid c.damage.ensures.time c.damage.ensures.steady c.requires.room.cells)

pub numbers-requires-clause-small : goal.numbers-requires-clause-small
numbers-requires-clause-small g c =
    small_outcome c.cells_have_lengths.ensures c.cells_have_parts.ensures c.ledgers_have_one_reading.ensures c.args.number c.args.nodes c.args.permille
    (g.D.Disk.state c.damage.new.disk).files (g.D.Disk.state c.restore.new.disk).files c.in_ok-outcome.outcome c.in_ok-damage.ensures.altered c.in_ok-outcome.ensures.restored

pub returns-clause-rehearsed : goal.returns-clause-rehearsed
returns-clause-rehearsed g c =
    is_rehearsed c.cells_have_lengths.ensures c.cells_have_parts.ensures c.ledgers_have_one_reading.ensures c.args.number c.args.nodes c.args.permille
    (g.D.Disk.state c.damage.new.disk).files (g.D.Disk.state c.restore.new.disk).files c.in_ok-outcome.outcome c.numbers.result c.in_ok-damage.ensures.altered c.in_ok-outcome.ensures.restored c.numbers.ensures

pub returns-in_err-report-clause-time : goal.returns-in_err-report-clause-time
returns-in_err-report-clause-time g c = passes_none (g.D.Disk.state c.args.disk.now)

pub returns-in_err-damage-clause-time : goal.returns-in_err-damage-clause-time
returns-in_err-damage-clause-time g c = c.damage.ensures.time

pub returns-in_err-outcome-clause-time : goal.returns-in_err-outcome-clause-time
returns-in_err-outcome-clause-time g c = passes_both (g.D.Disk.state c.args.disk.now) (g.D.Disk.state c.damage.new.disk) (g.D.Disk.state c.restore.new.disk) c.damage.ensures.time c.restore.ensures.time

pub returns-clause-time : goal.returns-clause-time
returns-clause-time g c = passes_both (g.D.Disk.state c.args.disk.now) (g.D.Disk.state c.damage.new.disk) (g.D.Disk.state c.restore.new.disk) c.damage.ensures.time c.restore.ensures.time
