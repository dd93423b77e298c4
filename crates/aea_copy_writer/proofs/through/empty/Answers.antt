use Rattle.std.proofs.Common.{refl}
use Rattle.aea_disk.specs.Files.{MayBeCut}
use Rattle.aea_disk.proofs.Frames.{ok_fine, reads_one}
use Rattle.aea_copy_writer.proofs.Stretches.{one_cut, failed_cut, then_read}
use Rattle.aea_copy_writer.proofs.through.empty.Goals as goal

pub returns-in_err-cut-clause-writes : goal.returns-in_err-cut-clause-writes
returns-in_err-cut-clause-writes g c =
    let first = g.D.Disk.state c.args.disk.now in
    let second = g.D.Disk.state c.cut.new.self in
    let e = c.in_err-cut.ensures in
    failed_cut g.D.Disk.reveals _ c.args.file first second _ (g.met.D.Disk.free_taken c.args.disk.now) refl (cc) e.cut e.torn e.crash e.settled e.time e.cause e.sure

pub returns-clause-writes : goal.returns-clause-writes
returns-clause-writes g c =
    let first = g.D.Disk.state c.args.disk.now in
    let second = g.D.Disk.state c.cut.new.self in
    let third = g.D.Disk.state c.sync.new.self in
    let e = c.cut.ensures in
    let s = c.sync.ensures in
    then_read g.D.Disk.reveals _ _ c.args.file 0 (MayBeCut 0) first second third (ok_fine (c.in_ok-cut.was)) (g.met.D.Disk.free_taken c.cut.new.self)
    (one_cut g.D.Disk.reveals c.args.file first second c.cut.result (g.met.D.Disk.free_taken c.args.disk.now) e.cut e.torn e.crash e.settled e.time e.cause e.sure)
    (reads_one g.D.Disk.reveals second third c.sync.result s.contents s.crash s.settled s.time s.cause s.sure)
