use Rattle.std.proofs.Common.{◌+◌, length, refl}
use Rattle.aea_disk.specs.Files.{Torn}
use Rattle.aea_disk.proofs.Frames.{ok_fine, reads_one}
use Rattle.aea_copy_writer.proofs.Stretches.{one_write, failed_write, then_read, settles_then_kept}
use Rattle.aea_copy_writer.proofs.through.write_through.Goals as goal

pub returns-in_err-write-clause-writes : goal.returns-in_err-write-clause-writes
returns-in_err-write-clause-writes g c =
    let first = g.D.Disk.state c.args.disk.now in
    let second = g.D.Disk.state c.write.new.self in
    let e = c.in_err-write.ensures in
    failed_write g.D.Disk.reveals _ c.args.file c.args.at c.args.bytes.now first second _ (g.met.D.Disk.free_taken c.args.disk.now) refl (cc) e.written e.torn e.crash e.settled e.time e.cause e.sure

pub returns-clause-writes : goal.returns-clause-writes
returns-clause-writes g c =
    let first = g.D.Disk.state c.args.disk.now in
    let second = g.D.Disk.state c.write.new.self in
    let third = g.D.Disk.state c.sync.new.self in
    let e = c.write.ensures in
    let s = c.sync.ensures in
    then_read g.D.Disk.reveals _ _ c.args.file (c.args.at + length c.args.bytes.now) (Torn c.args.at (length c.args.bytes.now)) first second third (ok_fine (c.in_ok-write.was)) (g.met.D.Disk.free_taken c.write.new.self)
    (one_write g.D.Disk.reveals c.args.file c.args.at c.args.bytes.now first second c.write.result (g.met.D.Disk.free_taken c.args.disk.now) e.written e.torn e.crash e.settled e.time e.cause e.sure)
    (reads_one g.D.Disk.reveals second third c.sync.result s.contents s.crash s.settled s.time s.cause s.sure)

pub returns-clause-settled : goal.returns-clause-settled
returns-clause-settled g c = settles_then_kept _ _ _ c.write.ensures.time c.sync.ensures.time c.write.ensures.settled c.sync.ensures.crash c.sync.ensures.settled
