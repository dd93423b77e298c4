use Rattle.std.proofs.Common.{◌+◌, ◌-◌, ℕ, List, length, refl, subst}
use Rattle.aea_disk.specs.Files.{Files, ChangesFile, Holds, Torn}
use Rattle.aea_disk.specs.Steps.{torn_none}
use Rattle.aea_disk.proofs.Frames.{ok_fine}
use Rattle.aea_copy_writer.proofs.Stretches.{one_write, failed_write, read_then, torn_sized}
use Rattle.aea_copy_writer.proofs.ledger.move_part.Goals as goal

pub returns-clause-moved : goal.returns-clause-moved
returns-clause-moved g c = λ _ revealed.
    let first = g.D.Disk.state c.args.disk.now in
    let second = g.D.Disk.state c.read_part.new.disk in
    let third = g.D.Disk.state c.write.new.self in
    subst (λ (b : List ℕ). ChangesFile 0 (Holds c.args.to b) first.files third.files) (c.in_ok-read_part.ensures.whole c.if-not-branch.false revealed)
    (subst (λ (d : Files). ChangesFile 0 (Holds c.args.to c.read_part.new.part) d third.files) (c.in_ok-read_part.ensures.reads.contents revealed) (c.in_ok-write.ensures.written revealed))

pub returns-in_err-write-clause-writes : goal.returns-in_err-write-clause-writes
returns-in_err-write-clause-writes g c =
    let reveals = g.D.Disk.reveals in
    let first = g.D.Disk.state c.args.disk.now in
    let second = g.D.Disk.state c.read_part.new.disk in
    let third = g.D.Disk.state c.write.new.self in
    let bytes = c.read_part.new.part in
    let e = c.in_err-write.ensures in
    torn_sized reveals _ 0 c.args.to (length bytes) (length c.args.part.now) first third c.read_part.auto.part
    (read_then reveals _ _ 0 (c.args.to + length bytes) (Torn c.args.to (length bytes)) first second third (ok_fine (c.in_ok-read_part.was)) (g.met.D.Disk.free_taken c.args.disk.now) (λ x. torn_none c.args.to (length bytes) x)
    c.read_part.ensures.reads
    (failed_write reveals _ 0 c.args.to bytes second third _ (g.met.D.Disk.free_taken c.read_part.new.disk) refl (cc) e.written e.torn e.crash e.settled e.time e.cause e.sure))

pub returns-clause-writes : goal.returns-clause-writes
returns-clause-writes g c =
    let reveals = g.D.Disk.reveals in
    let first = g.D.Disk.state c.args.disk.now in
    let second = g.D.Disk.state c.read_part.new.disk in
    let third = g.D.Disk.state c.write.new.self in
    let bytes = c.read_part.new.part in
    let e = c.in_ok-write.ensures in
    torn_sized reveals _ 0 c.args.to (length bytes) (length c.args.part.now) first third c.read_part.auto.part
    (read_then reveals _ _ 0 (c.args.to + length bytes) (Torn c.args.to (length bytes)) first second third (ok_fine (c.in_ok-read_part.was)) (g.met.D.Disk.free_taken c.args.disk.now) (λ x. torn_none c.args.to (length bytes) x)
    c.read_part.ensures.reads
    (one_write reveals 0 c.args.to bytes second third _ (g.met.D.Disk.free_taken c.read_part.new.disk) e.written e.torn e.crash e.settled e.time e.cause e.sure))
