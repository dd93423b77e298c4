use Rattle.std.proofs.Common.{◌≡◌, ◌+◌, ◌-◌, ◌++◌, ℕ, List, length, take, drop, refl, ap, ◌∙◌, subst, arith}
use Rattle.aea_disk.specs.Files.{Files, ChangesFile, Holds, Torn}
use Rattle.aea_disk.specs.Steps.{torn_none}
use Rattle.aea_disk.proofs.Frames.{ok_fine}
use Rattle.aea_copy_writer.specs.Parts.{part_of}
use Rattle.aea_copy_writer.proofs.Stretches.{one_write, failed_write, read_then, torn_sized}
use Rattle.aea_copy_writer.proofs.Buffers.{part_long, part_put, put_long}
use Rattle.aea_copy_writer.proofs.parts.put_part.Goals as goal
use borrow.Rule.Slice.PartMut.{put_mid}

pub returns-clause-put : goal.returns-clause-put
returns-clause-put g c = λ _ reveals.
    let first = g.D.Disk.state c.args.disk.now in
    let second = g.D.Disk.state c.read_part.new.disk in
    let third = g.D.Disk.state c.write.new.self in
    let buf = c.args.buffer.now in
    let part = c.read_part.new.part in
    let bytes : put_mid c.args.head (length buf - c.args.head) buf part ≡ take c.args.head buf ++ part_of (first.files 0) c.args.from (length buf - c.args.head) =
    part_put c.args.head buf part c.requires.head c.read_part.auto.part
    ∙ ap (λ (l : List ℕ). take c.args.head buf ++ l) (c.in_ok-read_part.ensures.whole c.if-not-branch.false reveals ∙ ap (part_of (first.files 0) c.args.from) (ap (λ (n : ℕ). n) (sized c.args.head buf part c.read_part.auto.part))) in
    subst (λ (b : List ℕ). ChangesFile c.args.file (Holds c.args.to b) first.files third.files) bytes
    (subst (λ (d : Files). ChangesFile c.args.file (Holds c.args.to (put_mid c.args.head (length buf - c.args.head) buf part)) d third.files) (c.in_ok-read_part.ensures.reads.contents reveals)
    (c.in_ok-write.ensures.written reveals))
  where
    sized : (head : ℕ) (buf part : List ℕ) → length part ≡ length (take (length buf - head) (drop head buf)) → length (take (length buf - head) (drop head buf)) ≡ length buf - head
    sized head buf part long = omega (arith, long, part_long head buf part long)

pub returns-in_err-write-clause-writes : goal.returns-in_err-write-clause-writes
returns-in_err-write-clause-writes g c =
    let reveals = g.D.Disk.reveals in
    let first = g.D.Disk.state c.args.disk.now in
    let second = g.D.Disk.state c.read_part.new.disk in
    let third = g.D.Disk.state c.write.new.self in
    let buf = c.args.buffer.now in
    let bytes = put_mid c.args.head (length buf - c.args.head) buf c.read_part.new.part in
    let e = c.in_err-write.ensures in
    torn_sized reveals _ c.args.file c.args.to (length bytes) (length buf) first third (put_long c.args.head buf c.read_part.new.part c.read_part.auto.part)
    (read_then reveals _ _ c.args.file (c.args.to + length bytes) (Torn c.args.to (length bytes)) first second third (ok_fine (c.in_ok-read_part.was)) (g.met.D.Disk.free_taken c.args.disk.now) (λ x. torn_none c.args.to (length bytes) x)
    c.read_part.ensures.reads
    (failed_write reveals _ c.args.file c.args.to bytes second third _ (g.met.D.Disk.free_taken c.read_part.new.disk) refl (cc) e.written e.torn e.crash e.settled e.time e.cause e.sure))

pub returns-clause-writes : goal.returns-clause-writes
returns-clause-writes g c =
    let reveals = g.D.Disk.reveals in
    let first = g.D.Disk.state c.args.disk.now in
    let second = g.D.Disk.state c.read_part.new.disk in
    let third = g.D.Disk.state c.write.new.self in
    let buf = c.args.buffer.now in
    let bytes = put_mid c.args.head (length buf - c.args.head) buf c.read_part.new.part in
    let e = c.in_ok-write.ensures in
    torn_sized reveals _ c.args.file c.args.to (length bytes) (length buf) first third (put_long c.args.head buf c.read_part.new.part c.read_part.auto.part)
    (read_then reveals _ _ c.args.file (c.args.to + length bytes) (Torn c.args.to (length bytes)) first second third (ok_fine (c.in_ok-read_part.was)) (g.met.D.Disk.free_taken c.args.disk.now) (λ x. torn_none c.args.to (length bytes) x)
    c.read_part.ensures.reads
    (one_write reveals c.args.file c.args.to bytes second third _ (g.met.D.Disk.free_taken c.read_part.new.disk) e.written e.torn e.crash e.settled e.time e.cause e.sure))
