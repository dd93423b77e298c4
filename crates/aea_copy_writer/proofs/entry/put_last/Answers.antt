use Rattle.std.proofs.Common.{◌≡◌, ◌+◌, ◌-◌, ◌++◌, [], ◌∷◌, ℕ, List, length, take, drop, refl, sym, ap, ◌∙◌, subst, arith}
use Rattle.std.proofs.lemmas.List.{length-append}
use Rattle.sha2.specs.Hashers.{Holds256}
use Rattle.aea_disk.specs.Files.{Files, ChangesFile, Holds, Torn}
use Rattle.aea_disk.specs.Steps.{torn_none}
use Rattle.aea_disk.proofs.Frames.{ok_fine}
use Rattle.aea_copy_writer.specs.Parts.{part_of, gate_byte, IsThere}
use Rattle.aea_copy_writer.proofs.Stretches.{one_write, failed_write, read_then, torn_sized}
use Rattle.aea_copy_writer.proofs.Buffers.{middle_long, middle_put, middle_new, middle_taken}
use Rattle.aea_copy_writer.proofs.entry.put_last.Goals as goal
use borrow.Rule.Slice.PartMut.{put_mid}

-- the same part, by the length that is read
part_same : (file buf part : List ℕ) (from head : ℕ) → length part ≡ length (take (length buf - 33 - head) (drop head buf)) → part ≡ part_of file from (length (take (length buf - 33 - head) (drop head buf))) → part ≡ part_of file from (length buf - head - 33)
part_same file buf part from head long is = is ∙ ap (part_of file from) (sym long ∙ middle_long head buf part long)

pub returns-clause-there : goal.returns-clause-there
returns-clause-there g c = λ reveals.
    subst (IsThere ((g.D.Disk.state c.args.disk.now).files 0) c.args.from) (sym c.read_part.auto.part ∙ middle_long c.args.head c.args.buffer.now c.read_part.new.part c.read_part.auto.part)
    (c.in_ok-read_part.ensures.there c.if-not-branch.false reveals)

pub returns-clause-put : goal.returns-clause-put
returns-clause-put g c = λ reveals.
    let first = g.D.Disk.state c.args.disk.now in
    let third = g.D.Disk.state c.write.new.self in
    let buf = c.args.buffer.now in
    let part = c.read_part.new.part in
    let last : List ℕ = c.finalize-link.result ++ gate_byte c.args.more ∷ [] in
    let bytes : c.finish.new.buffer ≡ (take c.args.head buf ++ part_of (first.files 0) c.args.from (length buf - c.args.head - 33)) ++ last =
    middle_put c.args.head buf part last c.finish.new.buffer c.requires.head c.read_part.auto.part c.finish.ensures
    ∙ ap (λ (l : List ℕ). (take c.args.head buf ++ l) ++ last) (part_same (first.files 0) buf part c.args.from c.args.head c.read_part.auto.part (c.in_ok-read_part.ensures.whole c.if-not-branch.false reveals)) in
    subst (λ (b : List ℕ). ChangesFile c.args.file (Holds c.args.to b) first.files third.files) bytes
    (subst (λ (d : Files). ChangesFile c.args.file (Holds c.args.to c.finish.new.buffer) d third.files) (c.in_ok-read_part.ensures.reads.contents reveals)
    (c.in_ok-write.ensures.written reveals))

pub returns-clause-link : goal.returns-clause-link
returns-clause-link g c = λ reveals message held.
    let file = (g.D.Disk.state c.args.disk.now).files 0 in
    let buf = c.args.buffer.now in
    let part = c.read_part.new.part in
    let same : take (length buf - 33 - c.args.head) (drop c.args.head (put_mid c.args.head (length buf - 33 - c.args.head) buf part)) ≡ part_of file c.args.from (length buf - c.args.head - 33) =
    middle_taken c.args.head buf part c.requires.head c.read_part.auto.part
    ∙ part_same file buf part c.args.from c.args.head c.read_part.auto.part (c.in_ok-read_part.ensures.whole c.if-not-branch.false reveals) in
    c.finalize-link.ensures (message ++ part_of file c.args.from (length buf - c.args.head - 33)) (subst (λ (l : List ℕ). Holds256 c.update.new.self (message ++ l)) same (c.update.ensures message held))

pub returns-in_err-write-clause-writes : goal.returns-in_err-write-clause-writes
returns-in_err-write-clause-writes g c =
    let reveals = g.D.Disk.reveals in
    let first = g.D.Disk.state c.args.disk.now in
    let second = g.D.Disk.state c.read_part.new.disk in
    let third = g.D.Disk.state c.write.new.self in
    let buf = c.args.buffer.now in
    let bytes = c.finish.new.buffer in
    let last : List ℕ = c.finalize-link.result ++ gate_byte c.args.more ∷ [] in
    let size : length bytes ≡ length buf = middle_new c.args.head buf c.read_part.new.part last bytes c.requires.head c.read_part.auto.part (omega (arith, length-append c.finalize-link.result (gate_byte c.args.more ∷ []))) c.finish.ensures in
    let e = c.in_err-write.ensures in
    torn_sized reveals _ c.args.file c.args.to (length bytes) (length buf) first third size
    (read_then reveals _ _ c.args.file (c.args.to + length bytes) (Torn c.args.to (length bytes)) first second third (ok_fine (c.in_ok-read_part.was)) (g.met.D.Disk.free_taken c.args.disk.now) (λ x. torn_none c.args.to (length bytes) x)
    c.read_part.ensures.reads
    (failed_write reveals _ c.args.file c.args.to bytes second third _ (g.met.D.Disk.free_taken c.read_part.new.disk) refl (cc) e.written e.torn e.crash e.settled e.time e.cause e.sure))

pub returns-clause-writes : goal.returns-clause-writes
returns-clause-writes g c =
    let reveals = g.D.Disk.reveals in
    let first = g.D.Disk.state c.args.disk.now in
    let second = g.D.Disk.state c.read_part.new.disk in
    let third = g.D.Disk.state c.write.new.self in
    let buf = c.args.buffer.now in
    let bytes = c.finish.new.buffer in
    let last : List ℕ = c.finalize-link.result ++ gate_byte c.args.more ∷ [] in
    let size : length bytes ≡ length buf = middle_new c.args.head buf c.read_part.new.part last bytes c.requires.head c.read_part.auto.part (omega (arith, length-append c.finalize-link.result (gate_byte c.args.more ∷ []))) c.finish.ensures in
    let e = c.in_ok-write.ensures in
    torn_sized reveals _ c.args.file c.args.to (length bytes) (length buf) first third size
    (read_then reveals _ _ c.args.file (c.args.to + length bytes) (Torn c.args.to (length bytes)) first second third (ok_fine (c.in_ok-read_part.was)) (g.met.D.Disk.free_taken c.args.disk.now) (λ x. torn_none c.args.to (length bytes) x)
    c.read_part.ensures.reads
    (one_write reveals c.args.file c.args.to bytes second third _ (g.met.D.Disk.free_taken c.read_part.new.disk) e.written e.torn e.crash e.settled e.time e.cause e.sure))
