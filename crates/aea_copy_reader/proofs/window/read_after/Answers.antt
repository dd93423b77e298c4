use Rattle.std.proofs.Common.{◌≡◌, ◌+◌, ◌-◌, ℕ, min, List, ◌++◌, length, take, drop, Result, Ok, Err, IfOk, arith}
use Rattle.aea_disk.proofs.Frames.{reads_one}
use Rattle.aea_copy_reader.proofs.Reading.{bytes_after}
use Rattle.aea_copy_reader.proofs.window.read_after.Goals as goal

-- where the read gave a count
by_count : {E : Type 0} (reveals : Type 0) (kept at : ℕ) (front new buffer file : List ℕ) (r : Result ℕ E) → front ≡ take kept buffer → length front ≡ kept → length new ≡ length buffer - kept → IfOk r (λ k. reveals → k ≡ min (length new) (length file - at))
    → IfOk r (λ k. reveals → take k new ≡ take k (drop at file)) → IfOk r (λ k. reveals → take (kept + k) (front ++ new) ≡ take kept buffer ++ take (length buffer - kept) (drop at file))
by_count reveals kept at front new buffer file (Ok k) is long rest count bytes = λ revealed. bytes_after kept k at front new buffer file is long rest (count revealed) (bytes revealed)
by_count reveals kept at front new buffer file (Err e) is long rest count bytes = tt

pub returns-clause-bytes : goal.returns-clause-bytes
returns-clause-bytes g c =
    let e = c.split_at_mut-after.ensures in
    by_count g.D.Disk.reveals c.args.kept c.args.at c.split_at_mut-after.result.0.now c.read.new.buf c.args.buffer.now ((g.D.Disk.state c.args.disk.now).files c.args.file) c.read.result e.front e.front_len (let same = c.read.auto.buf in omega (arith, same, e.back_len)) c.read.ensures.count c.read.ensures.bytes

pub returns-clause-reads : goal.returns-clause-reads
returns-clause-reads g c =
    reads_one g.D.Disk.reveals (g.D.Disk.state c.args.disk.now) (g.D.Disk.state c.read.new.self) c.read.result c.read.ensures.contents c.read.ensures.crash c.read.ensures.settled c.read.ensures.time c.read.ensures.cause c.read.ensures.sure
