use Rattle.std.proofs.Common.{◌≡◌, ◌-◌, ℕ, List, length, take, drop, refl, sym, ap, ◌∙◌, subst, arith}
use Rattle.std.proofs.lemmas.Bool.{eqb-true}
use Rattle.std.proofs.lemmas.List.{take_all}
use Rattle.aea_disk.proofs.Frames.{reads_failed, reads_made}
use Rattle.aea_records.specs.TableLaws.{AreBytes}
use Rattle.aea_copy_writer.specs.Parts.{part_of}
use Rattle.aea_copy_writer.proofs.parts.read_part.Goals as goal

-- all that was read
read_all : (file buf : List ℕ) (from k n : ℕ) → length buf ≡ n → k ≡ length buf → take k buf ≡ take k (drop from file) → buf ≡ part_of file from n
read_all file buf from k n size is bytes = sym (take_all k buf (omega (arith, is))) ∙ bytes ∙ ap (λ (j : ℕ). take j (drop from file)) (is ∙ size)

pub returns-in_err-count-clause-reads : goal.returns-in_err-count-clause-reads
returns-in_err-count-clause-reads g c =
    let e = c.in_err-count.ensures in
    reads_failed g.D.Disk.reveals _ (g.D.Disk.state c.args.disk.now) (g.D.Disk.state c.read.new.self) _ refl (cc) e.contents e.crash e.settled e.time e.cause e.sure

pub returns-clause-reads : goal.returns-clause-reads
returns-clause-reads g c =
    let e = c.in_ok-count.ensures in
    reads_made g.D.Disk.reveals _ (g.D.Disk.state c.args.disk.now) (g.D.Disk.state c.read.new.self) _ refl (λ is. cc) e.contents e.crash e.settled e.time e.cause e.sure

pub returns-clause-whole : goal.returns-clause-whole
returns-clause-whole g c = λ is reveals.
    read_all ((g.D.Disk.state c.args.disk.now).files c.args.file) c.read.new.buf c.args.from c.in_ok-count.count (length c.args.part.now) c.read.auto.buf (eqb-true c.in_ok-count.count (length c.read.new.buf) is) (c.in_ok-count.ensures.bytes reveals)

pub returns-clause-there : goal.returns-clause-there
returns-clause-there g c = λ is reveals.
    let file = (g.D.Disk.state c.args.disk.now).files c.args.file in
    let same : c.read.new.buf ≡ part_of file c.args.from (length c.args.part.now) =
    read_all file c.read.new.buf c.args.from c.in_ok-count.count (length c.args.part.now) c.read.auto.buf (eqb-true c.in_ok-count.count (length c.read.new.buf) is) (c.in_ok-count.ensures.bytes reveals) in
    record { all = sym (ap length same) ∙ c.read.auto.buf; are = subst AreBytes same c.are_bytes.ensures }
