use Rattle.std.proofs.Common.{rules, ◌≡◌, ℕ, List, length, take, drop, refl, sym, ap, ◌∙◌, arith}
use Rattle.aea_disk.proofs.Frames.{reads_made, reads_failed, reads_both}
use Rattle.aea_copies.proofs.Ranges.{read_front}
use Rattle.aea_copy_reader.proofs.Parting.{parts_of, some_from}
use Rattle.aea_copy_reader.proofs.Taking.{none_from}
use Rattle.aea_copy_reader.proofs.parts.next_parting.Goals as goal

pub returns-in_err-one-clause-reads : goal.returns-in_err-one-clause-reads
returns-in_err-one-clause-reads g c =
    let e = c.in_err-one.ensures in
    reads_failed g.D.Disk.reveals _ (g.D.Disk.state c.args.disk.now) (g.D.Disk.state c.read.new.self) _ refl (search rules) e.contents e.crash e.settled e.time e.cause e.sure

pub returns-in_err-two-clause-reads : goal.returns-in_err-two-clause-reads
returns-in_err-two-clause-reads g c =
    let e = c.in_ok-one.ensures in
    let f = c.in_err-two.ensures in
    reads_both g.D.Disk.reveals ⊥ _ (g.D.Disk.state c.args.disk.now) (g.D.Disk.state c.read.new.self) (g.D.Disk.state c.read-2.new.self) (λ none. none)
    (reads_made g.D.Disk.reveals ⊥ _ _ _ (cc) (λ none. none) e.contents e.crash e.settled e.time e.cause e.sure)
    (reads_failed g.D.Disk.reveals _ (g.D.Disk.state c.read.new.self) (g.D.Disk.state c.read-2.new.self) _ refl (search rules) f.contents f.crash f.settled f.time f.cause f.sure)

pub returns-clause-reads : goal.returns-clause-reads
returns-clause-reads g c =
    let e = c.in_ok-one.ensures in
    let f = c.in_ok-two.ensures in
    reads_both g.D.Disk.reveals ⊥ _ (g.D.Disk.state c.args.disk.now) (g.D.Disk.state c.read.new.self) (g.D.Disk.state c.read-2.new.self) (λ none. none)
    (reads_made g.D.Disk.reveals ⊥ _ _ _ (cc) (λ none. none) e.contents e.crash e.settled e.time e.cause e.sure)
    (reads_made g.D.Disk.reveals _ (g.D.Disk.state c.read.new.self) (g.D.Disk.state c.read-2.new.self) _ (cc) (λ is. absurd (cc)) f.contents f.crash f.settled f.time f.cause f.sure)

pub returns-clause-parts : goal.returns-clause-parts
returns-clause-parts g c =
    let file = (g.D.Disk.state c.args.disk.now).files c.args.file in
    let other = (g.D.Disk.state c.read.new.self).files c.args.other in
    let e = c.in_ok-one.ensures in
    let f = c.in_ok-two.ensures in
    some_from c.parting.result
    (λ k parts reveals.
    let same = ap (λ (h : ℕ → List ℕ). h c.args.other) (e.contents reveals) in
    let second : length c.read-2.new.buf ≡ length c.args.first.now = omega (arith, c.read-2.auto.buf, c.requires.buffers) in
    parts_of _ _ _ _ k
    (read_front file c.read.new.buf c.args.at c.in_ok-one.one (length c.args.first.now) c.read.auto.buf (e.count reveals) (e.bytes reveals))
    (read_front other c.read-2.new.buf c.args.from c.in_ok-two.two (length c.args.first.now) second (f.count reveals) (f.bytes reveals)
    ∙ ap (λ (l : List ℕ). take (length c.args.first.now) (drop c.args.from l)) same)
    parts)
    c.parting.ensures.parts

pub returns-clause-same : goal.returns-clause-same
returns-clause-same g c =
    let file = (g.D.Disk.state c.args.disk.now).files c.args.file in
    let other = (g.D.Disk.state c.read.new.self).files c.args.other in
    let e = c.in_ok-one.ensures in
    let f = c.in_ok-two.ensures in
    none_from c.parting.result
    (λ all reveals.
    let same = ap (λ (h : ℕ → List ℕ). h c.args.other) (e.contents reveals) in
    let second : length c.read-2.new.buf ≡ length c.args.first.now = omega (arith, c.read-2.auto.buf, c.requires.buffers) in
    sym (read_front file c.read.new.buf c.args.at c.in_ok-one.one (length c.args.first.now) c.read.auto.buf (e.count reveals) (e.bytes reveals)) ∙ all
    ∙ read_front other c.read-2.new.buf c.args.from c.in_ok-two.two (length c.args.first.now) second (f.count reveals) (f.bytes reveals)
    ∙ ap (λ (l : List ℕ). take (length c.args.first.now) (drop c.args.from l)) same)
    c.parting.ensures.same
