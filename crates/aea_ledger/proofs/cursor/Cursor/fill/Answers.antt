use Rattle.aea_disk.proofs.Frames.{reads_none}
use Rattle.std.proofs.Common.{◌≡◌, ◌-◌, ℕ, List, length, take, drop, min, ap, ◌∙◌, sym, arith}
use Rattle.std.proofs.lemmas.List.{length-take}
use Rattle.std.proofs.Common.{length-drop}
use Rattle.aea_ledger.specs.Reads.{Ahead}
use Rattle.aea_ledger.proofs.Pieces.{take_whole, take_within}
use Rattle.aea_ledger.proofs.cursor.Cursor.fill.Goals as goal

-- what a refill leaves
pub returns-clause-revealed : goal.returns-clause-revealed
returns-clause-revealed g c = λ reveals.
    let e = c.in_ok-refill.ensures in
    let same : drop c.args.self.now.place ((g.D.Disk.state c.args.disk.now).files 0) ≡ drop c.refill.new.self.place ((g.D.Disk.state c.refill.new.disk).files 0) =
    ap (λ (k : ℕ). drop k ((g.D.Disk.state c.args.disk.now).files 0)) (sym e.place) ∙ ap (λ (f : ℕ → List ℕ). drop c.refill.new.self.place (f 0)) (sym (e.reads.contents reveals)) in
    take_whole _ _ 65536 (e.bytes reveals ∙ ap (take 65536) same)

pub returns-clause-window : goal.returns-clause-window
returns-clause-window g c = λ reveals.
    let e = c.in_ok-refill.ensures in
    let i = c.self-2.inside in
    let size : c.min.result ≡ min c.args.count (length c.refill.new.self.bytes) =
    omega (arith, c.min.ensures, ap (λ (a : Ahead). length a.bytes) c.self-2.view_is, length-take (i.end - i.start) (drop i.start i.buffer.items), length-drop i.start i.buffer.items, c.self-2.invariant.0, c.self-2.invariant.1, c.self-2.invariant.2) in
    ap (λ (k : ℕ). take k c.refill.new.self.bytes) size ∙ take_within _ _ c.args.count 65536 c.requires.few (e.bytes reveals)

pub returns-then-count-self-clause-reads : goal.returns-then-count-self-clause-reads
returns-then-count-self-clause-reads g c = reads_none g.D.Disk.reveals _ (g.D.Disk.state c.args.disk.now) (λ is. absurd (cc))
