use Rattle.std.proofs.Common.{rules, ◌≡◌, ℕ, List, length, take, drop, refl, ap, arith}
use Rattle.std.proofs.lemmas.List.{length-take, length-drop, length-append}
use Rattle.aea_disk.proofs.Frames.{reads_none, reads_both, reads_as}
use Rattle.aea_copy_reader.proofs.Parting.{parts_next, same_next}
use Rattle.aea_copy_reader.proofs.parts.range_parting.Goals as goal

pub parts-init : goal.parts-init
parts-init g c = (omega arith, refl, refl, λ reveals. refl, reads_none g.D.Disk.reveals ⊥ (g.D.Disk.state c.args.disk.now) (λ none. none))

pub returns-in_err-parted-clause-reads : goal.returns-in_err-parted-clause-reads
returns-in_err-parted-clause-reads g c =
    reads_both g.D.Disk.reveals ⊥ _ (g.D.Disk.state c.args.disk.now) (g.D.Disk.state c.parts.disk) (g.D.Disk.state c.next_parting.new.disk) (λ none. none) c.parts.invariant.4
    (reads_as g.D.Disk.reveals _ _ _ _ (λ e. search rules) (λ e. search rules) c.in_err-parted.ensures.reads)

pub returns-in-Some-clause-reads : goal.returns-in-Some-clause-reads
returns-in-Some-clause-reads g c =
    reads_both g.D.Disk.reveals ⊥ _ (g.D.Disk.state c.args.disk.now) (g.D.Disk.state c.parts.disk) (g.D.Disk.state c.next_parting.new.disk) (λ none. none) c.parts.invariant.4
    (reads_as g.D.Disk.reveals _ _ _ _ (λ e. absurd (cc)) (λ e. absurd (cc)) c.in_ok-parted.ensures.reads)

pub returns-in-Some-clause-parts : goal.returns-in-Some-clause-parts
returns-in-Some-clause-parts g c = λ reveals.
    let old = (g.D.Disk.state c.args.disk.now).files in
    let mid = (g.D.Disk.state c.parts.disk).files in
    let size : length (take c.min-size.result c.parts.first) ≡ c.min-size.result = omega (arith, length-take c.min-size.result c.parts.first, c.min-size.ensures, c.parts.invariant.1) in
    parts_next (old c.args.file) (old c.args.other) (mid c.args.file) (mid c.args.other) c.args.at c.args.from c.parts.done c.min-size.result _ c.args.count c.in-Some.k
    (ap (λ (f : ℕ → List ℕ). f c.args.file) (c.parts.invariant.4.contents reveals)) (ap (λ (f : ℕ → List ℕ). f c.args.other) (c.parts.invariant.4.contents reveals))
    size (omega (arith, c.min-size.ensures, c.parts.invariant.0)) (c.parts.invariant.3 reveals)
    ((rw c.in-Some.is at c.in_ok-parted.ensures.parts) reveals)

pub parts-preserved : goal.parts-preserved
parts-preserved g c =
    let old = (g.D.Disk.state c.args.disk.now).files in
    let mid = (g.D.Disk.state c.parts.disk).files in
    let size : length (take c.min-size.result c.parts.first) ≡ c.min-size.result = omega (arith, length-take c.min-size.result c.parts.first, c.min-size.ensures, c.parts.invariant.1) in
    let none = rw c.in_default.is at c.in_ok-parted.ensures.same in (
      omega (arith, c.min-size.ensures, c.parts.invariant.0),
      omega (arith, length-append c.next_parting.new.first (drop c.min-size.result c.parts.first), length-drop c.min-size.result c.parts.first, c.in_ok-parted.ensures.buffers.0, size, c.min-size.ensures, c.parts.invariant.1),
      omega (arith, length-append c.next_parting.new.second (drop c.min-size.result c.parts.second), length-drop c.min-size.result c.parts.second, c.in_ok-parted.ensures.buffers.1, size, c.min-size.ensures, c.parts.invariant.2),
      λ reveals. same_next (old c.args.file) (old c.args.other) (mid c.args.file) (mid c.args.other) c.args.at c.args.from c.parts.done c.min-size.result _
          (ap (λ (f : ℕ → List ℕ). f c.args.file) (c.parts.invariant.4.contents reveals)) (ap (λ (f : ℕ → List ℕ). f c.args.other) (c.parts.invariant.4.contents reveals))
          size (c.parts.invariant.3 reveals) (none reveals),
      reads_both g.D.Disk.reveals ⊥ ⊥ (g.D.Disk.state c.args.disk.now) (g.D.Disk.state c.parts.disk) (g.D.Disk.state c.next_parting.new.disk) (λ none. none) c.parts.invariant.4
          (reads_as g.D.Disk.reveals _ ⊥ _ _ (λ none. absurd none) (λ none. absurd (cc)) c.in_ok-parted.ensures.reads),
    )
