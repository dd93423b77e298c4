use Rattle.std.proofs.Common.{◌≡◌, ◌+◌, ◌-◌, ℕ, List, length, take, drop, refl, ap, subst, arith}
use Rattle.std.proofs.lemmas.List.{length-take, length-drop, length-append}
use Rattle.aea_disk.specs.Files.{ChangesFile, Holds, Torn}
use Rattle.aea_disk.specs.Steps.{changes_none}
use Rattle.aea_disk.proofs.Frames.{writes_none, writes_faulted, writes_as, ok_fine}
use Rattle.aea_copy_writer.specs.Changes.{KeepsFront, FitsChange}
use Rattle.aea_copy_writer.specs.Parts.{part_of, IsThere}
use Rattle.aea_copy_writer.proofs.Stretches.{then_more, front_none, front_same, front_torn}
use Rattle.aea_copy_writer.proofs.Writing.{there_none, there_both, holds_long}
use Rattle.aea_copy_writer.proofs.Moving.{move_none, move_next}
use Rattle.aea_copy_writer.proofs.ledger.move_range.Goals as goal

pub parts-init : goal.parts-init
parts-init g c =
    let first = g.D.Disk.state c.args.disk.now in
    record {
      few = omega arith;
      buffer = c.requires.buffer;
      there = λ reveals. there_none (first.files c.args.source) c.args.from;
      moved = λ reveals. move_none c.args.source c.args.to first.files c.args.from (c.requires.there reveals);
      writes = writes_none g.D.Disk.reveals first.free (FitsChange first 0 (c.args.to + c.args.count)) (ChangesFile 0 (KeepsFront c.args.to)) first (λ d. changes_none 0 (KeepsFront c.args.to) d (front_none c.args.to (d 0)));
    }

pub returns-in_err-move_part-clause-writes : goal.returns-in_err-move_part-clause-writes
returns-in_err-move_part-clause-writes g c =
    let reveals = g.D.Disk.reveals in
    let file : ℕ = 0 in
    let to = c.args.to in
    let first = g.D.Disk.state c.args.disk.now in
    let second = g.D.Disk.state c.parts.disk in
    let third = g.D.Disk.state c.move_part.new.disk in
    let n = length (take c.min-size.result c.parts.buffer) in
    let size : n ≡ c.min-size.result = omega (arith, length-take c.min-size.result c.parts.buffer, c.min-size.ensures, c.parts.invariant.buffer) in
    then_more reveals ⊥ _ file (to + c.args.count) (to + c.parts.done + n) (KeepsFront to) (Torn (to + c.parts.done) n) (KeepsFront to) first second third (λ none. none) (λ x y one. one)
    (λ x y z one two. front_same to x y z one (front_torn to (to + c.parts.done) n y z (omega arith) two)) (g.met.D.Disk.smaller_fits c.parts.disk)
    (omega (arith, size, c.min-size.ensures, c.parts.invariant.few))
    c.parts.invariant.writes (writes_faulted reveals second.free (FitsChange second file (to + c.parts.done + n)) _ _ (ChangesFile file (Torn (to + c.parts.done) n)) second third c.in_err-move_part.ensures.writes refl (cc))

pub returns-then-not-branch-clause-writes : goal.returns-then-not-branch-clause-writes
returns-then-not-branch-clause-writes g c =
    let reveals = g.D.Disk.reveals in
    let file : ℕ = 0 in
    let to = c.args.to in
    let first = g.D.Disk.state c.args.disk.now in
    let second = g.D.Disk.state c.parts.disk in
    let third = g.D.Disk.state c.move_part.new.disk in
    let n = length (take c.min-size.result c.parts.buffer) in
    let size : n ≡ c.min-size.result = omega (arith, length-take c.min-size.result c.parts.buffer, c.min-size.ensures, c.parts.invariant.buffer) in
    then_more reveals ⊥ _ file (to + c.args.count) (to + c.parts.done + n) (KeepsFront to) (Torn (to + c.parts.done) n) (KeepsFront to) first second third (λ none. none) (λ x y one. one)
    (λ x y z one two. front_same to x y z one (front_torn to (to + c.parts.done) n y z (omega arith) two)) (g.met.D.Disk.smaller_fits c.parts.disk)
    (omega (arith, size, c.min-size.ensures, c.parts.invariant.few))
    c.parts.invariant.writes c.in_ok-move_part.ensures.writes

pub returns-then-not-branch-clause-short : goal.returns-then-not-branch-clause-short
returns-then-not-branch-clause-short g c = λ _ reveals.
    let first = g.D.Disk.state c.args.disk.now in
    let second = g.D.Disk.state c.parts.disk in
    let n = length (take c.min-size.result c.parts.buffer) in
    let size : n ≡ c.min-size.result = omega (arith, length-take c.min-size.result c.parts.buffer, c.min-size.ensures, c.parts.invariant.buffer) in
    let same : second.files c.args.source ≡ first.files c.args.source = (c.parts.invariant.moved reveals).others c.args.source (λ is. omega (arith, is, c.requires.source.0)) in
    let few = c.in_ok-move_part.ensures.short c.if-not-branch.true reveals in
    omega (arith, few, ap length same, size, c.min-size.ensures, c.parts.invariant.few)

pub returns-clause-there : goal.returns-clause-there
returns-clause-there g c = λ _ reveals.
    let first = g.D.Disk.state c.args.disk.now in
    let second = g.D.Disk.state c.parts.disk in
    let all : c.parts.done ≡ c.args.count = omega (arith, c.parts.invariant.few, c.parts-test.false) in
    let part = part_of (first.files c.args.source) c.args.from c.parts.done in
    omega (arith, holds_long c.args.to part (first.files 0) (second.files 0) (c.parts.invariant.moved reveals).here, (c.parts.invariant.there reveals).all, all)

pub returns-clause-moved : goal.returns-clause-moved
returns-clause-moved g c = λ _ reveals.
    let first = g.D.Disk.state c.args.disk.now in
    let second = g.D.Disk.state c.parts.disk in
    let all : c.parts.done ≡ c.args.count = omega (arith, c.parts.invariant.few, c.parts-test.false) in
    subst (λ (n : ℕ). ChangesFile 0 (Holds c.args.to (part_of (first.files c.args.source) c.args.from n)) first.files second.files) all (c.parts.invariant.moved reveals)

pub returns-clause-writes : goal.returns-clause-writes
returns-clause-writes g c =
    let file : ℕ = 0 in
    let first = g.D.Disk.state c.args.disk.now in
    let second = g.D.Disk.state c.parts.disk in
    writes_as g.D.Disk.reveals first.free (FitsChange first file (c.args.to + c.args.count)) ⊥ _ (ChangesFile file (KeepsFront c.args.to)) first second (λ is. cc) (λ none. absurd none) c.parts.invariant.writes

pub parts-preserved : goal.parts-preserved
parts-preserved g c =
    let reveals = g.D.Disk.reveals in
    let file : ℕ = 0 in
    let to = c.args.to in
    let first = g.D.Disk.state c.args.disk.now in
    let second = g.D.Disk.state c.parts.disk in
    let third = g.D.Disk.state c.move_part.new.disk in
    let done = c.parts.done in
    let size = c.min-size.result in
    let i = c.parts.invariant in
    let e = c.in_ok-move_part.ensures in
    let n = length (take size c.parts.buffer) in
    let is : n ≡ size = omega (arith, length-take size c.parts.buffer, c.min-size.ensures, i.buffer) in
    let same = λ (revealed : reveals). (i.moved revealed).others c.args.source (λ (is : c.args.source ≡ 0). omega (arith, is, c.requires.source.0)) in
    record {
      few = omega (arith, c.min-size.ensures, i.few);
      buffer = omega (arith, length-append c.move_part.new.part (drop size c.parts.buffer), length-drop size c.parts.buffer, c.move_part.auto.part, is, c.min-size.ensures, i.buffer);
      there = λ revealed. there_both (first.files c.args.source) c.args.from done size (c.args.from + done) refl (i.there revealed) (subst (λ (k : ℕ). IsThere (first.files c.args.source) (c.args.from + done) k) is (subst (λ (l : List ℕ). IsThere l (c.args.from + done) n) (same revealed) (e.there c.if-not-branch.false revealed)));
      moved = λ revealed. move_next c.args.source to c.args.from done size first.files second.files third.files c.requires.source.0 (i.there revealed) (i.moved revealed) (subst (λ (k : ℕ). ChangesFile file (Holds (to + done) (part_of (second.files c.args.source) (c.args.from + done) k)) second.files third.files) is (e.moved c.if-not-branch.false revealed));
      writes = then_more reveals ⊥ ⊥ file (to + c.args.count) (to + done + n) (KeepsFront to) (Torn (to + done) n) (KeepsFront to) first second third (λ none. none) (λ x y one. one)
          (λ x y z one two. front_same to x y z one (front_torn to (to + done) n y z (omega arith) two)) (g.met.D.Disk.smaller_fits c.parts.disk)
          (omega (arith, is, c.min-size.ensures, i.few)) i.writes
          (writes_as reveals second.free (FitsChange second file (to + done + n)) _ ⊥ (ChangesFile file (Torn (to + done) n)) second third (λ none. absurd none) (λ failed. absurd (ok_fine (c.in_ok-move_part.was) failed)) c.move_part.ensures.writes);
    }
