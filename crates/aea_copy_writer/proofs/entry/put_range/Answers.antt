use Rattle.std.proofs.Common.{◌≡◌, ◌+◌, ◌-◌, ℕ, List, length, take, drop, refl, ap, subst, arith}
use Rattle.std.proofs.lemmas.List.{length-take, length-drop, length-append}
use Rattle.aea_disk.specs.Files.{ChangesFile, Holds, Torn}
use Rattle.aea_disk.specs.Steps.{changes_none}
use Rattle.aea_disk.proofs.Frames.{writes_none, writes_faulted, writes_as, ok_fine}
use Rattle.aea_copy_writer.specs.Changes.{KeepsFront, FitsChange}
use Rattle.aea_copy_writer.specs.Parts.{part_of, IsThere, Takes}
use Rattle.aea_copy_writer.proofs.Stretches.{then_more, front_none, front_same, front_torn}
use Rattle.aea_copy_writer.proofs.Writing.{there_none, there_both, put_none, put_next, takes_none, takes_next}
use Rattle.aea_copy_writer.proofs.entry.put_range.Goals as goal

pub parts-init : goal.parts-init
parts-init g c =
    let first = g.D.Disk.state c.args.disk.now in
    record {
      few = omega arith;
      buffer = c.requires.buffer;
      there = λ reveals. there_none (first.files 0) c.args.from;
      put = λ reveals. put_none c.args.file c.args.to first.files c.args.from (c.requires.there reveals);
      taken = λ reveals. takes_none (first.files 0) c.args.from c.args.hasher.now;
      writes = writes_none g.D.Disk.reveals first.free (FitsChange first c.args.file (c.args.to + c.args.count)) (ChangesFile c.args.file (KeepsFront c.args.to)) first (λ d. changes_none c.args.file (KeepsFront c.args.to) d (front_none c.args.to (d c.args.file)));
    }

pub returns-in_err-put_part-clause-writes : goal.returns-in_err-put_part-clause-writes
returns-in_err-put_part-clause-writes g c =
    let reveals = g.D.Disk.reveals in
    let file = c.args.file in
    let to = c.args.to in
    let first = g.D.Disk.state c.args.disk.now in
    let second = g.D.Disk.state c.parts.disk in
    let third = g.D.Disk.state c.put_part.new.disk in
    let n = length (take c.min-size.result c.parts.buffer) in
    let size : n ≡ c.min-size.result = omega (arith, length-take c.min-size.result c.parts.buffer, c.min-size.ensures, c.parts.invariant.buffer) in
    then_more reveals ⊥ _ file (to + c.args.count) (to + c.parts.done + n) (KeepsFront to) (Torn (to + c.parts.done) n) (KeepsFront to) first second third (λ none. none) (λ x y one. one)
    (λ x y z one two. front_same to x y z one (front_torn to (to + c.parts.done) n y z (omega arith) two)) (g.met.D.Disk.smaller_fits c.parts.disk)
    (omega (arith, size, c.min-size.ensures, c.parts.invariant.few))
    c.parts.invariant.writes (writes_faulted reveals second.free (FitsChange second file (to + c.parts.done + n)) _ _ (ChangesFile file (Torn (to + c.parts.done) n)) second third c.in_err-put_part.ensures.writes refl (cc))

pub returns-then-not-branch-clause-writes : goal.returns-then-not-branch-clause-writes
returns-then-not-branch-clause-writes g c =
    let reveals = g.D.Disk.reveals in
    let file = c.args.file in
    let to = c.args.to in
    let first = g.D.Disk.state c.args.disk.now in
    let second = g.D.Disk.state c.parts.disk in
    let third = g.D.Disk.state c.put_part.new.disk in
    let n = length (take c.min-size.result c.parts.buffer) in
    let size : n ≡ c.min-size.result = omega (arith, length-take c.min-size.result c.parts.buffer, c.min-size.ensures, c.parts.invariant.buffer) in
    then_more reveals ⊥ _ file (to + c.args.count) (to + c.parts.done + n) (KeepsFront to) (Torn (to + c.parts.done) n) (KeepsFront to) first second third (λ none. none) (λ x y one. one)
    (λ x y z one two. front_same to x y z one (front_torn to (to + c.parts.done) n y z (omega arith) two)) (g.met.D.Disk.smaller_fits c.parts.disk)
    (omega (arith, size, c.min-size.ensures, c.parts.invariant.few))
    c.parts.invariant.writes c.in_ok-put_part.ensures.writes

pub returns-then-not-branch-clause-short : goal.returns-then-not-branch-clause-short
returns-then-not-branch-clause-short g c = λ _ reveals.
    let first = g.D.Disk.state c.args.disk.now in
    let second = g.D.Disk.state c.parts.disk in
    let n = length (take c.min-size.result c.parts.buffer) in
    let size : n ≡ c.min-size.result = omega (arith, length-take c.min-size.result c.parts.buffer, c.min-size.ensures, c.parts.invariant.buffer) in
    let same : second.files 0 ≡ first.files 0 = (c.parts.invariant.put reveals).others 0 (λ is. omega (arith, is, c.requires.file.0)) in
    let few = c.in_ok-put_part.ensures.short c.if-not-branch.true reveals in
    omega (arith, few, ap length same, size, c.min-size.ensures, c.parts.invariant.few)

pub returns-clause-there : goal.returns-clause-there
returns-clause-there g c = λ _ reveals.
    let all : c.parts.done ≡ c.args.count = omega (arith, c.parts.invariant.few, c.parts-test.false) in
    subst (IsThere ((g.D.Disk.state c.args.disk.now).files 0) c.args.from) all (c.parts.invariant.there reveals)

pub returns-clause-put : goal.returns-clause-put
returns-clause-put g c = λ _ reveals.
    let first = g.D.Disk.state c.args.disk.now in
    let second = g.D.Disk.state c.parts.disk in
    let all : c.parts.done ≡ c.args.count = omega (arith, c.parts.invariant.few, c.parts-test.false) in
    subst (λ (n : ℕ). ChangesFile c.args.file (Holds c.args.to (part_of (first.files 0) c.args.from n)) first.files second.files) all (c.parts.invariant.put reveals)

pub returns-clause-taken : goal.returns-clause-taken
returns-clause-taken g c = λ _ reveals.
    let first = g.D.Disk.state c.args.disk.now in
    let all : c.parts.done ≡ c.args.count = omega (arith, c.parts.invariant.few, c.parts-test.false) in
    subst (λ (n : ℕ). Takes c.args.hasher.now (part_of (first.files 0) c.args.from n) c.parts.hasher) all (c.parts.invariant.taken reveals)

pub returns-clause-writes : goal.returns-clause-writes
returns-clause-writes g c =
    let file = c.args.file in
    let first = g.D.Disk.state c.args.disk.now in
    let second = g.D.Disk.state c.parts.disk in
    writes_as g.D.Disk.reveals first.free (FitsChange first file (c.args.to + c.args.count)) ⊥ _ (ChangesFile file (KeepsFront c.args.to)) first second (λ is. cc) (λ none. absurd none) c.parts.invariant.writes

pub parts-preserved : goal.parts-preserved
parts-preserved g c =
    let reveals = g.D.Disk.reveals in
    let file = c.args.file in
    let to = c.args.to in
    let first = g.D.Disk.state c.args.disk.now in
    let second = g.D.Disk.state c.parts.disk in
    let third = g.D.Disk.state c.put_part.new.disk in
    let done = c.parts.done in
    let size = c.min-size.result in
    let i = c.parts.invariant in
    let e = c.in_ok-put_part.ensures in
    let n = length (take size c.parts.buffer) in
    let is : n ≡ size = omega (arith, length-take size c.parts.buffer, c.min-size.ensures, i.buffer) in
    let some : n - 0 ≡ size = omega (arith, is) in
    let same = λ (revealed : reveals). (i.put revealed).others 0 (λ (is : 0 ≡ file). omega (arith, is, c.requires.file.0)) in
    record {
      few = omega (arith, c.min-size.ensures, i.few);
      buffer = omega (arith, length-append c.put_part.new.buffer (drop size c.parts.buffer), length-drop size c.parts.buffer, c.put_part.auto.buffer, is, c.min-size.ensures, i.buffer);
      there = λ revealed. there_both (first.files 0) c.args.from done size (c.args.from + done) refl (i.there revealed) (subst (λ (k : ℕ). IsThere (first.files 0) (c.args.from + done) k) some (subst (λ (l : List ℕ). IsThere l (c.args.from + done) (n - 0)) (same revealed) (e.there c.if-not-branch.false revealed)));
      put = λ revealed. put_next file to c.args.from done size first.files second.files third.files c.requires.file.0 (i.there revealed) (i.put revealed) (subst (λ (k : ℕ). ChangesFile file (Holds (to + done) (part_of (second.files 0) (c.args.from + done) k)) second.files third.files) some (e.put c.if-not-branch.false revealed));
      taken = λ revealed. takes_next (first.files 0) (second.files 0) c.args.from done size c.args.hasher.now c.parts.hasher c.put_part.new.hasher (same revealed) (i.taken revealed) (subst (λ (k : ℕ). Takes c.parts.hasher (part_of (second.files 0) (c.args.from + done) k) c.put_part.new.hasher) some (e.taken c.if-not-branch.false revealed));
      writes = then_more reveals ⊥ ⊥ file (to + c.args.count) (to + done + n) (KeepsFront to) (Torn (to + done) n) (KeepsFront to) first second third (λ none. none) (λ x y one. one)
          (λ x y z one two. front_same to x y z one (front_torn to (to + done) n y z (omega arith) two)) (g.met.D.Disk.smaller_fits c.parts.disk)
          (omega (arith, is, c.min-size.ensures, i.few)) i.writes
          (writes_as reveals second.free (FitsChange second file (to + done + n)) _ ⊥ (ChangesFile file (Torn (to + done) n)) second third (λ none. absurd none) (λ failed. absurd (ok_fine (c.in_ok-put_part.was) failed)) c.put_part.ensures.writes);
    }
