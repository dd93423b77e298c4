use Rattle.std.proofs.Common.{◌≡◌, ◌+◌, ◌-◌, ◌≤◌, ◌++◌, ℕ, true, List, length, take, drop, refl, ap, ◌∙◌, subst, arith}
use Rattle.std.proofs.lemmas.Result.{IfOk-weaker}
use Rattle.std.proofs.lemmas.List.{length-take, length-drop, length-append, take-take}
use Rattle.aea_disk.specs.Files.{Files, ChangesFile, Holds, Torn}
use Rattle.aea_disk.proofs.Frames.{ok_fine, writes_faulted}
use Rattle.aea_copy_writer.specs.Changes.{KeepsFront, FitsChange}
use Rattle.aea_copy_writer.specs.Parts.{part_of, IsThere, Takes}
use Rattle.aea_copy_writer.proofs.Stretches.{then_more, more_freely, front_same, front_torn, front_less}
use Rattle.aea_copy_writer.proofs.Writing.{there_both, holds_long}
use Rattle.aea_copy_writer.proofs.Joining.{put_more, taken_more}
use Rattle.aea_copy_writer.proofs.entry.write_front.Goals as goal

-- how long the part is that is read
part_size : (buf : List ℕ) (part : ℕ) → part + 4 ≤ 4133 → length buf ≡ 4133 → length (take (part + 4) buf) - 4 ≡ part
part_size buf part few long = omega (arith, few, long, length-take (part + 4) buf)

part_all : (buf : List ℕ) (part : ℕ) → part + 4 ≤ 4133 → length buf ≡ 4133 → length (take (part + 4) buf) ≡ part + 4
part_all buf part few long = omega (arith, few, long, length-take (part + 4) buf)

-- what the first part leaves
first_put : (file gate at part : ℕ) (buf : List ℕ) (c d : Files) → part + 4 ≤ 4133 → length buf ≡ 4133 → ChangesFile file (Holds (gate + 1) (take 4 (take (part + 4) buf) ++ part_of (c 0) at (length (take (part + 4) buf) - 4))) c d
    → ChangesFile file (Holds (gate + 1) (take 4 buf ++ part_of (c 0) at part)) c d
first_put file gate at part buf c d few long put =
    subst (λ (l : List ℕ). ChangesFile file (Holds (gate + 1) l) c d)
    (ap (λ (l : List ℕ). l ++ part_of (c 0) at (length (take (part + 4) buf) - 4)) (take-take 4 (part + 4) buf (omega arith)) ∙ ap (λ (n : ℕ). take 4 buf ++ part_of (c 0) at n) (part_size buf part few long))
    put

reaches : (file gate at part : ℕ) (buf : List ℕ) (c d : Files) → length buf ≡ 4133 → IsThere (c 0) at part → ChangesFile file (Holds (gate + 1) (take 4 buf ++ part_of (c 0) at part)) c d → gate + 1 + 4 + part ≤ length (d file)
reaches file gate at part buf c d long there put =
    omega (arith, holds_long (gate + 1) (take 4 buf ++ part_of (c 0) at part) (c file) (d file) put.here, length-append (take 4 buf) (part_of (c 0) at part), length-take 4 buf, long, there.all)

pub put_range-requires-clause-there : goal.put_range-requires-clause-there
put_range-requires-clause-there g c = λ reveals.
    let buf = c.args.buffer.now in
    let first = g.D.Disk.state c.args.disk.now in
    let second = g.D.Disk.state c.put_part.new.disk in
    let e = c.in_ok-put_part.ensures in
    reaches c.args.file c.args.gate c.args.at c.args.part buf first.files second.files c.requires.buffer
    (subst (IsThere (first.files 0) c.args.at) (part_size buf c.args.part c.requires.part c.requires.buffer) (e.there c.if-not-branch.false reveals))
    (first_put c.args.file c.args.gate c.args.at c.args.part buf first.files second.files c.requires.part c.requires.buffer (e.put c.if-not-branch.false reveals))

pub returns-in_err-put_part-clause-writes : goal.returns-in_err-put_part-clause-writes
returns-in_err-put_part-clause-writes g c =
    let first = g.D.Disk.state c.args.disk.now in
    let second = g.D.Disk.state c.put_part.new.disk in
    let n = length (take (c.args.part + 4) c.args.buffer.now) in
    let size : n ≡ c.args.part + 4 = part_all c.args.buffer.now c.args.part c.requires.part c.requires.buffer in
    more_freely g.D.Disk.reveals _ c.args.file (c.args.gate + 5 + (c.args.part + c.args.middle)) (c.args.gate + 1 + n) (Torn (c.args.gate + 1) n) (KeepsFront (c.args.gate + 1)) first second
    (λ x y. front_torn (c.args.gate + 1) (c.args.gate + 1) n x y (omega arith)) (g.met.D.Disk.smaller_fits c.args.disk.now) (omega (arith, size))
    (writes_faulted g.D.Disk.reveals first.free (FitsChange first c.args.file (c.args.gate + 1 + n)) _ _ (ChangesFile c.args.file (Torn (c.args.gate + 1) n)) first second c.in_err-put_part.ensures.writes refl (cc))

pub returns-then-not-branch-clause-writes : goal.returns-then-not-branch-clause-writes
returns-then-not-branch-clause-writes g c =
    let first = g.D.Disk.state c.args.disk.now in
    let second = g.D.Disk.state c.put_part.new.disk in
    let n = length (take (c.args.part + 4) c.args.buffer.now) in
    let size : n ≡ c.args.part + 4 = part_all c.args.buffer.now c.args.part c.requires.part c.requires.buffer in
    more_freely g.D.Disk.reveals _ c.args.file (c.args.gate + 5 + (c.args.part + c.args.middle)) (c.args.gate + 1 + n) (Torn (c.args.gate + 1) n) (KeepsFront (c.args.gate + 1)) first second
    (λ x y. front_torn (c.args.gate + 1) (c.args.gate + 1) n x y (omega arith)) (g.met.D.Disk.smaller_fits c.args.disk.now) (omega (arith, size))
    c.in_ok-put_part.ensures.writes

pub returns-then-not-branch-clause-short : goal.returns-then-not-branch-clause-short
returns-then-not-branch-clause-short g c = λ _ reveals.
    omega (arith, c.in_ok-put_part.ensures.short c.if-not-branch.true reveals, part_size c.args.buffer.now c.args.part c.requires.part c.requires.buffer)

pub returns-then-not-branch-clause-buffer : goal.returns-then-not-branch-clause-buffer
returns-then-not-branch-clause-buffer g c =
    let n = c.args.part + 4 in
    omega (arith, length-append c.put_part.new.buffer (drop n c.args.buffer.now), length-drop n c.args.buffer.now, c.put_part.auto.buffer, part_all c.args.buffer.now c.args.part c.requires.part c.requires.buffer, c.requires.buffer, c.requires.part)

pub returns-clause-there : goal.returns-clause-there
returns-clause-there g c =
    let first = g.D.Disk.state c.args.disk.now in
    let second = g.D.Disk.state c.put_part.new.disk in
    let buf = c.args.buffer.now in
    let e = c.in_ok-put_part.ensures in
    IfOk-weaker c.put_range.result _ _
    (λ whole later is reveals.
    let same : second.files 0 ≡ first.files 0 = (e.put c.if-not-branch.false reveals).others 0 (λ (no : 0 ≡ c.args.file). omega (arith, no, c.requires.file.0)) in
    there_both (first.files 0) c.args.at c.args.part c.args.middle (c.args.at + c.args.part) refl
    (subst (IsThere (first.files 0) c.args.at) (part_size buf c.args.part c.requires.part c.requires.buffer) (e.there c.if-not-branch.false reveals))
    (subst (λ (l : List ℕ). IsThere l (c.args.at + c.args.part) c.args.middle) same (later is reveals)))
    c.put_range.ensures.there

pub returns-clause-put : goal.returns-clause-put
returns-clause-put g c =
    let first = g.D.Disk.state c.args.disk.now in
    let second = g.D.Disk.state c.put_part.new.disk in
    let third = g.D.Disk.state c.put_range.new.disk in
    let buf = c.args.buffer.now in
    let e = c.in_ok-put_part.ensures in
    IfOk-weaker c.put_range.result _ _
    (λ whole later is reveals.
    put_more c.args.file (c.args.gate + 1) (c.args.gate + 1 + 4 + c.args.part) c.args.at (c.args.at + c.args.part) c.args.part c.args.middle 4 (take 4 buf) first.files second.files third.files c.requires.file.0
    (omega (arith, length-take 4 buf, c.requires.buffer)) refl (omega arith)
    (subst (IsThere (first.files 0) c.args.at) (part_size buf c.args.part c.requires.part c.requires.buffer) (e.there c.if-not-branch.false reveals))
    (first_put c.args.file c.args.gate c.args.at c.args.part buf first.files second.files c.requires.part c.requires.buffer (e.put c.if-not-branch.false reveals))
    (later is reveals))
    c.put_range.ensures.put

pub returns-clause-taken : goal.returns-clause-taken
returns-clause-taken g c =
    let first = g.D.Disk.state c.args.disk.now in
    let second = g.D.Disk.state c.put_part.new.disk in
    let buf = c.args.buffer.now in
    let e = c.in_ok-put_part.ensures in
    IfOk-weaker c.put_range.result _ _
    (λ whole later is reveals.
    let same : second.files 0 ≡ first.files 0 = (e.put c.if-not-branch.false reveals).others 0 (λ (no : 0 ≡ c.args.file). omega (arith, no, c.requires.file.0)) in
    taken_more (first.files 0) (second.files 0) c.args.at (c.args.at + c.args.part) c.args.part c.args.middle c.args.hasher.now c.put_part.new.hasher c.put_range.new.hasher same refl
    (subst (λ (n : ℕ). Takes c.args.hasher.now (part_of (first.files 0) c.args.at n) c.put_part.new.hasher) (part_size buf c.args.part c.requires.part c.requires.buffer) (e.taken c.if-not-branch.false reveals))
    (later is reveals))
    c.put_range.ensures.taken

pub returns-clause-short : goal.returns-clause-short
returns-clause-short g c =
    let first = g.D.Disk.state c.args.disk.now in
    let second = g.D.Disk.state c.put_part.new.disk in
    let e = c.in_ok-put_part.ensures in
    IfOk-weaker c.put_range.result _ _
    (λ whole later is reveals.
    let same : second.files 0 ≡ first.files 0 = (e.put c.if-not-branch.false reveals).others 0 (λ (no : 0 ≡ c.args.file). omega (arith, no, c.requires.file.0)) in
    omega (arith, later is reveals, ap length same))
    c.put_range.ensures.short

pub returns-clause-writes : goal.returns-clause-writes
returns-clause-writes g c =
    let reveals = g.D.Disk.reveals in
    let file = c.args.file in
    let first = g.D.Disk.state c.args.disk.now in
    let second = g.D.Disk.state c.put_part.new.disk in
    let third = g.D.Disk.state c.put_range.new.disk in
    let gate = c.args.gate in
    let end = gate + 5 + (c.args.part + c.args.middle) in
    let n = length (take (c.args.part + 4) c.args.buffer.now) in
    let size : n ≡ c.args.part + 4 = part_all c.args.buffer.now c.args.part c.requires.part c.requires.buffer in
    then_more reveals _ _ file end (gate + 1 + 4 + c.args.part + c.args.middle) (KeepsFront (gate + 1)) (KeepsFront (gate + 1 + 4 + c.args.part)) (KeepsFront (gate + 1)) first second third (ok_fine (c.in_ok-put_part.was)) (λ x y one. one)
    (λ x y z one two. front_same (gate + 1) x y z one (front_less (gate + 1) (gate + 1 + 4 + c.args.part) y z (omega arith) two)) (g.met.D.Disk.smaller_fits c.put_part.new.disk) (omega arith)
    (more_freely reveals _ file end (gate + 1 + n) (Torn (gate + 1) n) (KeepsFront (gate + 1)) first second (λ x y. front_torn (gate + 1) (gate + 1) n x y (omega arith)) (g.met.D.Disk.smaller_fits c.args.disk.now) (omega (arith, size)) c.put_part.ensures.writes)
    c.put_range.ensures.writes
