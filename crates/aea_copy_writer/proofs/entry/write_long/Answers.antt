use Rattle.std.proofs.Common.{◌≡◌, ◌+◌, ◌-◌, ◌≤◌, ◌++◌, [], ◌∷◌, ℕ, List, length, take, refl, ap, subst, arith}
use Rattle.std.proofs.lemmas.List.{length-take}
use Rattle.aea_disk.specs.Files.{Files, ChangesFile, Holds, Torn}
use Rattle.aea_disk.proofs.Frames.{ok_fine, writes_faulted}
use Rattle.aea_copy_writer.specs.Changes.{KeepsFront, FitsChange}
use Rattle.aea_copy_writer.specs.Parts.{part_of, IsThere, IsLinkOf, gate_byte}
use Rattle.aea_copy_writer.proofs.Stretches.{then_more, more_freely, front_same, front_torn}
use Rattle.aea_copy_writer.proofs.Writing.{there_both}
use Rattle.aea_copy_writer.proofs.Joining.{put_end, linked_end}
use Rattle.aea_copy_writer.proofs.Found.{found_all, none_weaker}
use Rattle.aea_copy_writer.proofs.entry.write_long.Goals as goal

-- how long the last part is, which is read into the front of the buffer
last_size : (buf : List ℕ) (last : ℕ) → last ≤ 4096 → length buf ≡ 4133 → length (take (last + 33) buf) ≡ last + 33
last_size buf last few long = omega (arith, few, long, length-take (last + 33) buf)

last_part : (buf : List ℕ) (last : ℕ) → last ≤ 4096 → length buf ≡ 4133 → length (take (last + 33) buf) - 0 - 33 ≡ last
last_part buf last few long = omega (arith, last_size buf last few long)

-- all of the piece
whole : (file gate at done last len : ℕ) (num link buf : List ℕ) (gate_after : ℕ) (c d e : Files) → 1 ≤ file → last ≤ 4096 → length buf ≡ 4133 → length num ≡ 4 → done + last ≡ len → IsThere (c 0) at done
    → ChangesFile file (Holds (gate + 1) (num ++ part_of (c 0) at done)) c d
    → ChangesFile file (Holds (gate + 5 + done) (part_of (d 0) (at + done) (length (take (last + 33) buf) - 0 - 33) ++ (link ++ gate_after ∷ []))) d e
    → ChangesFile file (Holds (gate + 1) ((num ++ part_of (c 0) at len) ++ (link ++ gate_after ∷ []))) c e
whole file gate at done last len num link buf gate_after c d e some few long four sum there front end =
    subst (λ (n : ℕ). ChangesFile file (Holds (gate + 1) ((num ++ part_of (c 0) at n) ++ (link ++ gate_after ∷ []))) c e) sum
    (put_end file (gate + 1) (gate + 5 + done) at (at + done) done last 4 num (link ++ gate_after ∷ []) c d e some four refl (omega arith) there front
    (subst (λ (n : ℕ). ChangesFile file (Holds (gate + 5 + done) (part_of (d 0) (at + done) n ++ (link ++ gate_after ∷ []))) d e) (last_part buf last few long) end))

pub returns-in_err-write_front-clause-writes : goal.returns-in_err-write_front-clause-writes
returns-in_err-write_front-clause-writes g c =
    let first = g.D.Disk.state c.args.disk.now in
    let second = g.D.Disk.state c.write_front.new.disk in
    let gate = c.args.gate in
    let done = c.args.part + (c.args.piece.now.len - c.args.part - c.min-last.result) in
    more_freely g.D.Disk.reveals _ c.args.file (gate + (37 + c.args.piece.now.len) + 1) (gate + 5 + done) (KeepsFront (gate + 1)) (KeepsFront (gate + 1)) first second (λ x y keeps. keeps) (g.met.D.Disk.smaller_fits c.args.disk.now) (omega (arith, c.min-last.ensures))
    (writes_faulted g.D.Disk.reveals first.free (FitsChange first c.args.file (gate + 5 + done)) _ _ (ChangesFile c.args.file (KeepsFront (gate + 1))) first second c.in_err-write_front.ensures.writes refl (cc))

pub returns-then-not-branch-clause-writes : goal.returns-then-not-branch-clause-writes
returns-then-not-branch-clause-writes g c =
    let first = g.D.Disk.state c.args.disk.now in
    let second = g.D.Disk.state c.write_front.new.disk in
    let gate = c.args.gate in
    let done = c.args.part + (c.args.piece.now.len - c.args.part - c.min-last.result) in
    more_freely g.D.Disk.reveals _ c.args.file (gate + (37 + c.args.piece.now.len) + 1) (gate + 5 + done) (KeepsFront (gate + 1)) (KeepsFront (gate + 1)) first second (λ x y keeps. keeps) (g.met.D.Disk.smaller_fits c.args.disk.now) (omega (arith, c.min-last.ensures))
    c.in_ok-write_front.ensures.writes

pub returns-then-not-branch-clause-short : goal.returns-then-not-branch-clause-short
returns-then-not-branch-clause-short g c = λ reveals. omega (arith, c.in_ok-write_front.ensures.short c.if-not-branch.true reveals, c.min-last.ensures)

pub returns-clause-entry : goal.returns-clause-entry
returns-clause-entry g c =
    let first = g.D.Disk.state c.args.disk.now in
    let second = g.D.Disk.state c.write_front.new.disk in
    let third = g.D.Disk.state c.put_last.new.disk in
    let piece = c.args.piece.now in
    let last = c.min-last.result in
    let done = c.args.part + (piece.len - c.args.part - last) in
    let few : last ≤ 4096 = omega (arith, c.min-last.ensures) in
    let sum : done + last ≡ piece.len = omega (arith, c.min-last.ensures) in
    let long : length c.write_front.new.buffer ≡ 4133 = c.in_ok-write_front.ensures.buffer in
    let buf = c.write_front.new.buffer in
    let e = c.in_ok-write_front.ensures in
    let end = last_part buf last few long in
    found_all c.put_last.result _ _ _ _
    (λ link there put linked reveals.
    let same : second.files 0 ≡ first.files 0 = (e.put c.if-not-branch.false reveals).others 0 (λ (no : 0 ≡ c.args.file). omega (arith, no, c.requires.file.0)) in
    record {
      there = subst (IsThere (first.files 0) piece.at) sum
          (there_both (first.files 0) piece.at done last (piece.at + done) refl (e.there c.if-not-branch.false reveals)
          (subst (λ (l : List ℕ). IsThere l (piece.at + done) last) same (subst (IsThere (second.files 0) (piece.at + done)) end (there reveals))));
      digest = subst (λ (n : ℕ). IsLinkOf c.args.hasher (part_of (first.files 0) piece.at n) link) sum
          (linked_end (first.files 0) (second.files 0) piece.at (piece.at + done) done last c.args.hasher c.write_front.new.hasher link same refl (e.taken c.if-not-branch.false reveals)
          (subst (λ (n : ℕ). IsLinkOf c.write_front.new.hasher (part_of (second.files 0) (piece.at + done) n) link) end (linked reveals)));
      step = whole c.args.file c.args.gate piece.at done last piece.len (take 4 c.args.buffer.now) link buf (gate_byte piece.more) first.files second.files third.files c.requires.file.0 few long
          (omega (arith, length-take 4 c.args.buffer.now, c.requires.buffer)) sum (e.there c.if-not-branch.false reveals) (e.put c.if-not-branch.false reveals) (put reveals);
    })
    c.put_last.ensures.there c.put_last.ensures.put c.put_last.ensures.link

pub returns-clause-short : goal.returns-clause-short
returns-clause-short g c =
    let first = g.D.Disk.state c.args.disk.now in
    let second = g.D.Disk.state c.write_front.new.disk in
    let last = c.min-last.result in
    let few : last ≤ 4096 = omega (arith, c.min-last.ensures) in
    none_weaker c.put_last.result _ _
    (λ short reveals.
    let same : second.files 0 ≡ first.files 0 = (c.in_ok-write_front.ensures.put c.if-not-branch.false reveals).others 0 (λ (no : 0 ≡ c.args.file). omega (arith, no, c.requires.file.0)) in
    omega (arith, short reveals, ap length same, last_part c.write_front.new.buffer last few c.in_ok-write_front.ensures.buffer, c.min-last.ensures))
    c.put_last.ensures.short

pub returns-clause-writes : goal.returns-clause-writes
returns-clause-writes g c =
    let reveals = g.D.Disk.reveals in
    let file = c.args.file in
    let first = g.D.Disk.state c.args.disk.now in
    let second = g.D.Disk.state c.write_front.new.disk in
    let third = g.D.Disk.state c.put_last.new.disk in
    let gate = c.args.gate in
    let last = c.min-last.result in
    let done = c.args.part + (c.args.piece.now.len - c.args.part - last) in
    let end = gate + (37 + c.args.piece.now.len) + 1 in
    let few : last ≤ 4096 = omega (arith, c.min-last.ensures) in
    let n = length (take (last + 33) c.write_front.new.buffer) in
    let size : n ≡ last + 33 = last_size c.write_front.new.buffer last few c.in_ok-write_front.ensures.buffer in
    then_more reveals _ _ file end (gate + 5 + done + n) (KeepsFront (gate + 1)) (Torn (gate + 5 + done) n) (KeepsFront (gate + 1)) first second third (ok_fine (c.in_ok-write_front.was)) (λ x y one. one)
    (λ x y z one two. front_same (gate + 1) x y z one (front_torn (gate + 1) (gate + 5 + done) n y z (omega arith) two)) (g.met.D.Disk.smaller_fits c.write_front.new.disk) (omega (arith, size, c.min-last.ensures))
    (more_freely reveals _ file end (gate + 5 + done) (KeepsFront (gate + 1)) (KeepsFront (gate + 1)) first second (λ x y keeps. keeps) (g.met.D.Disk.smaller_fits c.args.disk.now) (omega (arith, c.min-last.ensures)) c.write_front.ensures.writes)
    c.put_last.ensures.writes
