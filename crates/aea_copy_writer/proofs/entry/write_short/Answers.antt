use Rattle.std.proofs.Common.{◌≡◌, ◌+◌, ◌-◌, ◌≤◌, ◌++◌, [], ◌∷◌, ℕ, List, length, take, ap, ◌∙◌, subst, arith}
use Rattle.std.proofs.lemmas.List.{length-take, take-take}
use Rattle.aea_disk.specs.Files.{Files, ChangesFile, Holds, Torn}
use Rattle.aea_copy_writer.specs.Changes.{KeepsFront}
use Rattle.aea_copy_writer.specs.Parts.{part_of, IsThere, IsLinkOf, gate_byte}
use Rattle.aea_copy_writer.proofs.Stretches.{more_freely, front_torn}
use Rattle.aea_copy_writer.proofs.Found.{found_all, none_weaker}
use Rattle.aea_copy_writer.proofs.entry.write_short.Goals as goal

-- how long the part of the buffer is that is used
used : (buf : List ℕ) (len : ℕ) → len ≤ 4096 → length buf ≡ 4133 → length (take (len + 37) buf) ≡ len + 37
used buf len few long = omega (arith, few, long, length-take (len + 37) buf)

piece_size : (buf : List ℕ) (len : ℕ) → len ≤ 4096 → length buf ≡ 4133 → length (take (len + 37) buf) - 4 - 33 ≡ len
piece_size buf len few long = omega (arith, used buf len few long)

all_put : (file gate at len : ℕ) (buf link c0 : List ℕ) (end : ℕ) (c d : Files) → len ≤ 4096 → length buf ≡ 4133
    → ChangesFile file (Holds (gate + 1) ((take 4 (take (len + 37) buf) ++ part_of c0 at (length (take (len + 37) buf) - 4 - 33)) ++ (link ++ end ∷ []))) c d
    → ChangesFile file (Holds (gate + 1) ((take 4 buf ++ part_of c0 at len) ++ (link ++ end ∷ []))) c d
all_put file gate at len buf link c0 end c d few long put =
    subst (λ (l : List ℕ). ChangesFile file (Holds (gate + 1) (l ++ (link ++ end ∷ []))) c d)
    (ap (λ (l : List ℕ). l ++ part_of c0 at (length (take (len + 37) buf) - 4 - 33)) (take-take 4 (len + 37) buf (omega arith)) ∙ ap (λ (n : ℕ). take 4 buf ++ part_of c0 at n) (piece_size buf len few long))
    put

pub returns-clause-entry : goal.returns-clause-entry
returns-clause-entry g c =
    let first = g.D.Disk.state c.args.disk.now in
    let second = g.D.Disk.state c.put_last.new.disk in
    let piece = c.args.piece.now in
    let buf = c.args.buffer.now in
    let size = piece_size buf piece.len c.requires.short c.requires.buffer in
    found_all c.put_last.result _ _ _ _
    (λ link there put linked reveals. record {
      there = subst (IsThere (first.files 0) piece.at) size (there reveals);
      digest = subst (λ (n : ℕ). IsLinkOf c.args.hasher (part_of (first.files 0) piece.at n) link) size (linked reveals);
      step = all_put c.args.file c.args.gate piece.at piece.len buf link (first.files 0) (gate_byte piece.more) first.files second.files c.requires.short c.requires.buffer (put reveals);
    })
    c.put_last.ensures.there c.put_last.ensures.put c.put_last.ensures.link

pub returns-clause-short : goal.returns-clause-short
returns-clause-short g c =
    none_weaker c.put_last.result _ _ (λ short reveals. omega (arith, short reveals, piece_size c.args.buffer.now c.args.piece.now.len c.requires.short c.requires.buffer)) c.put_last.ensures.short

pub returns-clause-writes : goal.returns-clause-writes
returns-clause-writes g c =
    let first = g.D.Disk.state c.args.disk.now in
    let second = g.D.Disk.state c.put_last.new.disk in
    let gate = c.args.gate in
    let n = length (take (c.args.piece.now.len + 37) c.args.buffer.now) in
    let size : n ≡ c.args.piece.now.len + 37 = used c.args.buffer.now c.args.piece.now.len c.requires.short c.requires.buffer in
    more_freely g.D.Disk.reveals _ c.args.file (gate + (37 + c.args.piece.now.len) + 1) (gate + 1 + n) (Torn (gate + 1) n) (KeepsFront (gate + 1)) first second
    (λ x y. front_torn (gate + 1) (gate + 1) n x y (omega arith)) (g.met.D.Disk.smaller_fits c.args.disk.now) (omega (arith, size)) c.put_last.ensures.writes
