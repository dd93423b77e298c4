use Rattle.std.proofs.Common.{◌≡◌, ◌+◌, ◌-◌, ◌++◌, [], ◌∷◌, ℕ, List, length, take, sym, ap, ◌∙◌, subst}
use Rattle.std.proofs.lemmas.List.{append_assoc}
use Rattle.std.specs.Int.{w32, to_be_bytes}
use Rattle.sha2.specs.declared.Sha256.{Sha256}
use Rattle.sha2.specs.Hashers.{Holds256}
use Rattle.sha2.specs.Sha256.{sha256}
use Rattle.aea_disk.specs.Files.{Files, ChangesFile, Holds}
use Rattle.aea_copies.specs.Format.{link_after}
use Rattle.aea_copy_writer.specs.declared.entries.Written.{Written}
use Rattle.aea_copy_writer.specs.declared.entry.Piece.{Piece}
use Rattle.aea_copy_writer.specs.Parts.{part_of, gate_byte}
use Rattle.aea_copy_writer.specs.Pieces.{HasEntry, HasWhole}
use Rattle.aea_copy_writer.proofs.Found.{found_weaker}
use Rattle.aea_copy_writer.proofs.entry.write_entry.Goals as goal

-- what was written is the entry of the piece
all_of : (file : ℕ) (last : Written) (piece : Piece) (number link : List ℕ) (hasher : Sha256) (c d : Files) → number ≡ to_be_bytes w32 piece.len → Holds256 hasher (last.link ++ to_be_bytes w32 piece.len)
    → HasEntry file last.gate number piece hasher link c d → HasWhole file last piece link c d
all_of file last piece number link hasher c d is held has =
    let p = part_of (c 0) piece.at piece.len in
    let len : to_be_bytes w32 piece.len ≡ to_be_bytes w32 (length p) = ap (to_be_bytes w32) (sym has.there.all) in
    let linked : link ≡ link_after last.link p =
    has.digest (last.link ++ to_be_bytes w32 piece.len) held ∙ ap sha256 (append_assoc last.link (to_be_bytes w32 piece.len) p) ∙ ap (λ (l : List ℕ). sha256 (last.link ++ (l ++ p))) len in
    record {
      there = has.there;
      digest = linked;
      step = subst (λ (l : List ℕ). ChangesFile file (Holds (last.gate + 1) l) c d)
          (ap (λ (l : List ℕ). (l ++ p) ++ (link ++ gate_byte piece.more ∷ [])) (is ∙ len) ∙ ap (λ (l : List ℕ). (to_be_bytes w32 (length p) ++ p) ++ (l ++ gate_byte piece.more ∷ [])) linked
          ∙ regroup (to_be_bytes w32 (length p)) p (link_after last.link p) (gate_byte piece.more ∷ []))
          has.step;
    }
  where
    regroup : (a b e f : List ℕ) → (a ++ b) ++ (e ++ f) ≡ (a ++ (b ++ e)) ++ f
    regroup a b e f = simp append_assoc

pub returns-then-piece-gt4096-clause-entry : goal.returns-then-piece-gt4096-clause-entry
returns-then-piece-gt4096-clause-entry g c =
    let first = g.D.Disk.state c.args.disk.now in
    let second = g.D.Disk.state c.write_long.new.disk in
    found_weaker c.write_long.result _ _
    (λ link has reveals. all_of c.args.file c.args.last.now c.args.piece.now (take 4 c.begin-hasher.new.buffer) link c.begin-hasher.result first.files second.files c.begin-hasher.ensures.number c.begin-hasher.ensures.hashed (has reveals))
    c.write_long.ensures.entry

pub returns-clause-entry : goal.returns-clause-entry
returns-clause-entry g c =
    let first = g.D.Disk.state c.args.disk.now in
    let second = g.D.Disk.state c.write_short.new.disk in
    found_weaker c.write_short.result _ _
    (λ link has reveals. all_of c.args.file c.args.last.now c.args.piece.now (take 4 c.begin-hasher.new.buffer) link c.begin-hasher.result first.files second.files c.begin-hasher.ensures.number c.begin-hasher.ensures.hashed (has reveals))
    c.write_short.ensures.entry
