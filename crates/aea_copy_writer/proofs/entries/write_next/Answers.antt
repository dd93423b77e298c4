use Rattle.std.proofs.Common.{◌≡◌, ◌+◌, ◌-◌, ℕ, eqb, List, length, Option, Some, refl, ap, subst, arith}
use Rattle.aea_disk.proofs.Frames.{reads_faulted, writes_faulted, ok_fine}
use Rattle.aea_disk.specs.Files.{ChangesFile}
use Rattle.aea_copy_writer.specs.Changes.{KeepsFront, FitsChange}
use Rattle.aea_copy_writer.specs.Entries.{FitsNext}
use Rattle.aea_copy_writer.specs.Parts.{IsThere}
use Rattle.aea_copy_writer.proofs.Stretches.{read_alone, read_fits, fits_read, fits_roomy, front_none}
use Rattle.aea_copy_writer.proofs.Pieces.{first_there}
use Rattle.aea_copy_writer.proofs.Advancing.{next_has}
use Rattle.aea_copy_writer.proofs.entries.write_next.Goals as goal

same_some : {A : Type 0} {o : Option A} {a b : A} → o ≡ Some a → o ≡ Some b → a ≡ b
same_some one two = cc

pub returns-clause-next : goal.returns-clause-next
returns-clause-next g c = λ revealed piece others has.
    let first = g.D.Disk.state c.args.disk.now in
    let second = g.D.Disk.state c.next_piece.new.disk in
    let third = g.D.Disk.state c.write_entry.new.disk in
    let entry = rw c.in-Some-2.is at c.in_ok-link.ensures.entry in
    let size : c.in-Some.len ≡ length piece = same_some c.in-Some.is (c.in_ok-len.ensures.found revealed piece others has) in
    next_has c.args.file c.args.at c.args.until c.args.last.now piece c.in-Some-2.link _ _ c.from-size.result first.files second.files third.files refl size c.from-size.ensures refl (c.next_piece.ensures.reads.contents revealed)
    (first_there (eqb c.args.at 0) piece others c.args.at c.args.until (first.files 0) has) refl refl refl (entry revealed)

pub returns-clause-there : goal.returns-clause-there
returns-clause-there g c = λ revealed.
    let first = g.D.Disk.state c.args.disk.now in
    let second = g.D.Disk.state c.next_piece.new.disk in
    let entry = rw c.in-Some-2.is at c.in_ok-link.ensures.entry in
    let size : c.in-Some.len ≡ c.args.at + c.from-size.result - c.args.at = omega (arith, c.from-size.ensures) in
    subst (IsThere (first.files 0) c.args.at) size (subst (λ (f : ℕ → List ℕ). IsThere (f 0) c.args.at c.in-Some.len) (c.next_piece.ensures.reads.contents revealed) (entry revealed).there)

pub returns-in_err-len-clause-writes : goal.returns-in_err-len-clause-writes
returns-in_err-len-clause-writes g c =
    let first = g.D.Disk.state c.args.disk.now in
    let second = g.D.Disk.state c.next_piece.new.disk in
    let gate = c.args.last.now.gate in
    read_alone g.D.Disk.reveals _ (FitsNext first c.args.file c.args.at c.args.until gate) c.args.file (KeepsFront (gate + 1)) first second (g.met.D.Disk.free_taken c.args.disk.now) (λ x. front_none (gate + 1) x)
    (λ fit. fits_roomy first c.args.file (gate + (37 + length fit.piece) + 1) fit.change)
    (reads_faulted g.D.Disk.reveals _ _ first second c.in_err-len.ensures.reads refl (cc))

pub returns-in_err-link-clause-writes : goal.returns-in_err-link-clause-writes
returns-in_err-link-clause-writes g c =
    let reveals = g.D.Disk.reveals in
    let first = g.D.Disk.state c.args.disk.now in
    let second = g.D.Disk.state c.next_piece.new.disk in
    let third = g.D.Disk.state c.write_entry.new.disk in
    let gate = c.args.last.now.gate in
    let end = gate + (37 + c.in-Some.len) + 1 in
    read_fits reveals _ _ (FitsNext first c.args.file c.args.at c.args.until gate) (FitsChange second c.args.file end) c.args.file (KeepsFront (gate + 1)) first second third (ok_fine (c.in_ok-len.was)) (g.met.D.Disk.free_taken c.args.disk.now) (λ x. front_none (gate + 1) x)
    (λ fit. fits_roomy first c.args.file (gate + (37 + length fit.piece) + 1) fit.change)
    (λ revealed fit same passes. fits_read first second c.args.file (gate + (37 + length fit.piece) + 1) end (ap (λ (n : ℕ). gate + (37 + n) + 1) (same_some (c.in_ok-len.ensures.found revealed fit.piece fit.others fit.has) c.in-Some.is)) same passes fit.change)
    c.next_piece.ensures.reads
    (writes_faulted reveals second.free (FitsChange second c.args.file end) _ _ (ChangesFile c.args.file (KeepsFront (gate + 1))) second third c.in_err-link.ensures.writes refl (cc))

pub returns-in_default-2-clause-writes : goal.returns-in_default-2-clause-writes
returns-in_default-2-clause-writes g c =
    let reveals = g.D.Disk.reveals in
    let first = g.D.Disk.state c.args.disk.now in
    let second = g.D.Disk.state c.next_piece.new.disk in
    let third = g.D.Disk.state c.write_entry.new.disk in
    let gate = c.args.last.now.gate in
    let end = gate + (37 + c.in-Some.len) + 1 in
    read_fits reveals _ _ (FitsNext first c.args.file c.args.at c.args.until gate) (FitsChange second c.args.file end) c.args.file (KeepsFront (gate + 1)) first second third (ok_fine (c.in_ok-len.was)) (g.met.D.Disk.free_taken c.args.disk.now) (λ x. front_none (gate + 1) x)
    (λ fit. fits_roomy first c.args.file (gate + (37 + length fit.piece) + 1) fit.change)
    (λ revealed fit same passes. fits_read first second c.args.file (gate + (37 + length fit.piece) + 1) end (ap (λ (n : ℕ). gate + (37 + n) + 1) (same_some (c.in_ok-len.ensures.found revealed fit.piece fit.others fit.has) c.in-Some.is)) same passes fit.change)
    c.next_piece.ensures.reads c.in_ok-link.ensures.writes

pub returns-clause-writes : goal.returns-clause-writes
returns-clause-writes g c =
    let reveals = g.D.Disk.reveals in
    let first = g.D.Disk.state c.args.disk.now in
    let second = g.D.Disk.state c.next_piece.new.disk in
    let third = g.D.Disk.state c.write_entry.new.disk in
    let gate = c.args.last.now.gate in
    let end = gate + (37 + c.in-Some.len) + 1 in
    read_fits reveals _ _ (FitsNext first c.args.file c.args.at c.args.until gate) (FitsChange second c.args.file end) c.args.file (KeepsFront (gate + 1)) first second third (ok_fine (c.in_ok-len.was)) (g.met.D.Disk.free_taken c.args.disk.now) (λ x. front_none (gate + 1) x)
    (λ fit. fits_roomy first c.args.file (gate + (37 + length fit.piece) + 1) fit.change)
    (λ revealed fit same passes. fits_read first second c.args.file (gate + (37 + length fit.piece) + 1) end (ap (λ (n : ℕ). gate + (37 + n) + 1) (same_some (c.in_ok-len.ensures.found revealed fit.piece fit.others fit.has) c.in-Some.is)) same passes fit.change)
    c.next_piece.ensures.reads c.in_ok-link.ensures.writes
