use Rattle.std.proofs.Common.{◌≡◌, ◌+◌, ◌-◌, true, [], ◌∷◌, ◌++◌, refl, sym, ap, ◌∙◌, subst, arith}
use Rattle.aea_disk.specs.Files.{Files, ChangesFile, Torn}
use Rattle.aea_disk.proofs.Frames.{writes_faulted, ok_fine, reads_failed, reads_made}
use Rattle.aea_copies.specs.Format.{copy_mark, first_link}
use Rattle.aea_copy_writer.specs.Changes.{KeepsFront}
use Rattle.aea_copy_writer.specs.Anew.{FitsCopy}
use Rattle.aea_copy_writer.specs.Entries.{HasPieces, FitsEntries}
use Rattle.aea_copy_writer.proofs.Made.{closed_copy, length-copied, copy_fits_front, copy_fits_entries, copy_roomy}
use Rattle.aea_copy_writer.proofs.Pieces.{copy_some}
use Rattle.aea_copy_writer.proofs.Stretches.{one_write, failed_write, fits_as, more_freely, then_fits, then_reads, front_torn, front_same, front_less}
use Rattle.aea_copy_writer.proofs.copy.fill_copy.Goals as goal

pub returns-clause-filled : goal.returns-clause-filled
returns-clause-filled g c = λ revealed pieces can.
    let file = c.args.file in
    let first = g.D.Disk.state c.args.disk.now in
    let second = g.D.Disk.state c.write.new.self in
    let third = g.D.Disk.state c.write_entries.new.disk in
    let put = c.in_ok-write.ensures.written revealed in
    let same : second.files 0 ≡ first.files 0 = put.others 0 (λ (no : 0 ≡ file). omega (arith, no, copy_some file c.requires.file)) in
    let written = rw c.in-Some.is at c.in_ok-written.ensures.written in
    let has = written revealed pieces (subst (HasPieces true pieces 0 c.args.until) (sym same) can.has) (omega (arith, can.within, length-copied pieces)) in (
      record { gate = omega (arith, has.place, length-copied pieces); link = has.last },
      ap (λ (d : Files). d file) (c.in_ok-sync.ensures.contents revealed) ∙ closed_copy pieces (first.files file) (second.files file) (third.files file) can.some (c.requires.begun revealed) put.here has.step.here,
    )

pub returns-in_err-write-clause-writes : goal.returns-in_err-write-clause-writes
returns-in_err-write-clause-writes g c =
    let file = c.args.file in
    let first = g.D.Disk.state c.args.disk.now in
    let second = g.D.Disk.state c.write.new.self in
    let e = c.in_err-write.ensures in
    fits_as g.D.Disk.reveals _ (FitsCopy first file c.args.until) file 10 (KeepsFront 1) first second (λ revealed fit. copy_fits_front first file c.args.until (g.met.D.Disk.smaller_fits c.args.disk.now) fit)
    (more_freely g.D.Disk.reveals _ file 10 10 (Torn 1 9) (KeepsFront 1) first second (λ x y. front_torn 1 1 9 x y (omega arith)) (g.met.D.Disk.smaller_fits c.args.disk.now) (omega arith)
    (failed_write g.D.Disk.reveals _ file 1 (copy_mark ++ 1 ∷ []) first second _ (g.met.D.Disk.free_taken c.args.disk.now) refl (cc) e.written e.torn e.crash e.settled e.time e.cause e.sure))

pub returns-in_err-written-clause-writes : goal.returns-in_err-written-clause-writes
returns-in_err-written-clause-writes g c =
    let reveals = g.D.Disk.reveals in
    let file = c.args.file in
    let first = g.D.Disk.state c.args.disk.now in
    let second = g.D.Disk.state c.write.new.self in
    let third = g.D.Disk.state c.write_entries.new.disk in
    let e = c.in_ok-write.ensures in
    then_fits reveals _ _ (FitsCopy first file c.args.until) (FitsEntries second file 9 first_link 0 c.args.until) file (KeepsFront 1) (KeepsFront 10) (KeepsFront 1) first second third (ok_fine (c.in_ok-write.was)) (λ x y one. one)
    (λ x y z one two. front_same 1 x y z one (front_less 1 10 y z (omega arith) two))
    (λ revealed fit step passes. copy_fits_entries first second file c.args.until (g.met.D.Disk.smaller_fits c.write.new.self) (copy_some file c.requires.file) step.others passes fit)
    (fits_as reveals _ (FitsCopy first file c.args.until) file 10 (KeepsFront 1) first second (λ revealed fit. copy_fits_front first file c.args.until (g.met.D.Disk.smaller_fits c.args.disk.now) fit)
    (more_freely reveals _ file 10 10 (Torn 1 9) (KeepsFront 1) first second (λ x y. front_torn 1 1 9 x y (omega arith)) (g.met.D.Disk.smaller_fits c.args.disk.now) (omega arith)
    (one_write reveals file 1 (copy_mark ++ 1 ∷ []) first second c.write.result (g.met.D.Disk.free_taken c.args.disk.now) c.write.ensures.written c.write.ensures.torn c.write.ensures.crash c.write.ensures.settled c.write.ensures.time c.write.ensures.cause c.write.ensures.sure)))
    (writes_faulted reveals second.free (FitsEntries second file 9 first_link 0 c.args.until) _ _ (ChangesFile file (KeepsFront 10)) second third c.in_err-written.ensures.writes refl (cc))

pub returns-in_default-clause-writes : goal.returns-in_default-clause-writes
returns-in_default-clause-writes g c =
    let reveals = g.D.Disk.reveals in
    let file = c.args.file in
    let first = g.D.Disk.state c.args.disk.now in
    let second = g.D.Disk.state c.write.new.self in
    let third = g.D.Disk.state c.write_entries.new.disk in
    then_fits reveals _ _ (FitsCopy first file c.args.until) (FitsEntries second file 9 first_link 0 c.args.until) file (KeepsFront 1) (KeepsFront 10) (KeepsFront 1) first second third (ok_fine (c.in_ok-write.was)) (λ x y one. one)
    (λ x y z one two. front_same 1 x y z one (front_less 1 10 y z (omega arith) two))
    (λ revealed fit step passes. copy_fits_entries first second file c.args.until (g.met.D.Disk.smaller_fits c.write.new.self) (copy_some file c.requires.file) step.others passes fit)
    (fits_as reveals _ (FitsCopy first file c.args.until) file 10 (KeepsFront 1) first second (λ revealed fit. copy_fits_front first file c.args.until (g.met.D.Disk.smaller_fits c.args.disk.now) fit)
    (more_freely reveals _ file 10 10 (Torn 1 9) (KeepsFront 1) first second (λ x y. front_torn 1 1 9 x y (omega arith)) (g.met.D.Disk.smaller_fits c.args.disk.now) (omega arith)
    (one_write reveals file 1 (copy_mark ++ 1 ∷ []) first second c.write.result (g.met.D.Disk.free_taken c.args.disk.now) c.write.ensures.written c.write.ensures.torn c.write.ensures.crash c.write.ensures.settled c.write.ensures.time c.write.ensures.cause c.write.ensures.sure)))
    c.in_ok-written.ensures.writes

pub returns-in_err-sync-clause-writes : goal.returns-in_err-sync-clause-writes
returns-in_err-sync-clause-writes g c =
    let reveals = g.D.Disk.reveals in
    let file = c.args.file in
    let first = g.D.Disk.state c.args.disk.now in
    let second = g.D.Disk.state c.write.new.self in
    let third = g.D.Disk.state c.write_entries.new.disk in
    let fourth = g.D.Disk.state c.sync.new.self in
    let s = c.in_err-sync.ensures in
    then_reads reveals _ _ (FitsCopy first file c.args.until) file (KeepsFront 1) first third fourth (ok_fine (c.in_ok-written.was)) (g.met.D.Disk.free_taken c.write_entries.new.disk)
    (λ revealed fit step passes. copy_roomy first third file c.args.until step.others passes fit)
    (then_fits reveals _ _ (FitsCopy first file c.args.until) (FitsEntries second file 9 first_link 0 c.args.until) file (KeepsFront 1) (KeepsFront 10) (KeepsFront 1) first second third (ok_fine (c.in_ok-write.was)) (λ x y one. one)
    (λ x y z one two. front_same 1 x y z one (front_less 1 10 y z (omega arith) two))
    (λ revealed fit step passes. copy_fits_entries first second file c.args.until (g.met.D.Disk.smaller_fits c.write.new.self) (copy_some file c.requires.file) step.others passes fit)
    (fits_as reveals _ (FitsCopy first file c.args.until) file 10 (KeepsFront 1) first second (λ revealed fit. copy_fits_front first file c.args.until (g.met.D.Disk.smaller_fits c.args.disk.now) fit)
    (more_freely reveals _ file 10 10 (Torn 1 9) (KeepsFront 1) first second (λ x y. front_torn 1 1 9 x y (omega arith)) (g.met.D.Disk.smaller_fits c.args.disk.now) (omega arith)
    (one_write reveals file 1 (copy_mark ++ 1 ∷ []) first second c.write.result (g.met.D.Disk.free_taken c.args.disk.now) c.write.ensures.written c.write.ensures.torn c.write.ensures.crash c.write.ensures.settled c.write.ensures.time c.write.ensures.cause c.write.ensures.sure)))
    c.write_entries.ensures.writes)
    (reads_failed reveals _ third fourth _ refl (cc) s.contents s.crash s.settled s.time s.cause s.sure)

pub returns-clause-writes : goal.returns-clause-writes
returns-clause-writes g c =
    let reveals = g.D.Disk.reveals in
    let file = c.args.file in
    let first = g.D.Disk.state c.args.disk.now in
    let second = g.D.Disk.state c.write.new.self in
    let third = g.D.Disk.state c.write_entries.new.disk in
    let fourth = g.D.Disk.state c.sync.new.self in
    let s = c.in_ok-sync.ensures in
    then_reads reveals _ _ (FitsCopy first file c.args.until) file (KeepsFront 1) first third fourth (ok_fine (c.in_ok-written.was)) (g.met.D.Disk.free_taken c.write_entries.new.disk)
    (λ revealed fit step passes. copy_roomy first third file c.args.until step.others passes fit)
    (then_fits reveals _ _ (FitsCopy first file c.args.until) (FitsEntries second file 9 first_link 0 c.args.until) file (KeepsFront 1) (KeepsFront 10) (KeepsFront 1) first second third (ok_fine (c.in_ok-write.was)) (λ x y one. one)
    (λ x y z one two. front_same 1 x y z one (front_less 1 10 y z (omega arith) two))
    (λ revealed fit step passes. copy_fits_entries first second file c.args.until (g.met.D.Disk.smaller_fits c.write.new.self) (copy_some file c.requires.file) step.others passes fit)
    (fits_as reveals _ (FitsCopy first file c.args.until) file 10 (KeepsFront 1) first second (λ revealed fit. copy_fits_front first file c.args.until (g.met.D.Disk.smaller_fits c.args.disk.now) fit)
    (more_freely reveals _ file 10 10 (Torn 1 9) (KeepsFront 1) first second (λ x y. front_torn 1 1 9 x y (omega arith)) (g.met.D.Disk.smaller_fits c.args.disk.now) (omega arith)
    (one_write reveals file 1 (copy_mark ++ 1 ∷ []) first second c.write.result (g.met.D.Disk.free_taken c.args.disk.now) c.write.ensures.written c.write.ensures.torn c.write.ensures.crash c.write.ensures.settled c.write.ensures.time c.write.ensures.cause c.write.ensures.sure)))
    c.write_entries.ensures.writes)
    (reads_made reveals _ third fourth _ refl (λ is. cc) s.contents s.crash s.settled s.time s.cause s.sure)
