use Rattle.std.proofs.Common.{◌≡◌, [], inr, refl, arith}
use Rattle.aea_disk.specs.Files.{Files, ChangesFile, Torn, MayBeCut}
use Rattle.aea_disk.proofs.Frames.{ok_fine, writes_faulted}
use Rattle.aea_disk.proofs.Moments.{during_both, during_change, synced_fixed}
use Rattle.aea_copy_writer.specs.Anew.{IsOldOrNone}
use Rattle.aea_copy_writer.specs.Changes.{FitsChange}
use Rattle.aea_copy_writer.proofs.Stretches.{then_more, more_freely, only_file}
use Rattle.aea_copy_writer.proofs.Renewing.{AnyStep, cut_old_or_none, torn_empty_none}
use Rattle.aea_copy_writer.proofs.anew.clear.Goals as goal

pub returns-clause-any_moment : goal.returns-clause-any_moment
returns-clause-any_moment g c revealed =
    let first = g.D.Disk.state c.args.disk.now in
    let second = g.D.Disk.state c.empty.new.disk in
    let third = g.D.Disk.state c.write_through.new.disk in
    let old = first.files c.args.file in
    let P : Files → Type 0 = λ d. IsOldOrNone old (d c.args.file) in
    let empty : second.files c.args.file ≡ [] = c.in_ok-empty.ensures.emptied revealed in
    during_both first second third P c.empty.ensures.writes.time c.write_through.ensures.writes.time
    (during_change c.args.file (MayBeCut 0) first second (IsOldOrNone old) c.empty.ensures.writes.crash (c.requires.fixed revealed) (λ xs step. cut_old_or_none old xs step))
    (during_change c.args.file (Torn 0 1) second third (IsOldOrNone old) c.write_through.ensures.writes.crash (synced_fixed second c.args.file (c.in_ok-empty.ensures.durable revealed))
    (λ xs torn. inr (torn_empty_none (second.files c.args.file) xs empty torn)))

pub returns-in_err-empty-clause-any_moment : goal.returns-in_err-empty-clause-any_moment
returns-in_err-empty-clause-any_moment g c revealed =
    let first = g.D.Disk.state c.args.disk.now in
    let second = g.D.Disk.state c.empty.new.disk in
    let old = first.files c.args.file in
    during_change c.args.file (MayBeCut 0) first second (IsOldOrNone old) c.empty.ensures.writes.crash (c.requires.fixed revealed) (λ xs step. cut_old_or_none old xs step)

pub returns-in_err-empty-clause-reads : goal.returns-in_err-empty-clause-reads
returns-in_err-empty-clause-reads g c revealed = cut_old_or_none _ _ (c.empty.ensures.writes.contents revealed).here

pub returns-clause-reads : goal.returns-clause-reads
returns-clause-reads g c revealed =
    let second = g.D.Disk.state c.empty.new.disk in
    let third = g.D.Disk.state c.write_through.new.disk in
    inr (torn_empty_none (second.files c.args.file) (third.files c.args.file) (c.in_ok-empty.ensures.emptied revealed) (c.write_through.ensures.writes.contents revealed).here)

pub returns-in_err-empty-clause-writes : goal.returns-in_err-empty-clause-writes
returns-in_err-empty-clause-writes g c =
    let first = g.D.Disk.state c.args.disk.now in
    let second = g.D.Disk.state c.empty.new.disk in
    only_file g.D.Disk.reveals _ c.args.file 1 AnyStep first second
    (more_freely g.D.Disk.reveals _ c.args.file 1 0 (MayBeCut 0) AnyStep first second (λ x y step. tt) (g.met.D.Disk.smaller_fits c.args.disk.now) (omega arith)
    (writes_faulted g.D.Disk.reveals first.free (FitsChange first c.args.file 0) _ _ (ChangesFile c.args.file (MayBeCut 0)) first second c.in_err-empty.ensures.writes refl (cc)))

pub returns-clause-writes : goal.returns-clause-writes
returns-clause-writes g c =
    let first = g.D.Disk.state c.args.disk.now in
    let second = g.D.Disk.state c.empty.new.disk in
    let third = g.D.Disk.state c.write_through.new.disk in
    only_file g.D.Disk.reveals _ c.args.file 1 AnyStep first third
    (then_more g.D.Disk.reveals _ _ c.args.file 1 1 (MayBeCut 0) (Torn 0 1) AnyStep first second third (ok_fine (c.in_ok-empty.was)) (λ x y step. tt) (λ x y z one two. tt) (g.met.D.Disk.smaller_fits c.empty.new.disk) (omega arith)
    (more_freely g.D.Disk.reveals _ c.args.file 1 0 (MayBeCut 0) (MayBeCut 0) first second (λ x y step. step) (g.met.D.Disk.smaller_fits c.args.disk.now) (omega arith) c.empty.ensures.writes)
    c.write_through.ensures.writes)
