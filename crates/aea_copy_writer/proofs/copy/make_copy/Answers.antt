use Rattle.std.proofs.Common.{◌⊎◌, ⊎_elim, inl, inr, ◌-◌, refl}
use Rattle.aea_disk.specs.Files.{ChangesFile, ChangesOnly, Torn}
use Rattle.aea_disk.proofs.Frames.{writes_none, writes_as, writes_faulted, ok_fine}
use Rattle.aea_copies.specs.Format.{whole_copy}
use Rattle.aea_copy_writer.specs.Changes.{KeepsFront, FitsChange}
use Rattle.aea_copy_writer.specs.Anew.{FitsCopy}
use Rattle.aea_copy_writer.proofs.Made.{can_later, while_filled, while_opened, copy_fits_one, copy_fits_later, copy_fits_open}
use Rattle.aea_copy_writer.proofs.Pieces.{copy_some}
use Rattle.aea_copy_writer.proofs.Renewing.{torn_none_or_made, holds_made}
use Rattle.aea_copy_writer.proofs.Stretches.{only_as, only_of, only_then}
use Rattle.aea_copy_writer.proofs.copy.make_copy.Goals as goal

pub returns-then-until-eq0-clause-writes : goal.returns-then-until-eq0-clause-writes
returns-then-until-eq0-clause-writes g c =
    let first = g.D.Disk.state c.args.disk.now in
    writes_as g.D.Disk.reveals first.free (FitsCopy first c.args.file c.args.until) ⊥ _ (ChangesOnly c.args.file) first first (λ is. cc) (λ none. absurd none)
    (writes_none g.D.Disk.reveals first.free (FitsCopy first c.args.file c.args.until) (ChangesOnly c.args.file) first (λ d f other. refl))

pub returns-in_err-written-clause-any_moment : goal.returns-in_err-written-clause-any_moment
returns-in_err-written-clause-any_moment g c revealed pieces can =
    let file = c.args.file in
    let first = g.D.Disk.state c.args.disk.now in
    let second = g.D.Disk.state c.clear.new.disk in
    let third = g.D.Disk.state c.fill_copy.new.disk in
    while_filled file (whole_copy pieces) (first.files file) first second third c.clear.ensures.writes.time c.fill_copy.ensures.writes.time (c.clear.ensures.any_moment revealed) (c.in_ok-clear.ensures.cleared revealed) (c.in_ok-clear.ensures.durable revealed) c.fill_copy.ensures.writes.crash

pub returns-in_err-written-clause-writes : goal.returns-in_err-written-clause-writes
returns-in_err-written-clause-writes g c =
    let reveals = g.D.Disk.reveals in
    let file = c.args.file in
    let first = g.D.Disk.state c.args.disk.now in
    let second = g.D.Disk.state c.clear.new.disk in
    let third = g.D.Disk.state c.fill_copy.new.disk in
    only_then reveals _ _ (FitsCopy first file c.args.until) (FitsCopy second file c.args.until) file first second third (ok_fine (c.in_ok-clear.was))
    (λ revealed fit changes passes. copy_fits_later first second file c.args.until (g.met.D.Disk.smaller_fits c.clear.new.disk) (copy_some file c.requires.file) changes passes fit)
    (only_as reveals _ (FitsChange first file 1) (FitsCopy first file c.args.until) file first second (λ revealed fit. copy_fits_one first file c.args.until (g.met.D.Disk.smaller_fits c.args.disk.now) fit) c.clear.ensures.writes)
    (only_of reveals _ (FitsCopy second file c.args.until) (FitsCopy second file c.args.until) file (KeepsFront 1) second third (λ revealed fit. fit) (writes_faulted reveals second.free (FitsCopy second file c.args.until) _ _ (ChangesFile file (KeepsFront 1)) second third c.in_err-written.ensures.writes refl (cc)))

pub returns-in_default-clause-writes : goal.returns-in_default-clause-writes
returns-in_default-clause-writes g c =
    let reveals = g.D.Disk.reveals in
    let file = c.args.file in
    let first = g.D.Disk.state c.args.disk.now in
    let second = g.D.Disk.state c.clear.new.disk in
    let third = g.D.Disk.state c.fill_copy.new.disk in
    only_then reveals _ _ (FitsCopy first file c.args.until) (FitsCopy second file c.args.until) file first second third (ok_fine (c.in_ok-clear.was))
    (λ revealed fit changes passes. copy_fits_later first second file c.args.until (g.met.D.Disk.smaller_fits c.clear.new.disk) (copy_some file c.requires.file) changes passes fit)
    (only_as reveals _ (FitsChange first file 1) (FitsCopy first file c.args.until) file first second (λ revealed fit. copy_fits_one first file c.args.until (g.met.D.Disk.smaller_fits c.args.disk.now) fit) c.clear.ensures.writes)
    (only_of reveals _ (FitsCopy second file c.args.until) (FitsCopy second file c.args.until) file (KeepsFront 1) second third (λ revealed fit. fit) c.in_ok-written.ensures.writes)

pub returns-in_err-open_gate_at-clause-writes : goal.returns-in_err-open_gate_at-clause-writes
returns-in_err-open_gate_at-clause-writes g c =
    let reveals = g.D.Disk.reveals in
    let file = c.args.file in
    let first = g.D.Disk.state c.args.disk.now in
    let second = g.D.Disk.state c.clear.new.disk in
    let third = g.D.Disk.state c.fill_copy.new.disk in
    let fourth = g.D.Disk.state c.open_gate_at.new.disk in
    only_then reveals _ _ (FitsCopy first file c.args.until) (FitsChange third file 1) file first third fourth (ok_fine (c.in_ok-written.was))
    (λ revealed fit changes passes. copy_fits_open first third file c.args.until (g.met.D.Disk.smaller_fits c.fill_copy.new.disk) changes passes fit)
    (only_then reveals _ _ (FitsCopy first file c.args.until) (FitsCopy second file c.args.until) file first second third (ok_fine (c.in_ok-clear.was))
    (λ revealed fit changes passes. copy_fits_later first second file c.args.until (g.met.D.Disk.smaller_fits c.clear.new.disk) (copy_some file c.requires.file) changes passes fit)
    (only_as reveals _ (FitsChange first file 1) (FitsCopy first file c.args.until) file first second (λ revealed fit. copy_fits_one first file c.args.until (g.met.D.Disk.smaller_fits c.args.disk.now) fit) c.clear.ensures.writes)
    (only_of reveals _ (FitsCopy second file c.args.until) (FitsCopy second file c.args.until) file (KeepsFront 1) second third (λ revealed fit. fit) c.fill_copy.ensures.writes))
    (only_of reveals _ (FitsChange third file 1) (FitsChange third file 1) file (Torn 0 1) third fourth (λ revealed fit. fit) (writes_faulted reveals third.free (FitsChange third file 1) _ _ (ChangesFile file (Torn 0 1)) third fourth c.in_err-open_gate_at.ensures.writes refl (cc)))

pub returns-clause-writes : goal.returns-clause-writes
returns-clause-writes g c =
    let reveals = g.D.Disk.reveals in
    let file = c.args.file in
    let first = g.D.Disk.state c.args.disk.now in
    let second = g.D.Disk.state c.clear.new.disk in
    let third = g.D.Disk.state c.fill_copy.new.disk in
    let fourth = g.D.Disk.state c.open_gate_at.new.disk in
    only_then reveals _ _ (FitsCopy first file c.args.until) (FitsChange third file 1) file first third fourth (ok_fine (c.in_ok-written.was))
    (λ revealed fit changes passes. copy_fits_open first third file c.args.until (g.met.D.Disk.smaller_fits c.fill_copy.new.disk) changes passes fit)
    (only_then reveals _ _ (FitsCopy first file c.args.until) (FitsCopy second file c.args.until) file first second third (ok_fine (c.in_ok-clear.was))
    (λ revealed fit changes passes. copy_fits_later first second file c.args.until (g.met.D.Disk.smaller_fits c.clear.new.disk) (copy_some file c.requires.file) changes passes fit)
    (only_as reveals _ (FitsChange first file 1) (FitsCopy first file c.args.until) file first second (λ revealed fit. copy_fits_one first file c.args.until (g.met.D.Disk.smaller_fits c.args.disk.now) fit) c.clear.ensures.writes)
    (only_of reveals _ (FitsCopy second file c.args.until) (FitsCopy second file c.args.until) file (KeepsFront 1) second third (λ revealed fit. fit) c.fill_copy.ensures.writes))
    (only_of reveals _ (FitsChange third file 1) (FitsChange third file 1) file (Torn 0 1) third fourth (λ revealed fit. fit) c.in_ok-open_gate_at.ensures.writes)

pub returns-in_err-open_gate_at-clause-any_moment : goal.returns-in_err-open_gate_at-clause-any_moment
returns-in_err-open_gate_at-clause-any_moment g c revealed pieces can =
    let file = c.args.file in
    let first = g.D.Disk.state c.args.disk.now in
    let second = g.D.Disk.state c.clear.new.disk in
    let third = g.D.Disk.state c.fill_copy.new.disk in
    let fourth = g.D.Disk.state c.open_gate_at.new.disk in
    let there = can_later file pieces c.args.until first.files second.files (copy_some file c.requires.file) (c.clear.ensures.writes.contents revealed) can in
    let filled = rw c.in-Some.is at c.in_ok-written.ensures.filled in
    let durable = rw c.in-Some.is at c.in_ok-written.ensures.durable in
    while_opened file (whole_copy pieces) (first.files file) first second third fourth c.clear.ensures.writes.time c.fill_copy.ensures.writes.time c.open_gate_at.ensures.writes.time (c.clear.ensures.any_moment revealed) (c.in_ok-clear.ensures.cleared revealed) (c.in_ok-clear.ensures.durable revealed)
    c.fill_copy.ensures.writes.crash refl (filled revealed pieces there).1 (durable revealed) c.open_gate_at.ensures.writes.crash

pub returns-in_err-open_gate_at-clause-reads : goal.returns-in_err-open_gate_at-clause-reads
returns-in_err-open_gate_at-clause-reads g c revealed pieces can =
    let file = c.args.file in
    let first = g.D.Disk.state c.args.disk.now in
    let second = g.D.Disk.state c.clear.new.disk in
    let third = g.D.Disk.state c.fill_copy.new.disk in
    let fourth = g.D.Disk.state c.open_gate_at.new.disk in
    let there = can_later file pieces c.args.until first.files second.files (copy_some file c.requires.file) (c.clear.ensures.writes.contents revealed) can in
    let filled = rw c.in-Some.is at c.in_ok-written.ensures.filled in
    inr (torn_none_or_made (whole_copy pieces) (third.files file) (fourth.files file) refl (filled revealed pieces there).1 (c.open_gate_at.ensures.writes.contents revealed).here)

pub returns-clause-any_moment : goal.returns-clause-any_moment
returns-clause-any_moment g c revealed pieces can =
    let file = c.args.file in
    let first = g.D.Disk.state c.args.disk.now in
    let second = g.D.Disk.state c.clear.new.disk in
    let third = g.D.Disk.state c.fill_copy.new.disk in
    let fourth = g.D.Disk.state c.open_gate_at.new.disk in
    let there = can_later file pieces c.args.until first.files second.files (copy_some file c.requires.file) (c.clear.ensures.writes.contents revealed) can in
    let filled = rw c.in-Some.is at c.in_ok-written.ensures.filled in
    let durable = rw c.in-Some.is at c.in_ok-written.ensures.durable in
    while_opened file (whole_copy pieces) (first.files file) first second third fourth c.clear.ensures.writes.time c.fill_copy.ensures.writes.time c.open_gate_at.ensures.writes.time (c.clear.ensures.any_moment revealed) (c.in_ok-clear.ensures.cleared revealed) (c.in_ok-clear.ensures.durable revealed)
    c.fill_copy.ensures.writes.crash refl (filled revealed pieces there).1 (durable revealed) c.open_gate_at.ensures.writes.crash

pub returns-clause-reads : goal.returns-clause-reads
returns-clause-reads g c revealed pieces can =
    let file = c.args.file in
    let first = g.D.Disk.state c.args.disk.now in
    let second = g.D.Disk.state c.clear.new.disk in
    let third = g.D.Disk.state c.fill_copy.new.disk in
    let fourth = g.D.Disk.state c.open_gate_at.new.disk in
    let there = can_later file pieces c.args.until first.files second.files (copy_some file c.requires.file) (c.clear.ensures.writes.contents revealed) can in
    let filled = rw c.in-Some.is at c.in_ok-written.ensures.filled in
    inr (torn_none_or_made (whole_copy pieces) (third.files file) (fourth.files file) refl (filled revealed pieces there).1 (c.open_gate_at.ensures.writes.contents revealed).here)

pub returns-clause-made : goal.returns-clause-made
returns-clause-made g c = λ revealed pieces can.
    let file = c.args.file in
    let first = g.D.Disk.state c.args.disk.now in
    let second = g.D.Disk.state c.clear.new.disk in
    let third = g.D.Disk.state c.fill_copy.new.disk in
    let fourth = g.D.Disk.state c.open_gate_at.new.disk in
    let there = can_later file pieces c.args.until first.files second.files (copy_some file c.requires.file) (c.clear.ensures.writes.contents revealed) can in
    let filled = rw c.in-Some.is at c.in_ok-written.ensures.filled in
    let all = filled revealed pieces there in
    (all.0, holds_made (whole_copy pieces) (third.files file) (fourth.files file) refl all.1 (c.in_ok-open_gate_at.ensures.opened revealed).here)

pub returns-in_err-clear-clause-any_moment : goal.returns-in_err-clear-clause-any_moment
returns-in_err-clear-clause-any_moment g c revealed pieces can t d from to here = ⊎_elim (λ same. inl same) (λ none. inr (inl none)) (c.clear.ensures.any_moment revealed t d from to here)
