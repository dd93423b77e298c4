use Rattle.std.proofs.Common.{◌+◌, ℕ, List, [], ◌∷◌, length}
use Rattle.std.proofs.lemmas.Result.{on_ok_weaker}
use Rattle.aea_disk.specs.Files.{Files, ChangesFile, Torn}
use Rattle.aea_disk.specs.State.{TakesFrom}
use Rattle.aea_disk.proofs.Moments.{during_change, during_then_kept, others_change, others_then_kept, synced_fixed}
use Rattle.aea_disk.proofs.Stays.{stays_step, stays_kept, stays_both}
use Rattle.aea_system_tests.specs.Gate.{HasOldOrNew, HasNew, TakesWrite, FitsWrite}
use Rattle.aea_system_tests.proofs.Gates.{torn_gate, old_same, not_new}
use Rattle.aea_system_tests.proofs.Surely.{sure_failed, sure_written}
use Rattle.aea_disk.proofs.Moments.{passes_both}
use Rattle.aea_system_tests.proofs.commits.gate.open_gate.Goals as goal

pub returns-in_err-write-clause-any_moment : goal.returns-in_err-write-clause-any_moment
returns-in_err-write-clause-any_moment g c revealed =
    let first = g.D.Disk.state c.args.disk.now in
    let second = g.D.Disk.state c.write.new.self in
    let body = c.args.body.now in
    during_change 0 (Torn c.args.gate 1) first second (HasOldOrNew c.args.gate body (first.files 0)) c.write.ensures.crash (c.requires.fixed revealed)
    (λ xs torn. torn_gate c.args.gate body (first.files 0) xs (c.requires.closed revealed) (c.requires.staged revealed) torn)

pub returns-in_err-write-clause-reads : goal.returns-in_err-write-clause-reads
returns-in_err-write-clause-reads g c revealed =
    torn_gate c.args.gate c.args.body.now _ _ (c.requires.closed revealed) (c.requires.staged revealed) (c.in_err-write.ensures.torn revealed).here

pub returns-clause-any_moment : goal.returns-clause-any_moment
returns-clause-any_moment g c revealed =
    let first = g.D.Disk.state c.args.disk.now in
    let second = g.D.Disk.state c.write.new.self in
    let third = g.D.Disk.state c.sync.new.self in
    let body = c.args.body.now in
    let P : Files → Type 0 = λ d. HasOldOrNew c.args.gate body (first.files 0) (d 0) in
    let written = during_change 0 (Torn c.args.gate 1) first second (HasOldOrNew c.args.gate body (first.files 0)) c.write.ensures.crash (c.requires.fixed revealed)
    (λ xs torn. torn_gate c.args.gate body (first.files 0) xs (c.requires.closed revealed) (c.requires.staged revealed) torn) in
    during_then_kept first second third P c.write.ensures.time c.sync.ensures.time c.sync.ensures.crash written

pub returns-clause-stays : goal.returns-clause-stays
returns-clause-stays g c revealed =
    let first = g.D.Disk.state c.args.disk.now in
    let second = g.D.Disk.state c.write.new.self in
    let third = g.D.Disk.state c.sync.new.self in
    let body = c.args.body.now in
    let P : Files → Type 0 = λ d. HasNew c.args.gate body (first.files 0) (d 0) in
    stays_both first second third P c.write.ensures.time c.sync.ensures.time
    (stays_step (ChangesFile 0 (Torn c.args.gate 1)) first second P c.write.ensures.crash c.write.ensures.settled
    (λ d e was new step. absurd (not_new c.args.gate body (first.files 0) (first.files 0) (d 0) (old_same c.args.gate (first.files 0) (d 0) (c.requires.closed revealed) (c.requires.fixed revealed d was)) new)) c.write.ensures.time)
    (stays_kept second third P c.sync.ensures.crash c.sync.ensures.settled c.sync.ensures.time)

pub returns-clause-fixed : goal.returns-clause-fixed
returns-clause-fixed g c =
    let third = g.D.Disk.state c.sync.new.self in
    on_ok_weaker c.sync.result (λ durable revealed. synced_fixed third 0 (durable revealed)) c.sync.ensures.durable

pub returns-clause-others : goal.returns-clause-others
returns-clause-others g c =
    let first = g.D.Disk.state c.args.disk.now in
    let second = g.D.Disk.state c.write.new.self in
    let third = g.D.Disk.state c.sync.new.self in
    others_then_kept g.D.Disk.reveals 0 first second third c.write.ensures.time c.sync.ensures.time c.sync.ensures.crash c.sync.ensures.contents
    (others_change g.D.Disk.reveals 0 (Torn c.args.gate 1) first second c.write.ensures.crash (λ revealed. (c.in_ok-write.ensures.written revealed).others))

pub returns-in_err-write-clause-stays : goal.returns-in_err-write-clause-stays
returns-in_err-write-clause-stays g c revealed =
    let first = g.D.Disk.state c.args.disk.now in
    let second = g.D.Disk.state c.write.new.self in
    let body = c.args.body.now in
    let P : Files → Type 0 = λ d. HasNew c.args.gate body (first.files 0) (d 0) in
    stays_step (ChangesFile 0 (Torn c.args.gate 1)) first second P c.write.ensures.crash c.write.ensures.settled
    (λ d e was new step. absurd (not_new c.args.gate body (first.files 0) (first.files 0) (d 0) (old_same c.args.gate (first.files 0) (d 0) (c.requires.closed revealed) (c.requires.fixed revealed d was)) new)) c.write.ensures.time

pub returns-in_err-write-clause-sure : goal.returns-in_err-write-clause-sure
returns-in_err-write-clause-sure g c =
    let first = g.D.Disk.state c.args.disk.now in
    let bytes : List ℕ = 1 ∷ [] in
    sure_failed (g.D.Disk.reveals × TakesFrom first 0 (c.args.gate)) (g.D.Disk.reveals × TakesWrite first 0 (c.args.gate) bytes) (first.room 0 (c.args.gate + length bytes)) (FitsWrite first 0 (c.args.gate) bytes) first (g.D.Disk.state c.write.new.self) c.from_residual.result (cc)
    (λ is. (is.0, is.1.here)) (λ is fit. fit.room) c.in_err-write.ensures.sure

pub returns-clause-sure : goal.returns-clause-sure
returns-clause-sure g c =
    let e = c.in_ok-write.ensures in
    sure_written g.D.Disk.reveals 0 (c.args.gate) (1 ∷ []) (g.D.Disk.state c.args.disk.now) (g.D.Disk.state c.write.new.self) (g.D.Disk.state c.sync.new.self) c.sync.result e.written e.time e.sure c.sync.ensures.sure

pub returns-clause-time : goal.returns-clause-time
returns-clause-time g c = passes_both (g.D.Disk.state c.args.disk.now) (g.D.Disk.state c.write.new.self) (g.D.Disk.state c.sync.new.self) c.write.ensures.time c.sync.ensures.time
