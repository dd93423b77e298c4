use Rattle.std.proofs.Common.{◌≡◌, Err, true, inl, inr, refl, sym, ap, ◌∙◌, subst}
use Rattle.std.proofs.lemmas.Result.{err_from_is_err_and}
use Rattle.aea_disk.specs.Files.{Files, KeepsFiles}
use Rattle.aea_disk.specs.State.{During}
use Rattle.aea_disk.proofs.Frames.{reads_one, reads_failed, ok_fine}
use Rattle.aea_disk.proofs.Moments.{during_then_kept}
use Rattle.aea_copies.specs.Kept.{LeavesAdopted}
use Rattle.aea_adopt.specs.Adopting.{IsSite, IsAdopted, MayBeAdopted}
use Rattle.aea_adopt.specs.Mending.{FitsAdopting}
use Rattle.aea_adopt.proofs.Answered.{answers_are_one}
use Rattle.aea_adopt.proofs.Quiet.{only_read, only_read_then}
use Rattle.aea_adopt.proofs.Stages.{fits_sync, fits_still}
use Rattle.aea_adopt.proofs.Leaving.{may_same, faulted, true_after}
use Rattle.aea_ledger.proofs.Creates.{opened}
use Rattle.aea_adopt.proofs.adopting.adopt.Goals as goal

pub returns-in_err-sync-clause-answers : goal.returns-in_err-sync-clause-answers
returns-in_err-sync-clause-answers g c revealed =
    let first = g.D.Disk.state c.args.disk.now in
    let second = g.D.Disk.state c.sync.new.self in
    faulted first.files second.files c.from_residual.result (let p = err_from_is_err_and c.from_residual.result c.from_residual.ensures.1 in p.1 ∙ ap Err p.2) (may_same first.files second.files (λ f. ap (λ (d : Files). d f) (c.in_err-sync.ensures.contents revealed)))

pub returns-in_err-sync-clause-exactly : goal.returns-in_err-sync-clause-exactly
returns-in_err-sync-clause-exactly g c revealed =
    let first = g.D.Disk.state c.args.disk.now in
    let second = g.D.Disk.state c.sync.new.self in
    answers_are_one first.files second.files c.from_residual.result (faulted first.files second.files c.from_residual.result (let p = err_from_is_err_and c.from_residual.result c.from_residual.ensures.1 in p.1 ∙ ap Err p.2) (may_same first.files second.files (λ f. ap (λ (d : Files). d f) (c.in_err-sync.ensures.contents revealed))))

pub returns-in_err-sync-clause-idle : goal.returns-in_err-sync-clause-idle
returns-in_err-sync-clause-idle g c revealed leaves =
    let first = g.D.Disk.state c.args.disk.now in
    let second = g.D.Disk.state c.sync.new.self in
    (c.in_err-sync.ensures.crash, c.in_err-sync.ensures.contents revealed)

pub returns-in_err-sync-clause-stops : goal.returns-in_err-sync-clause-stops
returns-in_err-sync-clause-stops g c revealed =
    let first = g.D.Disk.state c.args.disk.now in
    let second = g.D.Disk.state c.sync.new.self in
    inl c.in_err-sync.ensures.crash

pub returns-in_err-sync-clause-opened : goal.returns-in_err-sync-clause-opened
returns-in_err-sync-clause-opened g c fine revealed =
    absurd (fine (let p = err_from_is_err_and c.from_residual.result c.from_residual.ensures.1 in p.1 ∙ ap Err p.2))

pub returns-in_err-sync-clause-synced : goal.returns-in_err-sync-clause-synced
returns-in_err-sync-clause-synced g c fine revealed =
    absurd (fine (let p = err_from_is_err_and c.from_residual.result c.from_residual.ensures.1 in p.1 ∙ ap Err p.2))

pub returns-in_err-sync-clause-writes : goal.returns-in_err-sync-clause-writes
returns-in_err-sync-clause-writes g c =
    let first = g.D.Disk.state c.args.disk.now in
    let second = g.D.Disk.state c.sync.new.self in
    let e = c.in_err-sync.ensures in
    only_read g.D.Disk.reveals _ (FitsAdopting first) (KeepsFiles IsSite) first second (g.met.D.Disk.free_taken c.args.disk.now) (λ d f site. refl) (fits_sync first)
    (reads_failed g.D.Disk.reveals _ first second _ (refl {a = true}) (let p = err_from_is_err_and c.from_residual.result c.from_residual.ensures.1 in rw (p.1, p.2)) e.contents e.crash e.settled e.time e.cause e.sure)

pub returns-clause-answers : goal.returns-clause-answers
returns-clause-answers g c revealed =
    let first = g.D.Disk.state c.args.disk.now in
    let second = g.D.Disk.state c.sync.new.self in
    let third = g.D.Disk.state c.adopt_synced.new.disk in
    subst (λ (d : Files). IsAdopted d third.files c.adopt_synced.result) (c.in_ok-sync.ensures.contents revealed) (c.adopt_synced.ensures.answers revealed)

pub returns-clause-revealed : goal.returns-clause-revealed
returns-clause-revealed g c =
    let first = g.D.Disk.state c.args.disk.now in
    let third = g.D.Disk.state c.adopt_synced.new.disk in
    true_after g.D.Disk.reveals first.files third.files c.adopt_synced.result
    (λ revealed. subst (λ (d : Files). IsAdopted d third.files c.adopt_synced.result) (c.in_ok-sync.ensures.contents revealed) (c.adopt_synced.ensures.answers revealed))

pub returns-clause-exactly : goal.returns-clause-exactly
returns-clause-exactly g c revealed =
    let first = g.D.Disk.state c.args.disk.now in
    let second = g.D.Disk.state c.sync.new.self in
    let third = g.D.Disk.state c.adopt_synced.new.disk in
    answers_are_one first.files third.files c.adopt_synced.result (subst (λ (d : Files). IsAdopted d third.files c.adopt_synced.result) (c.in_ok-sync.ensures.contents revealed) (c.adopt_synced.ensures.answers revealed))

pub returns-clause-idle : goal.returns-clause-idle
returns-clause-idle g c revealed leaves =
    let first = g.D.Disk.state c.args.disk.now in
    let second = g.D.Disk.state c.sync.new.self in
    let third = g.D.Disk.state c.adopt_synced.new.disk in
    let same : second.files ≡ first.files = c.in_ok-sync.ensures.contents revealed in
    let idle = c.adopt_synced.ensures.idle revealed (subst (λ (d : Files). LeavesAdopted d d) (sym same) leaves) in
    (during_then_kept first second third (first.image first.moment) c.in_ok-sync.ensures.time c.adopt_synced.ensures.writes.time idle.0 c.in_ok-sync.ensures.crash, idle.1 ∙ same)

pub returns-clause-stops : goal.returns-clause-stops
returns-clause-stops g c revealed =
    let first = g.D.Disk.state c.args.disk.now in
    let second = g.D.Disk.state c.sync.new.self in
    let third = g.D.Disk.state c.adopt_synced.new.disk in
    inr
    (opened (λ (d : Files). MayBeAdopted first.files d) first second third c.in_ok-sync.ensures.time c.adopt_synced.ensures.writes.time c.in_ok-sync.ensures.crash (c.in_ok-sync.ensures.durable revealed) (c.in_ok-sync.ensures.contents revealed)
    (subst (λ (d : Files). During second third (λ e. MayBeAdopted d e)) (c.in_ok-sync.ensures.contents revealed) (c.adopt_synced.ensures.any_moment revealed)))

pub returns-clause-opened : goal.returns-clause-opened
returns-clause-opened g c _ revealed =
    let first = g.D.Disk.state c.args.disk.now in
    let second = g.D.Disk.state c.sync.new.self in
    let third = g.D.Disk.state c.adopt_synced.new.disk in
    opened (λ (d : Files). MayBeAdopted first.files d) first second third c.in_ok-sync.ensures.time c.adopt_synced.ensures.writes.time c.in_ok-sync.ensures.crash (c.in_ok-sync.ensures.durable revealed) (c.in_ok-sync.ensures.contents revealed)
    (subst (λ (d : Files). During second third (λ e. MayBeAdopted d e)) (c.in_ok-sync.ensures.contents revealed) (c.adopt_synced.ensures.any_moment revealed))

pub returns-clause-writes : goal.returns-clause-writes
returns-clause-writes g c =
    let first = g.D.Disk.state c.args.disk.now in
    let second = g.D.Disk.state c.sync.new.self in
    let third = g.D.Disk.state c.adopt_synced.new.disk in
    let e = c.sync.ensures in
    only_read_then g.D.Disk.reveals _ _ (FitsAdopting first) (FitsAdopting second) (KeepsFiles IsSite) first second third (ok_fine c.in_ok-sync.was) (g.met.D.Disk.free_taken c.args.disk.now) (λ d f site. refl) (fits_sync first)
    (λ revealed fit same passes. fits_still first second same passes fit)
    (reads_one g.D.Disk.reveals first second c.sync.result e.contents e.crash e.settled e.time e.cause e.sure) c.adopt_synced.ensures.writes
