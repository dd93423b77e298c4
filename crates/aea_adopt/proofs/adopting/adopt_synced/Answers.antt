use Rattle.std.proofs.Common.{Err, true, inl, inr, refl, ap, ◌∙◌}
use Rattle.std.proofs.lemmas.Result.{err_from_is_err_and}
use Rattle.std.proofs.lemmas.Bool.{false≢true}
use Rattle.aea_disk.specs.Files.{Files, KeepsFiles}
use Rattle.aea_disk.proofs.Frames.{reads_as, reads_faulted, reads_synced, writes_as, writes_faulted}
use Rattle.aea_disk.proofs.Moments.{during_then_kept}
use Rattle.aea_adopt.specs.Adopting.{IsSite}
use Rattle.aea_adopt.specs.Keeping.{FitsKeeping}
use Rattle.aea_adopt.specs.Mending.{FitsAdopting}
use Rattle.aea_adopt.proofs.Quiet.{only_read, only_read_then}
use Rattle.aea_adopt.proofs.Stages.{fits_sync, fits_still}
use Rattle.aea_adopt.proofs.Leaving.{may_same, faulted, adopted_quiet, adopted_then, known_still, kept_after, leaves_after, all_before}
use Rattle.aea_adopt.proofs.adopting.adopt_synced.Goals as goal

pub returns-in_err-judgement-clause-any_moment : goal.returns-in_err-judgement-clause-any_moment
returns-in_err-judgement-clause-any_moment g c revealed =
    let first = g.D.Disk.state c.args.disk.now in
    let second = g.D.Disk.state c.judge_copies.new.disk in
    adopted_quiet first second c.in_err-judgement.ensures.reads.crash (c.requires.synced revealed)

pub returns-in_err-judgement-clause-answers : goal.returns-in_err-judgement-clause-answers
returns-in_err-judgement-clause-answers g c revealed =
    let first = g.D.Disk.state c.args.disk.now in
    let second = g.D.Disk.state c.judge_copies.new.disk in
    faulted first.files second.files c.from_residual.result (let p = err_from_is_err_and c.from_residual.result c.from_residual.ensures.1 in p.1 ∙ ap Err p.2) (may_same first.files second.files (λ f. ap (λ (d : Files). d f) (c.in_err-judgement.ensures.reads.contents revealed)))

pub returns-in_err-judgement-clause-idle : goal.returns-in_err-judgement-clause-idle
returns-in_err-judgement-clause-idle g c revealed leaves =
    let first = g.D.Disk.state c.args.disk.now in
    let second = g.D.Disk.state c.judge_copies.new.disk in
    (c.in_err-judgement.ensures.reads.crash, c.in_err-judgement.ensures.reads.contents revealed)

pub returns-in_err-judgement-clause-synced : goal.returns-in_err-judgement-clause-synced
returns-in_err-judgement-clause-synced g c fine revealed =
    absurd (fine (let p = err_from_is_err_and c.from_residual.result c.from_residual.ensures.1 in p.1 ∙ ap Err p.2))

pub returns-in_err-judgement-clause-writes : goal.returns-in_err-judgement-clause-writes
returns-in_err-judgement-clause-writes g c =
    let first = g.D.Disk.state c.args.disk.now in
    let second = g.D.Disk.state c.judge_copies.new.disk in
    only_read g.D.Disk.reveals _ (FitsAdopting first) (KeepsFiles IsSite) first second (g.met.D.Disk.free_taken c.args.disk.now) (λ d f site. refl) (fits_sync first)
    (reads_faulted g.D.Disk.reveals _ _ first second c.in_err-judgement.ensures.reads refl (let p = err_from_is_err_and c.from_residual.result c.from_residual.ensures.1 in rw (p.1, p.2)))

pub returns-in-Off-clause-any_moment : goal.returns-in-Off-clause-any_moment
returns-in-Off-clause-any_moment g c revealed =
    let first = g.D.Disk.state c.args.disk.now in
    let second = g.D.Disk.state c.judge_copies.new.disk in
    adopted_quiet first second c.in_ok-judgement.ensures.reads.crash (c.requires.synced revealed)

pub returns-in-Off-clause-answers : goal.returns-in-Off-clause-answers
returns-in-Off-clause-answers g c revealed =
    let first = g.D.Disk.state c.args.disk.now in
    let second = g.D.Disk.state c.judge_copies.new.disk in
    let chosen = rw c.in-Off.is at (c.choose.ensures.chosen first.files (c.in_ok-judgement.ensures.first revealed) (c.in_ok-judgement.ensures.second revealed) (c.in_ok-judgement.ensures.differ revealed)) in
    inl (chosen, c.off.ensures.off, λ f all. ap (λ (d : Files). d f) (c.in_ok-judgement.ensures.reads.contents revealed))

pub returns-in-Off-clause-idle : goal.returns-in-Off-clause-idle
returns-in-Off-clause-idle g c revealed leaves =
    let first = g.D.Disk.state c.args.disk.now in
    let second = g.D.Disk.state c.judge_copies.new.disk in
    (c.in_ok-judgement.ensures.reads.crash, c.in_ok-judgement.ensures.reads.contents revealed)

pub returns-in-Off-clause-synced : goal.returns-in-Off-clause-synced
returns-in-Off-clause-synced g c fine revealed =
    let first = g.D.Disk.state c.args.disk.now in
    let second = g.D.Disk.state c.judge_copies.new.disk in
    reads_synced g.D.Disk.reveals _ first second revealed c.in_ok-judgement.ensures.reads (c.requires.synced revealed)

pub returns-in-Off-clause-writes : goal.returns-in-Off-clause-writes
returns-in-Off-clause-writes g c =
    let first = g.D.Disk.state c.args.disk.now in
    let second = g.D.Disk.state c.judge_copies.new.disk in
    only_read g.D.Disk.reveals _ (FitsAdopting first) (KeepsFiles IsSite) first second (g.met.D.Disk.free_taken c.args.disk.now) (λ d f site. refl) (fits_sync first)
    (reads_as g.D.Disk.reveals _ _ first second (λ is. absurd (cc)) (λ is. absurd (cc)) c.in_ok-judgement.ensures.reads)

pub returns-in-Bad-clause-any_moment : goal.returns-in-Bad-clause-any_moment
returns-in-Bad-clause-any_moment g c revealed =
    let first = g.D.Disk.state c.args.disk.now in
    let second = g.D.Disk.state c.judge_copies.new.disk in
    adopted_quiet first second c.in_ok-judgement.ensures.reads.crash (c.requires.synced revealed)

pub returns-in-Bad-clause-answers : goal.returns-in-Bad-clause-answers
returns-in-Bad-clause-answers g c revealed =
    let first = g.D.Disk.state c.args.disk.now in
    let second = g.D.Disk.state c.judge_copies.new.disk in
    let chosen = rw c.in-Bad.is at (c.choose.ensures.chosen first.files (c.in_ok-judgement.ensures.first revealed) (c.in_ok-judgement.ensures.second revealed) (c.in_ok-judgement.ensures.differ revealed)) in
    (chosen, λ f all. ap (λ (d : Files). d f) (c.in_ok-judgement.ensures.reads.contents revealed))

pub returns-in-Bad-clause-idle : goal.returns-in-Bad-clause-idle
returns-in-Bad-clause-idle g c revealed leaves =
    let first = g.D.Disk.state c.args.disk.now in
    let second = g.D.Disk.state c.judge_copies.new.disk in
    (c.in_ok-judgement.ensures.reads.crash, c.in_ok-judgement.ensures.reads.contents revealed)

pub returns-in-Bad-clause-synced : goal.returns-in-Bad-clause-synced
returns-in-Bad-clause-synced g c fine revealed =
    let first = g.D.Disk.state c.args.disk.now in
    let second = g.D.Disk.state c.judge_copies.new.disk in
    reads_synced g.D.Disk.reveals _ first second revealed c.in_ok-judgement.ensures.reads (c.requires.synced revealed)

pub returns-in-Bad-clause-writes : goal.returns-in-Bad-clause-writes
returns-in-Bad-clause-writes g c =
    let first = g.D.Disk.state c.args.disk.now in
    let second = g.D.Disk.state c.judge_copies.new.disk in
    only_read g.D.Disk.reveals _ (FitsAdopting first) (KeepsFiles IsSite) first second (g.met.D.Disk.free_taken c.args.disk.now) (λ d f site. refl) (fits_sync first)
    (reads_as g.D.Disk.reveals _ _ first second (λ is. absurd (cc)) (λ is. absurd (cc)) c.in_ok-judgement.ensures.reads)

pub returns-in-Differ-clause-any_moment : goal.returns-in-Differ-clause-any_moment
returns-in-Differ-clause-any_moment g c revealed =
    let first = g.D.Disk.state c.args.disk.now in
    let second = g.D.Disk.state c.judge_copies.new.disk in
    adopted_quiet first second c.in_ok-judgement.ensures.reads.crash (c.requires.synced revealed)

pub returns-in-Differ-clause-answers : goal.returns-in-Differ-clause-answers
returns-in-Differ-clause-answers g c revealed =
    let first = g.D.Disk.state c.args.disk.now in
    let second = g.D.Disk.state c.judge_copies.new.disk in
    let chosen = rw c.in-Differ.is at (c.choose.ensures.chosen first.files (c.in_ok-judgement.ensures.first revealed) (c.in_ok-judgement.ensures.second revealed) (c.in_ok-judgement.ensures.differ revealed)) in
    (chosen, λ f all. ap (λ (d : Files). d f) (c.in_ok-judgement.ensures.reads.contents revealed))

pub returns-in-Differ-clause-idle : goal.returns-in-Differ-clause-idle
returns-in-Differ-clause-idle g c revealed leaves =
    let first = g.D.Disk.state c.args.disk.now in
    let second = g.D.Disk.state c.judge_copies.new.disk in
    (c.in_ok-judgement.ensures.reads.crash, c.in_ok-judgement.ensures.reads.contents revealed)

pub returns-in-Differ-clause-synced : goal.returns-in-Differ-clause-synced
returns-in-Differ-clause-synced g c fine revealed =
    let first = g.D.Disk.state c.args.disk.now in
    let second = g.D.Disk.state c.judge_copies.new.disk in
    reads_synced g.D.Disk.reveals _ first second revealed c.in_ok-judgement.ensures.reads (c.requires.synced revealed)

pub returns-in-Differ-clause-writes : goal.returns-in-Differ-clause-writes
returns-in-Differ-clause-writes g c =
    let first = g.D.Disk.state c.args.disk.now in
    let second = g.D.Disk.state c.judge_copies.new.disk in
    only_read g.D.Disk.reveals _ (FitsAdopting first) (KeepsFiles IsSite) first second (g.met.D.Disk.free_taken c.args.disk.now) (λ d f site. refl) (fits_sync first)
    (reads_as g.D.Disk.reveals _ _ first second (λ is. absurd (cc)) (λ is. absurd (cc)) c.in_ok-judgement.ensures.reads)

pub keep-requires-clause-source : goal.keep-requires-clause-source
keep-requires-clause-source g c =
    (rw c.in-Keep.is at c.choose.ensures.close).0

pub keep-requires-clause-close : goal.keep-requires-clause-close
keep-requires-clause-close g c =
    (rw c.in-Keep.is at c.choose.ensures.close).1.0

pub adopted_of-requires : goal.adopted_of-requires
adopted_of-requires g c = record {
  close = (rw c.in-Keep.is at c.choose.ensures.close).1;
}

pub keep-requires-clause-known : goal.keep-requires-clause-known
keep-requires-clause-known g c revealed =
    let first = g.D.Disk.state c.args.disk.now in
    let second = g.D.Disk.state c.judge_copies.new.disk in
    let chosen = rw c.in-Keep.is at (c.choose.ensures.chosen first.files (c.in_ok-judgement.ensures.first revealed) (c.in_ok-judgement.ensures.second revealed) (c.in_ok-judgement.ensures.differ revealed)) in
    let known = known_still chosen.0 first.files second.files c.in_ok-judgement.judgement c.in-Keep.kept (c.in_ok-judgement.ensures.reads.contents revealed) chosen.1 (c.in_ok-judgement.ensures.first revealed) (c.in_ok-judgement.ensures.second revealed) in
    (chosen.0, known)

pub keep-requires-clause-synced : goal.keep-requires-clause-synced
keep-requires-clause-synced g c revealed =
    let first = g.D.Disk.state c.args.disk.now in
    let second = g.D.Disk.state c.judge_copies.new.disk in
    reads_synced g.D.Disk.reveals _ first second revealed c.in_ok-judgement.ensures.reads (c.requires.synced revealed)

pub returns-in_err-keep-in-Keep-clause-any_moment : goal.returns-in_err-keep-in-Keep-clause-any_moment
returns-in_err-keep-in-Keep-clause-any_moment g c revealed =
    let first = g.D.Disk.state c.args.disk.now in
    let second = g.D.Disk.state c.judge_copies.new.disk in
    let third = g.D.Disk.state c.keep.new.disk in
    let chosen = rw c.in-Keep.is at (c.choose.ensures.chosen first.files (c.in_ok-judgement.ensures.first revealed) (c.in_ok-judgement.ensures.second revealed) (c.in_ok-judgement.ensures.differ revealed)) in
    let known = known_still chosen.0 first.files second.files c.in_ok-judgement.judgement c.in-Keep.kept (c.in_ok-judgement.ensures.reads.contents revealed) chosen.1 (c.in_ok-judgement.ensures.first revealed) (c.in_ok-judgement.ensures.second revealed) in
    adopted_then chosen.0 first second third c.in_ok-judgement.ensures.reads.time c.keep.ensures.writes.time c.in_ok-judgement.ensures.reads.crash (c.requires.synced revealed) (c.in_ok-judgement.ensures.reads.contents revealed) chosen.1.kept (c.keep.ensures.any_moment revealed chosen.0 known)

pub returns-in_err-keep-in-Keep-clause-answers : goal.returns-in_err-keep-in-Keep-clause-answers
returns-in_err-keep-in-Keep-clause-answers g c revealed =
    let first = g.D.Disk.state c.args.disk.now in
    let second = g.D.Disk.state c.judge_copies.new.disk in
    let third = g.D.Disk.state c.keep.new.disk in
    let chosen = rw c.in-Keep.is at (c.choose.ensures.chosen first.files (c.in_ok-judgement.ensures.first revealed) (c.in_ok-judgement.ensures.second revealed) (c.in_ok-judgement.ensures.differ revealed)) in
    let known = known_still chosen.0 first.files second.files c.in_ok-judgement.judgement c.in-Keep.kept (c.in_ok-judgement.ensures.reads.contents revealed) chosen.1 (c.in_ok-judgement.ensures.first revealed) (c.in_ok-judgement.ensures.second revealed) in
    faulted first.files third.files c.from_residual-in_err-keep-in-Keep.result (let p = err_from_is_err_and c.from_residual-in_err-keep-in-Keep.result c.from_residual-in_err-keep-in-Keep.ensures.1 in p.1 ∙ ap Err p.2) (kept_after chosen.0 first.files second.files third.files (c.in_ok-judgement.ensures.reads.contents revealed) chosen.1.kept (c.keep.ensures.reads revealed chosen.0 known))

pub returns-in_err-keep-in-Keep-clause-synced : goal.returns-in_err-keep-in-Keep-clause-synced
returns-in_err-keep-in-Keep-clause-synced g c fine revealed =
    absurd (fine (let p = err_from_is_err_and c.from_residual-in_err-keep-in-Keep.result c.from_residual-in_err-keep-in-Keep.ensures.1 in p.1 ∙ ap Err p.2))

pub returns-in_err-keep-in-Keep-clause-idle : goal.returns-in_err-keep-in-Keep-clause-idle
returns-in_err-keep-in-Keep-clause-idle g c revealed leaves =
    let first = g.D.Disk.state c.args.disk.now in
    let second = g.D.Disk.state c.judge_copies.new.disk in
    let third = g.D.Disk.state c.keep.new.disk in
    let chosen = rw c.in-Keep.is at (c.choose.ensures.chosen first.files (c.in_ok-judgement.ensures.first revealed) (c.in_ok-judgement.ensures.second revealed) (c.in_ok-judgement.ensures.differ revealed)) in
    let known = known_still chosen.0 first.files second.files c.in_ok-judgement.judgement c.in-Keep.kept (c.in_ok-judgement.ensures.reads.contents revealed) chosen.1 (c.in_ok-judgement.ensures.first revealed) (c.in_ok-judgement.ensures.second revealed) in
    let idle = c.keep.ensures.idle revealed chosen.0 known (all_before chosen.0 first.files second.files (c.in_ok-judgement.ensures.reads.contents revealed) chosen.1.kept leaves) in
    (during_then_kept first second third (first.image first.moment) c.in_ok-judgement.ensures.reads.time c.keep.ensures.writes.time idle.0 c.in_ok-judgement.ensures.reads.crash, idle.1 ∙ c.in_ok-judgement.ensures.reads.contents revealed)

pub returns-in_err-keep-in-Keep-clause-writes : goal.returns-in_err-keep-in-Keep-clause-writes
returns-in_err-keep-in-Keep-clause-writes g c =
    let first = g.D.Disk.state c.args.disk.now in
    let second = g.D.Disk.state c.judge_copies.new.disk in
    let third = g.D.Disk.state c.keep.new.disk in
    let late = FitsKeeping second c.in_ok-judgement.judgement c.in-Keep.kept in
    only_read_then g.D.Disk.reveals _ _ (FitsAdopting first) late (KeepsFiles IsSite) first second third false≢true (g.met.D.Disk.free_taken c.args.disk.now) (λ d f site. refl) (fits_sync first)
    (λ revealed fit same passes.
    let chosen = rw c.in-Keep.is at (c.choose.ensures.chosen first.files (c.in_ok-judgement.ensures.first revealed) (c.in_ok-judgement.ensures.second revealed) (c.in_ok-judgement.ensures.differ revealed)) in
    let known = known_still chosen.0 first.files second.files c.in_ok-judgement.judgement c.in-Keep.kept (c.in_ok-judgement.ensures.reads.contents revealed) chosen.1 (c.in_ok-judgement.ensures.first revealed) (c.in_ok-judgement.ensures.second revealed) in
    record { pieces = chosen.0; known = known; fit = fits_still first second same passes fit })
    c.in_ok-judgement.ensures.reads
    (writes_faulted g.D.Disk.reveals second.free late _ _ (KeepsFiles IsSite) second third c.in_err-keep-in-Keep.ensures.writes (refl {a = true}) (let p = err_from_is_err_and c.from_residual-in_err-keep-in-Keep.result c.from_residual-in_err-keep-in-Keep.ensures.1 in rw (p.1, p.2)))

pub returns-in_ok-keep-in-Keep-clause-any_moment : goal.returns-in_ok-keep-in-Keep-clause-any_moment
returns-in_ok-keep-in-Keep-clause-any_moment g c revealed =
    let first = g.D.Disk.state c.args.disk.now in
    let second = g.D.Disk.state c.judge_copies.new.disk in
    let third = g.D.Disk.state c.keep.new.disk in
    let chosen = rw c.in-Keep.is at (c.choose.ensures.chosen first.files (c.in_ok-judgement.ensures.first revealed) (c.in_ok-judgement.ensures.second revealed) (c.in_ok-judgement.ensures.differ revealed)) in
    let known = known_still chosen.0 first.files second.files c.in_ok-judgement.judgement c.in-Keep.kept (c.in_ok-judgement.ensures.reads.contents revealed) chosen.1 (c.in_ok-judgement.ensures.first revealed) (c.in_ok-judgement.ensures.second revealed) in
    adopted_then chosen.0 first second third c.in_ok-judgement.ensures.reads.time c.keep.ensures.writes.time c.in_ok-judgement.ensures.reads.crash (c.requires.synced revealed) (c.in_ok-judgement.ensures.reads.contents revealed) chosen.1.kept (c.keep.ensures.any_moment revealed chosen.0 known)

pub returns-in_ok-keep-in-Keep-clause-answers : goal.returns-in_ok-keep-in-Keep-clause-answers
returns-in_ok-keep-in-Keep-clause-answers g c revealed =
    let first = g.D.Disk.state c.args.disk.now in
    let second = g.D.Disk.state c.judge_copies.new.disk in
    let third = g.D.Disk.state c.keep.new.disk in
    let chosen = rw c.in-Keep.is at (c.choose.ensures.chosen first.files (c.in_ok-judgement.ensures.first revealed) (c.in_ok-judgement.ensures.second revealed) (c.in_ok-judgement.ensures.differ revealed)) in
    let known = known_still chosen.0 first.files second.files c.in_ok-judgement.judgement c.in-Keep.kept (c.in_ok-judgement.ensures.reads.contents revealed) chosen.1 (c.in_ok-judgement.ensures.first revealed) (c.in_ok-judgement.ensures.second revealed) in
    inr (chosen.0, chosen.1.kept, c.adopted_of.ensures.revealed first.files chosen.0 chosen.1, leaves_after chosen.0 first.files second.files third.files (c.in_ok-judgement.ensures.reads.contents revealed) chosen.1.kept (c.in_ok-keep-in-Keep.ensures.kept revealed chosen.0 known))

pub returns-in_ok-keep-in-Keep-clause-synced : goal.returns-in_ok-keep-in-Keep-clause-synced
returns-in_ok-keep-in-Keep-clause-synced g c fine revealed =
    c.in_ok-keep-in-Keep.ensures.durable revealed

pub returns-in_ok-keep-in-Keep-clause-idle : goal.returns-in_ok-keep-in-Keep-clause-idle
returns-in_ok-keep-in-Keep-clause-idle g c revealed leaves =
    let first = g.D.Disk.state c.args.disk.now in
    let second = g.D.Disk.state c.judge_copies.new.disk in
    let third = g.D.Disk.state c.keep.new.disk in
    let chosen = rw c.in-Keep.is at (c.choose.ensures.chosen first.files (c.in_ok-judgement.ensures.first revealed) (c.in_ok-judgement.ensures.second revealed) (c.in_ok-judgement.ensures.differ revealed)) in
    let known = known_still chosen.0 first.files second.files c.in_ok-judgement.judgement c.in-Keep.kept (c.in_ok-judgement.ensures.reads.contents revealed) chosen.1 (c.in_ok-judgement.ensures.first revealed) (c.in_ok-judgement.ensures.second revealed) in
    let idle = c.keep.ensures.idle revealed chosen.0 known (all_before chosen.0 first.files second.files (c.in_ok-judgement.ensures.reads.contents revealed) chosen.1.kept leaves) in
    (during_then_kept first second third (first.image first.moment) c.in_ok-judgement.ensures.reads.time c.keep.ensures.writes.time idle.0 c.in_ok-judgement.ensures.reads.crash, idle.1 ∙ c.in_ok-judgement.ensures.reads.contents revealed)

pub returns-in_ok-keep-in-Keep-clause-writes : goal.returns-in_ok-keep-in-Keep-clause-writes
returns-in_ok-keep-in-Keep-clause-writes g c =
    let first = g.D.Disk.state c.args.disk.now in
    let second = g.D.Disk.state c.judge_copies.new.disk in
    let third = g.D.Disk.state c.keep.new.disk in
    let late = FitsKeeping second c.in_ok-judgement.judgement c.in-Keep.kept in
    only_read_then g.D.Disk.reveals _ _ (FitsAdopting first) late (KeepsFiles IsSite) first second third false≢true (g.met.D.Disk.free_taken c.args.disk.now) (λ d f site. refl) (fits_sync first)
    (λ revealed fit same passes.
    let chosen = rw c.in-Keep.is at (c.choose.ensures.chosen first.files (c.in_ok-judgement.ensures.first revealed) (c.in_ok-judgement.ensures.second revealed) (c.in_ok-judgement.ensures.differ revealed)) in
    let known = known_still chosen.0 first.files second.files c.in_ok-judgement.judgement c.in-Keep.kept (c.in_ok-judgement.ensures.reads.contents revealed) chosen.1 (c.in_ok-judgement.ensures.first revealed) (c.in_ok-judgement.ensures.second revealed) in
    record { pieces = chosen.0; known = known; fit = fits_still first second same passes fit })
    c.in_ok-judgement.ensures.reads
    (writes_as g.D.Disk.reveals second.free late _ _ (KeepsFiles IsSite) second third (λ is. absurd (cc)) (λ is. absurd (cc)) c.in_ok-keep-in-Keep.ensures.writes)
