use Rattle.std.proofs.Common.{◌≢◌, ◌<◌, ℕ, List, [], ◌∷◌, length, inl, refl, sym, subst, arith}
use Rattle.std.proofs.lemmas.Bool.{false≢true}
use Rattle.aea_disk.specs.Files.{Files, ChangesFile, ChangesOnly, Torn, MayBeCut, overwritten}
use Rattle.aea_disk.specs.State.{IsReady, TakesFrom}
use Rattle.aea_disk.proofs.Frames.{writes_faulted, writes_wider, writes_both, keeps_both}
use Rattle.aea_ledger.specs.Taking.{FitsTo, TakesThrough, FitsThrough}
use Rattle.aea_disk.proofs.Moments.{during_both, during_change, synced_fixed}
use Rattle.aea_records.specs.Faults.{IsNoArchive}
use Rattle.aea_ledger.proofs.Making.{fits_emptying, fits_begun}
use Rattle.aea_ledger.proofs.Takings.{bare_written, cut_bare, torn_bare}
use Rattle.aea_ledger.proofs.create.begin.Goals as goal

pub returns-in_err-empty-clause-writes : goal.returns-in_err-empty-clause-writes
returns-in_err-empty-clause-writes g c =
    let first = g.D.Disk.state c.args.disk.now in
    let second = g.D.Disk.state c.empty.new.disk in
    writes_wider g.D.Disk.reveals (TakesFrom first 0 0) (FitsTo first 0 []) (IsReady first) (FitsTo first 1 (first.files 0)) _ (ChangesFile 0 (MayBeCut 0)) (ChangesOnly 0) first second (λ d e changes. changes.others)
    (λ revealed ready. g.met.D.Disk.bare_taken c.args.disk.now (first.files 0) (first.files 0) ready.0 (c.requires.none revealed) ready.1)
    (λ revealed fit. fits_emptying first (g.met.D.Disk.bare_kept c.args.disk.now) (g.met.D.Disk.smaller_fits c.args.disk.now) (c.requires.none revealed) fit)
    (writes_faulted g.D.Disk.reveals (TakesFrom first 0 0) (FitsTo first 0 []) _ _ (ChangesFile 0 (MayBeCut 0)) first second c.in_err-empty.ensures.writes refl (cc))

pub returns-clause-writes : goal.returns-clause-writes
returns-clause-writes g c =
    let first = g.D.Disk.state c.args.disk.now in
    let second = g.D.Disk.state c.empty.new.disk in
    let third = g.D.Disk.state c.write_through.new.disk in
    writes_both g.D.Disk.reveals (IsReady first) (TakesFrom first 0 0) (TakesThrough second 0 (0 ∷ [])) (FitsTo first 1 (first.files 0)) (FitsTo first 0 []) (FitsThrough second 0 (0 ∷ [])) _ _
    (ChangesFile 0 (MayBeCut 0)) (ChangesFile 0 (Torn 0 1)) (ChangesOnly 0) first second third false≢true
    (λ d e one. one.others) (λ d e f one two. keeps_both (λ k. k ≢ 0) d e f one.others two.others)
    (λ revealed ready. g.met.D.Disk.bare_taken c.args.disk.now (first.files 0) (first.files 0) ready.0 (c.requires.none revealed) ready.1)
    (λ revealed ready step goes.
    let has = goes 0 (first.files 0) ready.0 ready.1 in
    let empty = c.in_ok-empty.ensures.emptied revealed in
    record {
      here = g.met.D.Disk.bare_taken c.empty.new.disk (first.files 0) (second.files 0) ready.0 (inl (subst (λ (l : List ℕ). length l < 18) (sym empty) (omega arith))) has;
      then = (0, g.met.D.Disk.bare_taken c.empty.new.disk (first.files 0) (overwritten (second.files 0) 0 (0 ∷ [])) ready.0 (bare_written (second.files 0) (0 ∷ []) empty (omega arith)) has);
    })
    (λ revealed fit. fits_emptying first (g.met.D.Disk.bare_kept c.args.disk.now) (g.met.D.Disk.smaller_fits c.args.disk.now) (c.requires.none revealed) fit)
    (λ revealed fit step passes. fits_begun first second (g.met.D.Disk.bare_kept c.args.disk.now) (c.requires.none revealed) (c.in_ok-empty.ensures.emptied revealed) passes fit)
    c.in_ok-empty.ensures.writes c.write_through.ensures.writes

pub returns-clause-any_moment : goal.returns-clause-any_moment
returns-clause-any_moment g c revealed =
    let first = g.D.Disk.state c.args.disk.now in
    let second = g.D.Disk.state c.empty.new.disk in
    let third = g.D.Disk.state c.write_through.new.disk in
    let P : Files → Type 0 = λ d. IsNoArchive (d 0) in
    during_both first second third P c.empty.ensures.writes.time c.write_through.ensures.writes.time
    (during_change 0 (MayBeCut 0) first second IsNoArchive c.empty.ensures.writes.crash (c.requires.fixed revealed) (λ xs cut. cut_bare (first.files 0) xs (c.requires.none revealed) cut))
    (during_change 0 (Torn 0 1) second third IsNoArchive c.write_through.ensures.writes.crash (synced_fixed second 0 (c.in_ok-empty.ensures.durable revealed)) (λ xs torn. torn_bare (second.files 0) xs (c.in_ok-empty.ensures.emptied revealed) torn))
