use Rattle.std.proofs.Common.{◌≢◌, inl, refl}
use Rattle.std.proofs.lemmas.Bool.{false≢true}
use Rattle.aea_disk.specs.Files.{Files, ChangesOnly}
use Rattle.aea_disk.specs.State.{IsReady}
use Rattle.aea_disk.proofs.Frames.{writes_faulted, writes_wider, writes_both, keeps_both}
use Rattle.aea_disk.proofs.Moments.{during_both, during_more}
use Rattle.aea_records.specs.Faults.{IsNoArchive}
use Rattle.aea_ledger.specs.Stops.{IsNoneOrEmpty}
use Rattle.aea_ledger.specs.Taking.{FitsTo, FitsMaking}
use Rattle.aea_ledger.proofs.Making.{fits_beginning, fits_finishing}
use Rattle.aea_ledger.proofs.Takings.{bare_begun}
use Rattle.aea_ledger.proofs.create.make.Goals as goal

pub returns-clause-any_moment : goal.returns-clause-any_moment
returns-clause-any_moment g c revealed =
    let first = g.D.Disk.state c.args.disk.now in
    let second = g.D.Disk.state c.begin.new.disk in
    let third = g.D.Disk.state c.finish.new.disk in
    let P : Files → Type 0 = λ d. IsNoneOrEmpty c.args.shape.now (d 0) in
    during_both first second third P c.begin.ensures.writes.time c.finish.ensures.writes.time
    (during_more first second (λ d. IsNoArchive (d 0)) P (λ d none. inl none) (c.begin.ensures.any_moment revealed))
    (c.finish.ensures.any_moment revealed)

pub returns-in_err-begin-clause-writes : goal.returns-in_err-begin-clause-writes
returns-in_err-begin-clause-writes g c =
    let first = g.D.Disk.state c.args.disk.now in
    writes_wider g.D.Disk.reveals (IsReady first) (FitsTo first 1 (first.files 0)) (IsReady first) (FitsMaking first c.args.shape.now) _ (ChangesOnly 0) (ChangesOnly 0) first (g.D.Disk.state c.begin.new.disk) (λ d e changes. changes)
    (λ revealed ready. ready)
    (λ revealed fit. fits_beginning first c.args.shape.now (g.met.D.Disk.smaller_fits c.args.disk.now) fit)
    (writes_faulted g.D.Disk.reveals (IsReady first) (FitsTo first 1 (first.files 0)) _ _ (ChangesOnly 0) first (g.D.Disk.state c.begin.new.disk) c.in_err-begin.ensures.writes refl (cc))

pub returns-clause-writes : goal.returns-clause-writes
returns-clause-writes g c =
    let first = g.D.Disk.state c.args.disk.now in
    let second = g.D.Disk.state c.begin.new.disk in
    let third = g.D.Disk.state c.finish.new.disk in
    writes_both g.D.Disk.reveals (IsReady first) (IsReady first) (IsReady second) (FitsMaking first c.args.shape.now) (FitsTo first 1 (first.files 0)) (FitsMaking second c.args.shape.now) _ _ (ChangesOnly 0) (ChangesOnly 0) (ChangesOnly 0) first second third false≢true
    (λ d e one. one) (λ d e f one two. keeps_both (λ k. k ≢ 0) d e f one two)
    (λ revealed ready. ready)
    (λ revealed ready step goes. (0, g.met.D.Disk.bare_taken c.begin.new.disk (first.files 0) (second.files 0) ready.0 (bare_begun (second.files 0) (c.in_ok-begin.ensures.begun revealed)) (goes 0 (first.files 0) ready.0 ready.1)))
    (λ revealed fit. fits_beginning first c.args.shape.now (g.met.D.Disk.smaller_fits c.args.disk.now) fit)
    (λ revealed fit step passes. fits_finishing first second c.args.shape.now (g.met.D.Disk.bare_kept c.args.disk.now) (c.requires.none revealed) (c.in_ok-begin.ensures.begun revealed) passes fit)
    c.in_ok-begin.ensures.writes c.finish.ensures.writes

pub returns-in_err-begin-clause-any_moment : goal.returns-in_err-begin-clause-any_moment
returns-in_err-begin-clause-any_moment g c revealed =
    let first = g.D.Disk.state c.args.disk.now in
    let second = g.D.Disk.state c.begin.new.disk in
    let P : Files → Type 0 = λ d. IsNoneOrEmpty c.args.shape.now (d 0) in
    during_more first second (λ d. IsNoArchive (d 0)) P (λ d none. inl none) (c.begin.ensures.any_moment revealed)
