use Rattle.std.proofs.Common.{refl, inr, sym, ap, subst}
use Rattle.std.proofs.lemmas.Result.{err_from_is_err_and}
use Rattle.std.proofs.lemmas.Bool.{false≢true}
use Rattle.aea_disk.specs.Files.{Files, ChangesOnly}
use Rattle.aea_disk.specs.State.{IsReady}
use Rattle.aea_ledger.specs.Taking.{FitsMaking}
use Rattle.aea_disk.proofs.Frames.{reads_as, reads_faulted, reads_writes, writes_as, writes_faulted, reads_then_writes}
use Rattle.aea_ledger.proofs.Making.{roomy_making, fits_later}
use Rattle.aea_ledger.proofs.Creates.{no_header, opened_making, opened_occupied}
use Rattle.aea_ledger.proofs.create.create_ledger.Goals as goal

pub returns-then-branch-clause-opened : goal.returns-then-branch-clause-opened
returns-then-branch-clause-opened g c _ revealed =
    let e = c.in_ok-is_occupied.ensures in
    opened_occupied c.args.shape.now (g.D.Disk.state c.args.disk.now) (g.D.Disk.state c.is_occupied.new.disk) e.reads.time e.reads.crash (e.durable revealed) (e.reads.contents revealed) ((e.occupied revealed).0 c.if-branch.true)

pub returns-in_err-make-clause-stops : goal.returns-in_err-make-clause-stops
returns-in_err-make-clause-stops g c revealed =
    let first = g.D.Disk.state c.args.disk.now in
    let e = c.in_ok-is_occupied.ensures in
    inr (opened_making c.args.shape.now first (g.D.Disk.state c.is_occupied.new.disk) (g.D.Disk.state c.make.new.disk) e.reads.time c.make.ensures.writes.time e.reads.crash (e.durable revealed) (e.reads.contents revealed)
    (no_header (first.files 0) c.in_ok-is_occupied.field-0 c.if-branch.false (e.occupied revealed)) c.make.ensures.writes.crash (c.make.ensures.any_moment revealed))

pub returns-in_err-make-clause-writes : goal.returns-in_err-make-clause-writes
returns-in_err-make-clause-writes g c =
    let first = g.D.Disk.state c.args.disk.now in
    let second = g.D.Disk.state c.is_occupied.new.disk in
    let third = g.D.Disk.state c.make.new.disk in
    reads_then_writes g.D.Disk.reveals (IsReady first) (IsReady second) (FitsMaking first c.args.shape.now) (FitsMaking second c.args.shape.now) _ _ (ChangesOnly 0) first second third false≢true (λ d f other. refl)
    (λ ready. ready) (λ revealed ready same goes. (ready.0, subst (λ (f : Files). second.takes 0 (f 0) ready.0) (sym same) (goes 0 (first.files 0) ready.0 ready.1)))
    (λ fit. roomy_making first c.args.shape.now fit) (λ revealed fit same passes. fits_later first second c.args.shape.now (ap (λ (f : Files). f 0) same) passes fit)
    c.in_ok-is_occupied.ensures.reads (writes_faulted g.D.Disk.reveals (IsReady second) (FitsMaking second c.args.shape.now) _ _ (ChangesOnly 0) second third c.in_err-make.ensures.writes refl (let p = err_from_is_err_and c.from_residual-in_err-make.result c.from_residual-in_err-make.ensures.1 in rw (p.1, p.2)))

pub returns-clause-stops : goal.returns-clause-stops
returns-clause-stops g c revealed =
    let first = g.D.Disk.state c.args.disk.now in
    let e = c.in_ok-is_occupied.ensures in
    inr (opened_making c.args.shape.now first (g.D.Disk.state c.is_occupied.new.disk) (g.D.Disk.state c.make.new.disk) e.reads.time c.make.ensures.writes.time e.reads.crash (e.durable revealed) (e.reads.contents revealed)
    (no_header (first.files 0) c.in_ok-is_occupied.field-0 c.if-branch.false (e.occupied revealed)) c.make.ensures.writes.crash (c.make.ensures.any_moment revealed))

pub returns-clause-opened : goal.returns-clause-opened
returns-clause-opened g c _ revealed =
    let first = g.D.Disk.state c.args.disk.now in
    let e = c.in_ok-is_occupied.ensures in
    opened_making c.args.shape.now first (g.D.Disk.state c.is_occupied.new.disk) (g.D.Disk.state c.make.new.disk) e.reads.time c.make.ensures.writes.time e.reads.crash (e.durable revealed) (e.reads.contents revealed)
    (no_header (first.files 0) c.in_ok-is_occupied.field-0 c.if-branch.false (e.occupied revealed)) c.make.ensures.writes.crash (c.make.ensures.any_moment revealed)

pub returns-clause-writes : goal.returns-clause-writes
returns-clause-writes g c =
    let first = g.D.Disk.state c.args.disk.now in
    let second = g.D.Disk.state c.is_occupied.new.disk in
    let third = g.D.Disk.state c.make.new.disk in
    reads_then_writes g.D.Disk.reveals (IsReady first) (IsReady second) (FitsMaking first c.args.shape.now) (FitsMaking second c.args.shape.now) _ _ (ChangesOnly 0) first second third false≢true (λ d f other. refl)
    (λ ready. ready) (λ revealed ready same goes. (ready.0, subst (λ (f : Files). second.takes 0 (f 0) ready.0) (sym same) (goes 0 (first.files 0) ready.0 ready.1)))
    (λ fit. roomy_making first c.args.shape.now fit) (λ revealed fit same passes. fits_later first second c.args.shape.now (ap (λ (f : Files). f 0) same) passes fit)
    c.in_ok-is_occupied.ensures.reads (writes_as g.D.Disk.reveals (IsReady second) (FitsMaking second c.args.shape.now) _ _ (ChangesOnly 0) second third (λ is. absurd (cc)) (λ is. absurd (cc)) c.in_ok-make.ensures.writes)

pub returns-in_err-is_occupied-clause-writes : goal.returns-in_err-is_occupied-clause-writes
returns-in_err-is_occupied-clause-writes g c =
    let first = g.D.Disk.state c.args.disk.now in
    let second = g.D.Disk.state c.is_occupied.new.disk in
    reads_writes g.D.Disk.reveals (IsReady first) (FitsMaking first c.args.shape.now) _ (ChangesOnly 0) first second (λ ready. ready) (λ fit. roomy_making first c.args.shape.now fit) (λ d f other. refl)
    (reads_faulted g.D.Disk.reveals _ _ first second c.in_err-is_occupied.ensures.reads refl (let p = err_from_is_err_and c.from_residual.result c.from_residual.ensures.1 in rw (p.1, p.2)))

pub returns-then-branch-clause-writes : goal.returns-then-branch-clause-writes
returns-then-branch-clause-writes g c =
    let first = g.D.Disk.state c.args.disk.now in
    let second = g.D.Disk.state c.is_occupied.new.disk in
    reads_writes g.D.Disk.reveals (IsReady first) (FitsMaking first c.args.shape.now) _ (ChangesOnly 0) first second (λ ready. ready) (λ fit. roomy_making first c.args.shape.now fit) (λ d f other. refl)
    (reads_as g.D.Disk.reveals _ _ first second (λ is. absurd (cc)) (λ is. absurd (cc)) c.in_ok-is_occupied.ensures.reads)
