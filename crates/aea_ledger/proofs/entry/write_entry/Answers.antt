use Rattle.std.proofs.Common.{◌≢◌, ◌+◌, ℕ, List, [], ◌∷◌, ◌++◌, length, inl, refl, sym, subst, arith}
use Rattle.std.proofs.lemmas.Result.{on_ok_weaker}
use Rattle.aea_disk.specs.Files.{Files, ChangesOnly, overwritten}
use Rattle.aea_disk.proofs.Frames.{ok_fine, writes_both, writes_faulted, writes_wider, keeps_both}
use Rattle.aea_disk.proofs.Moments.{during_both, during_more}
use Rattle.aea_disk.proofs.Stays.{stays_both}
use Rattle.aea_ledger.specs.Taking.{TakesBehind, TakesThrough, TakesCommit, FitsThrough, FitsCommit}
use Rattle.aea_ledger.specs.Stops.{HasLedger, HasOldOrNew, closed, committed}
use Rattle.aea_ledger.proofs.entry.write_entry.Goals as goal

pub returns-in_err-write_body-clause-any_moment : goal.returns-in_err-write_body-clause-any_moment
returns-in_err-write_body-clause-any_moment g c revealed shape records r added =
    let first = g.D.Disk.state c.args.disk.now in
    let second = g.D.Disk.state c.write_body.new.disk in
    let P : Files → Type 0 = λ d. HasOldOrNew shape records r (d 0) in
    during_more first second (λ d. HasLedger shape records (d 0)) P (λ d is. inl is) (c.write_body.ensures.any_moment revealed shape records added.ledger)

pub returns-in_err-write_body-clause-stays : goal.returns-in_err-write_body-clause-stays
returns-in_err-write_body-clause-stays g c revealed shape records r added = c.write_body.ensures.stays revealed shape records r added.ledger

pub returns-in_err-write_body-clause-reads : goal.returns-in_err-write_body-clause-reads
returns-in_err-write_body-clause-reads g c revealed shape records r added = inl (c.write_body.ensures.reads revealed shape records added.ledger)

pub returns-clause-any_moment : goal.returns-clause-any_moment
returns-clause-any_moment g c revealed shape records r added =
    let first = g.D.Disk.state c.args.disk.now in
    let second = g.D.Disk.state c.write_body.new.disk in
    let third = g.D.Disk.state c.open_gate.new.disk in
    let P : Files → Type 0 = λ d. HasOldOrNew shape records r (d 0) in
    during_both first second third P c.write_body.ensures.writes.time c.open_gate.ensures.writes.time
    (during_more first second (λ d. HasLedger shape records (d 0)) P (λ d is. inl is) (c.write_body.ensures.any_moment revealed shape records added.ledger))
    (c.open_gate.ensures.any_moment revealed shape records r (c.in_ok-write_body.ensures.staged revealed shape records r added))

pub returns-clause-stays : goal.returns-clause-stays
returns-clause-stays g c revealed shape records r added =
    let first = g.D.Disk.state c.args.disk.now in
    let second = g.D.Disk.state c.write_body.new.disk in
    let third = g.D.Disk.state c.open_gate.new.disk in
    let P : Files → Type 0 = λ d. HasLedger shape (records ++ r ∷ []) (d 0) in
    stays_both first second third P c.write_body.ensures.writes.time c.open_gate.ensures.writes.time
    (c.write_body.ensures.stays revealed shape records r added.ledger)
    (c.open_gate.ensures.stays revealed shape records r (c.in_ok-write_body.ensures.staged revealed shape records r added))

pub returns-clause-reads : goal.returns-clause-reads
returns-clause-reads g c revealed shape records r added =
    c.open_gate.ensures.reads revealed shape records r (c.in_ok-write_body.ensures.staged revealed shape records r added)

pub returns-clause-appended : goal.returns-clause-appended
returns-clause-appended g c =
    on_ok_weaker c.open_gate.result
    (λ opened revealed shape records r added. opened revealed shape records r (c.in_ok-write_body.ensures.staged revealed shape records r added))
    c.open_gate.ensures.opened

pub returns-clause-writes : goal.returns-clause-writes
returns-clause-writes g c =
    let first = g.D.Disk.state c.args.disk.now in
    let second = g.D.Disk.state c.write_body.new.disk in
    let third = g.D.Disk.state c.open_gate.new.disk in
    let end = c.args.end in
    let behind = closed c.args.front.now c.args.rest.now in
    let most = end + 1 + length behind in
    let one : List ℕ = 1 ∷ [] in
    writes_both g.D.Disk.reveals (TakesCommit first end behind) (TakesBehind first (end + 1)) (TakesThrough second end one) (FitsCommit first end behind) (FitsThrough first (end + 1) behind) (FitsThrough second end one) _ _ (ChangesOnly 0) (ChangesOnly 0) (ChangesOnly 0) first second third (ok_fine (c.in_ok-write_body.was))
    (λ d e one. one) (λ d e f one two. keeps_both (λ k. k ≢ 0) d e f one two)
    (λ revealed is. is.body)
    (λ revealed is step goes.
    let exactly = c.in_ok-write_body.ensures.exactly revealed in
    record {
      here = subst (λ (l : List ℕ). second.takes 0 l end) (sym exactly) (goes 0 (overwritten (first.files 0) (end + 1) behind) end is.gate);
      then = (is.done.0, subst (λ (l : List ℕ). second.takes 0 (overwritten l end one) is.done.0) (sym exactly) (goes 0 (committed (first.files 0) end behind) is.done.0 is.done.1));
    })
    (λ revealed fit. record { room = fit.room; sync = fit.body })
    (λ revealed fit step passes. record {
      room = g.met.D.Disk.smaller_fits c.write_body.new.disk 0 (end + 1) most (omega arith) (passes.room 0 most fit.room);
      sync = subst (λ (l : List ℕ). second.keeps (overwritten l end one)) (sym (c.in_ok-write_body.ensures.exactly revealed)) (passes.syncs (committed (first.files 0) end behind) fit.done);
    })
    c.write_body.ensures.writes c.open_gate.ensures.writes

pub returns-in_err-write_body-clause-writes : goal.returns-in_err-write_body-clause-writes
returns-in_err-write_body-clause-writes g c =
    let first = g.D.Disk.state c.args.disk.now in
    let end = c.args.end in
    let behind = closed c.args.front.now c.args.rest.now in
    writes_wider g.D.Disk.reveals (TakesBehind first (end + 1)) (FitsThrough first (end + 1) behind) (TakesCommit first end behind) (FitsCommit first end behind) _ (ChangesOnly 0) (ChangesOnly 0) first (g.D.Disk.state c.write_body.new.disk)
    (λ d e changes. changes) (λ revealed is. is.body) (λ revealed fit. record { room = fit.room; sync = fit.body })
    (writes_faulted g.D.Disk.reveals (TakesBehind first (end + 1)) (FitsThrough first (end + 1) behind) _ _ (ChangesOnly 0) first (g.D.Disk.state c.write_body.new.disk) c.in_err-write_body.ensures.writes refl (cc))
