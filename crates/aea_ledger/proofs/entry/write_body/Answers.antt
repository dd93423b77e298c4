use Rattle.std.proofs.Common.{[], ◌∷◌, ◌++◌, ◌+◌, length}
use Rattle.std.proofs.lemmas.Result.{on_ok_weaker}
use Rattle.aea_disk.specs.Files.{ChangesFile, ChangesOnly, Torn}
use Rattle.aea_disk.proofs.Frames.{writes_wider}
use Rattle.aea_disk.proofs.Moments.{during_change}
use Rattle.aea_disk.proofs.Stays.{stays_never}
use Rattle.aea_records.specs.Format.{spelled}
use Rattle.aea_ledger.specs.Taking.{TakesBehind, FitsThrough}
use Rattle.aea_ledger.specs.Stops.{HasLedger, closed}
use Rattle.aea_ledger.proofs.Commits.{old_behind, staged, not_both}
use Rattle.aea_ledger.proofs.entry.write_body.Goals as goal

pub returns-clause-any_moment : goal.returns-clause-any_moment
returns-clause-any_moment g c revealed shape records ledger =
    let first = g.D.Disk.state c.args.disk.now in
    let second = g.D.Disk.state c.write_closed.new.disk in
    let n = length c.args.front.now + (length c.args.rest.now + 1) in
    during_change 0 (Torn (c.args.end + 1) n) first second (HasLedger shape records) c.write_closed.ensures.writes.crash (c.requires.fixed revealed)
    (λ xs torn. old_behind shape records (first.files 0) xs c.args.end n ledger torn)

pub returns-clause-reads : goal.returns-clause-reads
returns-clause-reads g c revealed shape records ledger =
    old_behind shape records _ _ c.args.end (length c.args.front.now + (length c.args.rest.now + 1)) ledger (c.write_closed.ensures.writes.contents revealed).here

pub returns-clause-stays : goal.returns-clause-stays
returns-clause-stays g c revealed shape records r ledger =
    let first = g.D.Disk.state c.args.disk.now in
    let second = g.D.Disk.state c.write_closed.new.disk in
    let n = length c.args.front.now + (length c.args.rest.now + 1) in
    stays_never first second (λ d. HasLedger shape (records ++ r ∷ []) (d 0)) c.write_closed.ensures.writes.earlier
    (during_change 0 (Torn (c.args.end + 1) n) first second (λ xs. HasLedger shape (records ++ r ∷ []) xs → ⊥) c.write_closed.ensures.writes.crash (c.requires.fixed revealed)
    (λ xs torn new. not_both shape records r xs (length (spelled shape records)) (old_behind shape records (first.files 0) xs c.args.end n ledger torn) new))

pub returns-clause-staged : goal.returns-clause-staged
returns-clause-staged g c =
    let first = g.D.Disk.state c.args.disk.now in
    let second = g.D.Disk.state c.write_closed.new.disk in
    on_ok_weaker c.write_closed.result
    (λ written revealed shape records r added. staged shape records r (first.files 0) (second.files 0) c.args.end (closed c.args.front.now c.args.rest.now) added (written revealed).here)
    c.write_closed.ensures.written

pub returns-clause-writes : goal.returns-clause-writes
returns-clause-writes g c =
    let first = g.D.Disk.state c.args.disk.now in
    let place = c.args.end + 1 in
    let n = length c.args.front.now + (length c.args.rest.now + 1) in
    let behind = closed c.args.front.now c.args.rest.now in
    writes_wider g.D.Disk.reveals (TakesBehind first place) (FitsThrough first place behind) (TakesBehind first place) (FitsThrough first place behind) _ (ChangesFile 0 (Torn place n)) (ChangesOnly 0) first (g.D.Disk.state c.write_closed.new.disk) (λ d e changes. changes.others) (λ revealed is. is) (λ revealed fit. fit) c.write_closed.ensures.writes
