use Rattle.std.proofs.Common.{[], ◌∷◌, ◌++◌, ℕ, List, sym, subst}
use Rattle.std.proofs.lemmas.Result.{on_ok_weaker}
use Rattle.aea_disk.specs.Files.{Files, ChangesFile, ChangesOnly, Torn}
use Rattle.aea_disk.proofs.Frames.{writes_wider}
use Rattle.aea_disk.proofs.Moments.{during_change}
use Rattle.aea_disk.proofs.Stays.{stays_step}
use Rattle.aea_records.specs.Grammar.{IsLedger}
use Rattle.aea_ledger.specs.Taking.{TakesThrough, FitsThrough}
use Rattle.aea_ledger.specs.Stops.{HasLedger, HasOldOrNew}
use Rattle.aea_ledger.proofs.Commits.{old_staged, old_or_new, new_opened, not_both}
use Rattle.aea_ledger.proofs.entry.open_gate.Goals as goal

pub returns-clause-any_moment : goal.returns-clause-any_moment
returns-clause-any_moment g c revealed shape records r is =
    let first = g.D.Disk.state c.args.disk.now in
    let second = g.D.Disk.state c.write_through.new.disk in
    during_change 0 (Torn c.args.end 1) first second (HasOldOrNew shape records r) c.write_through.ensures.writes.crash (c.requires.fixed revealed)
    (λ xs torn. old_or_new shape records r (first.files 0) xs c.args.end is torn)

pub returns-clause-reads : goal.returns-clause-reads
returns-clause-reads g c revealed shape records r is =
    old_or_new shape records r _ _ c.args.end is (c.write_through.ensures.writes.contents revealed).here

pub returns-clause-stays : goal.returns-clause-stays
returns-clause-stays g c revealed shape records r is =
    let first = g.D.Disk.state c.args.disk.now in
    let second = g.D.Disk.state c.write_through.new.disk in
    let P : Files → Type 0 = λ d. HasLedger shape (records ++ r ∷ []) (d 0) in
    stays_step (ChangesFile 0 (Torn c.args.end 1)) first second P c.write_through.ensures.writes.crash c.write_through.ensures.settled
    (λ d e was new step. absurd (not_both shape records r (d 0) c.args.end
    (subst (λ (l : List ℕ). IsLedger l shape records c.args.end) (sym (c.requires.fixed revealed d was)) (old_staged shape records r (first.files 0) c.args.end is)) new))
    c.write_through.ensures.writes.time

pub returns-clause-opened : goal.returns-clause-opened
returns-clause-opened g c =
    let first = g.D.Disk.state c.args.disk.now in
    let second = g.D.Disk.state c.write_through.new.disk in
    on_ok_weaker c.write_through.result
    (λ written revealed shape records r is. new_opened shape records r (first.files 0) (second.files 0) c.args.end is (written revealed).here)
    c.write_through.ensures.written

pub returns-clause-writes : goal.returns-clause-writes
returns-clause-writes g c =
    let first = g.D.Disk.state c.args.disk.now in
    let one : List ℕ = 1 ∷ [] in
    let second = g.D.Disk.state c.write_through.new.disk in
    writes_wider g.D.Disk.reveals (TakesThrough first c.args.end one) (FitsThrough first c.args.end one) (TakesThrough first c.args.end one) (FitsThrough first c.args.end one) _ (ChangesFile 0 (Torn c.args.end 1)) (ChangesOnly 0) first second (λ d e changes. changes.others) (λ revealed is. is)
    (λ revealed fit. fit) c.write_through.ensures.writes
