use Rattle.std.proofs.Common.{◌≡◌, ◌+◌, ℕ, List, [], ◌∷◌, ◌++◌, length, refl, sym, subst, arith, length-append}
use Rattle.std.proofs.lemmas.Result.{on_ok_weaker}
use Rattle.aea_disk.specs.Files.{ChangesFile, Torn, overwritten}
use Rattle.aea_disk.specs.Steps.{changes_wider}
use Rattle.aea_disk.specs.State.{HasRoomTo}
use Rattle.aea_disk.proofs.Frames.{ok_fine, writes_as, writes_both, writes_wider}
use Rattle.aea_ledger.specs.Stops.{closed}
use Rattle.aea_ledger.specs.Taking.{TakesBehind, TakesThrough, FitsThrough}
use Rattle.aea_ledger.proofs.Takings.{behind_torn, behind_more, behind_through}
use Rattle.aea_ledger.proofs.Writes.{changes_both, torn_both, torn_late, holds_both}
use Rattle.aea_ledger.proofs.entry.write_closed.Goals as goal

pub returns-in_err-write_both-clause-writes : goal.returns-in_err-write_both-clause-writes
returns-in_err-write_both-clause-writes g c =
    let reveals = g.D.Disk.reveals in
    let first = g.D.Disk.state c.args.disk.now in
    let second = g.D.Disk.state c.write_both.new.disk in
    let at = c.args.at in
    let n = length c.args.front.now in
    let m = length c.args.rest.now + 1 in
    let behind = closed c.args.front.now c.args.rest.now in
    let size : length behind ≡ n + m = omega (arith, length-append c.args.front.now (c.args.rest.now ++ 0 ∷ []), length-append c.args.rest.now (0 ∷ [])) in
    let same : at + length behind ≡ at + n + m = omega (arith, size) in
    writes_wider reveals (TakesBehind first (at + n)) (HasRoomTo first 0 (at + n + m)) (TakesBehind first at) (FitsThrough first at behind) _ (ChangesFile 0 (Torn (at + n) m)) (ChangesFile 0 (Torn at (n + m))) first second
    (λ a b. changes_wider 0 (Torn (at + n) m) (Torn at (n + m)) a b (torn_late at n m))
    (λ revealed is. behind_more first at (at + n) (omega arith) is)
    (λ revealed fit. subst (HasRoomTo first 0) same fit.room)
    (writes_as reveals (TakesBehind first (at + n)) (HasRoomTo first 0 (at + n + m)) _ _ (ChangesFile 0 (Torn (at + n) m)) first second (λ is. refl) (λ is. cc) c.in_err-write_both.ensures.writes)

pub returns-clause-written : goal.returns-clause-written
returns-clause-written g c =
    let first = g.D.Disk.state c.args.disk.now in
    let second = g.D.Disk.state c.write_both.new.disk in
    let third = g.D.Disk.state c.write_through.new.disk in
    on_ok_weaker c.write_through.result
    (λ written revealed. changes_both 0 _ _ _ first.files second.files third.files (holds_both c.args.at c.args.front.now (c.args.rest.now ++ 0 ∷ [])) (c.in_ok-write_both.ensures.written revealed) (written revealed))
    c.write_through.ensures.written

pub returns-clause-writes : goal.returns-clause-writes
returns-clause-writes g c =
    let reveals = g.D.Disk.reveals in
    let first = g.D.Disk.state c.args.disk.now in
    let second = g.D.Disk.state c.write_both.new.disk in
    let third = g.D.Disk.state c.write_through.new.disk in
    let at = c.args.at in
    let n = length c.args.front.now in
    let m = length c.args.rest.now + 1 in
    let back : List ℕ = c.args.rest.now ++ 0 ∷ [] in
    let behind = closed c.args.front.now c.args.rest.now in
    let size : length behind ≡ n + m = omega (arith, length-append c.args.front.now back, length-append c.args.rest.now (0 ∷ [])) in
    let same : at + length behind ≡ at + n + m = omega (arith, size) in
    writes_both reveals (TakesBehind first at) (TakesBehind first (at + n)) (TakesThrough second at c.args.front.now) (FitsThrough first at behind) (HasRoomTo first 0 (at + n + m)) (FitsThrough second at c.args.front.now) _ _
    (ChangesFile 0 (Torn (at + n) m)) (ChangesFile 0 (Torn at n)) (ChangesFile 0 (Torn at (n + m))) first second third (ok_fine (c.in_ok-write_both.was))
    (λ a b. changes_wider 0 (Torn (at + n) m) (Torn at (n + m)) a b (torn_late at n m))
    (λ a b d. changes_both 0 (Torn (at + n) m) (Torn at n) (Torn at (n + m)) a b d (torn_both at n m))
    (λ revealed is. behind_more first at (at + n) (omega arith) is)
    (λ revealed is step goes. behind_through second at c.args.front.now (g.met.D.Disk.later_taken c.write_both.new.disk) (behind_torn first second at (at + n) m is (omega arith) step.here goes))
    (λ revealed fit. subst (HasRoomTo first 0) same fit.room)
    (λ revealed fit step passes.
    let whole : overwritten (second.files 0) at c.args.front.now ≡ overwritten (first.files 0) at behind =
    holds_both at c.args.front.now back (first.files 0) (second.files 0) (overwritten (second.files 0) at c.args.front.now) (c.in_ok-write_both.ensures.written revealed).here refl in
    record {
      room = g.met.D.Disk.smaller_fits c.write_both.new.disk 0 (at + n) (at + length behind) (omega (arith, size)) (passes.room 0 (at + length behind) fit.room);
      sync = subst second.keeps (sym whole) (passes.syncs (overwritten (first.files 0) at behind) fit.sync);
    })
    c.write_both.ensures.writes c.write_through.ensures.writes

pub returns-clause-full : goal.returns-clause-full
returns-clause-full g c =
    let first = g.D.Disk.state c.args.disk.now in
    let at = c.args.at in
    let n = length c.args.front.now in
    let m = length c.args.rest.now + 1 in
    let same : at + n + m ≡ at + (n + m) = omega arith in
    on_ok_weaker c.write_through.result (λ _ room. subst (HasRoomTo first 0) same (c.in_ok-write_both.ensures.full room)) c.write_through.ensures.written
