use Rattle.std.proofs.Common.{◌≡◌, ◌+◌, [], length, refl, subst, arith}
use Rattle.aea_disk.specs.Files.{ChangesFile, Torn}
use Rattle.aea_disk.specs.Steps.{changes_wider}
use Rattle.aea_disk.specs.State.{HasRoomTo, TakesFrom}
use Rattle.aea_disk.proofs.Frames.{ok_fine, writes_one, writes_failed, writes_both, writes_wider, torn_anyway}
use Rattle.std.proofs.lemmas.Result.{on_ok_weaker}
use Rattle.aea_ledger.specs.Taking.{TakesBehind}
use Rattle.aea_ledger.proofs.Takings.{behind_torn, behind_more, behind_through}
use Rattle.aea_ledger.proofs.Writes.{changes_both, torn_both, torn_late, holds_both}
use Rattle.aea_ledger.proofs.entry.write_both.Goals as goal

pub returns-in_err-write-clause-writes : goal.returns-in_err-write-clause-writes
returns-in_err-write-clause-writes g c =
    let reveals = g.D.Disk.reveals in
    let first = g.D.Disk.state c.args.disk.now in
    let second = g.D.Disk.state c.write.new.self in
    let n = length c.args.front.now in
    let m = length c.args.back.now in
    let e = c.in_err-write.ensures in
    let narrow = ChangesFile 0 (Torn (c.args.at + n) m) in
    let same : c.args.at + (n + m) ≡ c.args.at + n + m = omega arith in
    writes_wider reveals (TakesFrom first 0 (c.args.at + n)) (HasRoomTo first 0 (c.args.at + n + m)) (TakesBehind first c.args.at) (HasRoomTo first 0 (c.args.at + (n + m))) _ narrow (ChangesFile 0 (Torn c.args.at (n + m))) first second
    (λ a b. changes_wider 0 (Torn (c.args.at + n) m) (Torn c.args.at (n + m)) a b (torn_late c.args.at n m))
    (λ revealed is. (behind_through first (c.args.at + n) [] (g.met.D.Disk.later_taken c.args.disk.now) (behind_more first c.args.at (c.args.at + n) (omega arith) is)).here)
    (λ revealed fit. subst (HasRoomTo first 0) same fit)
    (writes_failed reveals (TakesFrom first 0 (c.args.at + n)) (HasRoomTo first 0 (c.args.at + n + m)) _ narrow first second _ refl (cc) e.torn e.crash e.settled e.time e.cause e.sure)

pub returns-clause-written : goal.returns-clause-written
returns-clause-written g c =
    let first = g.D.Disk.state c.args.disk.now in
    let second = g.D.Disk.state c.write.new.self in
    let third = g.D.Disk.state c.write-2.new.self in
    on_ok_weaker c.write-2.result
    (λ written revealed. changes_both 0 _ _ _ first.files second.files third.files (holds_both c.args.at c.args.front.now c.args.back.now) (c.in_ok-write.ensures.written revealed) (written revealed))
    c.write-2.ensures.written

pub returns-clause-writes : goal.returns-clause-writes
returns-clause-writes g c =
    let reveals = g.D.Disk.reveals in
    let first = g.D.Disk.state c.args.disk.now in
    let second = g.D.Disk.state c.write.new.self in
    let third = g.D.Disk.state c.write-2.new.self in
    let at = c.args.at in
    let n = length c.args.front.now in
    let m = length c.args.back.now in
    let same : at + (n + m) ≡ at + n + m = omega arith in
    writes_both reveals (TakesBehind first at) (TakesFrom first 0 (at + n)) (TakesFrom second 0 at) (HasRoomTo first 0 (at + (n + m))) (HasRoomTo first 0 (at + n + m)) (HasRoomTo second 0 (at + n)) _ _
    (ChangesFile 0 (Torn (at + n) m)) (ChangesFile 0 (Torn at n)) (ChangesFile 0 (Torn at (n + m))) first second third (ok_fine (c.in_ok-write.was))
    (λ a b. changes_wider 0 (Torn (at + n) m) (Torn at (n + m)) a b (torn_late at n m))
    (λ a b d. changes_both 0 (Torn (at + n) m) (Torn at n) (Torn at (n + m)) a b d (torn_both at n m))
    (λ revealed is. (behind_through first (at + n) [] (g.met.D.Disk.later_taken c.args.disk.now) (behind_more first at (at + n) (omega arith) is)).here)
    (λ revealed is step goes. (behind_through second at [] (g.met.D.Disk.later_taken c.write.new.self) (behind_torn first second at (at + n) m is (omega arith) step.here goes)).here)
    (λ revealed fit. subst (HasRoomTo first 0) same fit)
    (λ revealed fit step passes. g.met.D.Disk.smaller_fits c.write.new.self 0 (at + n) (at + (n + m)) (omega arith) (passes.room 0 (at + (n + m)) fit))
    (writes_one reveals (TakesFrom first 0 (at + n)) (HasRoomTo first 0 (at + n + m)) (ChangesFile 0 (Torn (at + n) m)) first second c.write.result
    (torn_anyway reveals 0 (at + n) c.args.back.now first.files second.files c.write.result c.write.ensures.written c.write.ensures.torn)
    c.write.ensures.crash c.write.ensures.settled c.write.ensures.time c.write.ensures.cause c.write.ensures.sure)
    (writes_one reveals (TakesFrom second 0 at) (HasRoomTo second 0 (at + n)) (ChangesFile 0 (Torn at n)) second third c.write-2.result
    (torn_anyway reveals 0 at c.args.front.now second.files third.files c.write-2.result c.write-2.ensures.written c.write-2.ensures.torn)
    c.write-2.ensures.crash c.write-2.ensures.settled c.write-2.ensures.time c.write-2.ensures.cause c.write-2.ensures.sure)

pub returns-clause-full : goal.returns-clause-full
returns-clause-full g c =
    let first = g.D.Disk.state c.args.disk.now in
    let same : c.args.at + length c.args.front.now + length c.args.back.now ≡ c.args.at + (length c.args.front.now + length c.args.back.now) = omega arith in
    on_ok_weaker c.write-2.result (λ _ room. subst (HasRoomTo first 0) same (c.in_ok-write.ensures.full room)) c.write-2.ensures.written
