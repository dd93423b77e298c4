use Rattle.std.proofs.Common.{◌+◌, ℕ, List, length, refl, sym, subst}
use Rattle.aea_disk.specs.Files.{ChangesFile, Torn, overwritten}
use Rattle.aea_disk.specs.State.{HasRoomTo, TakesFrom}
use Rattle.aea_disk.proofs.Frames.{ok_fine, reads_one, writes_one, writes_failed, writes_wider, writes_then_reads, torn_anyway}
use Rattle.aea_ledger.specs.Taking.{TakesThrough, FitsThrough}
use Rattle.aea_ledger.proofs.Writes.{settles_then_kept}
use Rattle.aea_ledger.proofs.entry.write_through.Goals as goal

pub returns-clause-settled : goal.returns-clause-settled
returns-clause-settled g c =
    settles_then_kept _ _ _ c.write.ensures.time c.sync.ensures.time c.write.ensures.settled c.sync.ensures.crash c.sync.ensures.settled

pub returns-in_err-write-clause-writes : goal.returns-in_err-write-clause-writes
returns-in_err-write-clause-writes g c =
    let reveals = g.D.Disk.reveals in
    let first = g.D.Disk.state c.args.disk.now in
    let second = g.D.Disk.state c.write.new.self in
    let at = c.args.at in
    let bytes = c.args.bytes.now in
    let step = ChangesFile 0 (Torn at (length bytes)) in
    let e = c.in_err-write.ensures in
    writes_wider reveals (TakesFrom first 0 at) (HasRoomTo first 0 (at + length bytes)) (TakesThrough first at bytes) (FitsThrough first at bytes) _ step step first second
    (λ a b is. is) (λ revealed is. is.here) (λ revealed fit. fit.room)
    (writes_failed reveals (TakesFrom first 0 at) (HasRoomTo first 0 (at + length bytes)) _ step first second _ refl (cc) e.torn e.crash e.settled e.time e.cause e.sure)

pub returns-clause-writes : goal.returns-clause-writes
returns-clause-writes g c =
    let reveals = g.D.Disk.reveals in
    let first = g.D.Disk.state c.args.disk.now in
    let second = g.D.Disk.state c.write.new.self in
    let third = g.D.Disk.state c.sync.new.self in
    let at = c.args.at in
    let bytes = c.args.bytes.now in
    let step = ChangesFile 0 (Torn at (length bytes)) in
    let there = overwritten (first.files 0) at bytes in
    writes_then_reads reveals (TakesThrough first at bytes) (FitsThrough first at bytes) _ _ step first second third (ok_fine (c.in_ok-write.was))
    (λ revealed is wrote goes. (is.then.0, subst (λ (l : List ℕ). second.takes 0 l is.then.0) (sym (c.in_ok-write.ensures.written revealed).here) (goes 0 there is.then.0 is.then.1)))
    (λ revealed fit wrote time. record { some = (0, at + length bytes, time.room 0 (at + length bytes) fit.room); sync = subst (λ (l : List ℕ). second.keeps l) (sym (c.in_ok-write.ensures.written revealed).here) (time.syncs there fit.sync) })
    (writes_wider reveals (TakesFrom first 0 at) (HasRoomTo first 0 (at + length bytes)) (TakesThrough first at bytes) (FitsThrough first at bytes) _ step step first second
    (λ a b is. is) (λ revealed is. is.here) (λ revealed fit. fit.room)
    (writes_one reveals (TakesFrom first 0 at) (HasRoomTo first 0 (at + length bytes)) step first second c.write.result
    (torn_anyway reveals 0 at bytes first.files second.files c.write.result c.write.ensures.written c.write.ensures.torn)
    c.write.ensures.crash c.write.ensures.settled c.write.ensures.time c.write.ensures.cause c.write.ensures.sure))
    (reads_one reveals second third c.sync.result c.sync.ensures.contents c.sync.ensures.crash c.sync.ensures.settled c.sync.ensures.time c.sync.ensures.cause c.sync.ensures.sure)
