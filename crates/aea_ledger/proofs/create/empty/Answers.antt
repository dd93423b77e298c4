use Rattle.std.proofs.Common.{ℕ, List, [], inl, inr, refl, sym, subst, arith}
use Rattle.std.proofs.lemmas.Bool.{false≢true}
use Rattle.aea_disk.specs.Files.{ChangesFile, IsCut, MayBeCut}
use Rattle.aea_disk.specs.Steps.{changes_wider}
use Rattle.aea_disk.specs.State.{HasRoomTo, TakesFrom}
use Rattle.aea_disk.proofs.Frames.{reads_one, writes_one, writes_failed, writes_wider, writes_then_reads}
use Rattle.aea_ledger.specs.Taking.{FitsTo}
use Rattle.aea_ledger.proofs.create.empty.Goals as goal

pub returns-in_err-cut-clause-writes : goal.returns-in_err-cut-clause-writes
returns-in_err-cut-clause-writes g c =
    let reveals = g.D.Disk.reveals in
    let first = g.D.Disk.state c.args.disk.now in
    let second = g.D.Disk.state c.cut.new.self in
    let step = ChangesFile 0 (MayBeCut 0) in
    let e = c.in_err-cut.ensures in
    writes_wider reveals (TakesFrom first 0 0) (HasRoomTo first 0 0) (TakesFrom first 0 0) (FitsTo first 0 []) _ step step first second
    (λ a b is. is) (λ revealed is. is) (λ revealed fit. fit.room)
    (writes_failed reveals (TakesFrom first 0 0) (HasRoomTo first 0 0) _ step first second _ refl (cc) e.torn e.crash e.settled e.time e.cause e.sure)

pub returns-clause-writes : goal.returns-clause-writes
returns-clause-writes g c =
    let reveals = g.D.Disk.reveals in
    let first = g.D.Disk.state c.args.disk.now in
    let second = g.D.Disk.state c.cut.new.self in
    let third = g.D.Disk.state c.sync.new.self in
    let step = ChangesFile 0 (MayBeCut 0) in
    let e = c.in_ok-cut.ensures in
    writes_then_reads reveals (TakesFrom first 0 0) (FitsTo first 0 []) _ _ step first second third false≢true
    (λ revealed is cut goes. (
      0,
      subst (λ (l : List ℕ). second.takes 0 l 0) (sym (c.in_ok-cut.ensures.cut revealed).here)
          (g.met.D.Disk.bare_taken c.cut.new.self (first.files 0) [] 0 (inl (omega arith)) (goes 0 (first.files 0) 0 is)),
    ))
    (λ revealed fit cut time. record { some = (0, 0, time.room 0 0 fit.room); sync = subst second.keeps (sym (c.in_ok-cut.ensures.cut revealed).here) (time.syncs [] fit.sync) })
    (writes_wider reveals (TakesFrom first 0 0) (HasRoomTo first 0 0) (TakesFrom first 0 0) (FitsTo first 0 []) _ step step first second
    (λ a b is. is) (λ revealed is. is) (λ revealed fit. fit.room)
    (writes_one reveals (TakesFrom first 0 0) (HasRoomTo first 0 0) step first second _
    (λ revealed. changes_wider 0 (IsCut 0) (MayBeCut 0) first.files second.files (λ xs ys is. inr is) (e.cut revealed))
    e.crash e.settled e.time e.cause e.sure))
    (reads_one reveals second third c.sync.result c.sync.ensures.contents c.sync.ensures.crash c.sync.ensures.settled c.sync.ensures.time c.sync.ensures.cause c.sync.ensures.sure)
