use Rattle.std.proofs.Common.{refl}
use Rattle.aea_disk.proofs.Frames.{reads_failed, reads_made, reads_both}
use Rattle.aea_ledger.proofs.create.is_occupied.Goals as goal

pub returns-in_err-sync-clause-reads : goal.returns-in_err-sync-clause-reads
returns-in_err-sync-clause-reads g c =
    let e = c.in_err-sync.ensures in
    reads_failed g.D.Disk.reveals _ (g.D.Disk.state c.args.disk.now) (g.D.Disk.state c.sync.new.self) _ refl (cc) e.contents e.crash e.settled e.time e.cause e.sure

pub returns-in_err-count-clause-reads : goal.returns-in_err-count-clause-reads
returns-in_err-count-clause-reads g c =
    let one = c.in_ok-sync.ensures in
    let two = c.in_err-count.ensures in
    reads_both g.D.Disk.reveals ⊥ _ (g.D.Disk.state c.args.disk.now) (g.D.Disk.state c.sync.new.self) (g.D.Disk.state c.read.new.self) (λ none. none)
    (reads_made g.D.Disk.reveals ⊥ _ _ _ (cc) (λ is. is) one.contents one.crash one.settled one.time one.cause one.sure)
    (reads_failed g.D.Disk.reveals _ _ _ _ refl (cc) two.contents two.crash two.settled two.time two.cause two.sure)

pub returns-then-count-eq18-clause-reads : goal.returns-then-count-eq18-clause-reads
returns-then-count-eq18-clause-reads g c =
    let one = c.in_ok-sync.ensures in
    let two = c.in_ok-count.ensures in
    reads_both g.D.Disk.reveals ⊥ _ (g.D.Disk.state c.args.disk.now) (g.D.Disk.state c.sync.new.self) (g.D.Disk.state c.read.new.self) (λ none. none)
    (reads_made g.D.Disk.reveals ⊥ _ _ _ (cc) (λ is. is) one.contents one.crash one.settled one.time one.cause one.sure)
    (reads_made g.D.Disk.reveals _ _ _ _ (cc) (λ is. cc) two.contents two.crash two.settled two.time two.cause two.sure)

pub returns-else-count-eq18-clause-reads : goal.returns-else-count-eq18-clause-reads
returns-else-count-eq18-clause-reads g c =
    let one = c.in_ok-sync.ensures in
    let two = c.in_ok-count.ensures in
    reads_both g.D.Disk.reveals ⊥ _ (g.D.Disk.state c.args.disk.now) (g.D.Disk.state c.sync.new.self) (g.D.Disk.state c.read.new.self) (λ none. none)
    (reads_made g.D.Disk.reveals ⊥ _ _ _ (cc) (λ is. is) one.contents one.crash one.settled one.time one.cause one.sure)
    (reads_made g.D.Disk.reveals _ _ _ _ (cc) (λ is. cc) two.contents two.crash two.settled two.time two.cause two.sure)
