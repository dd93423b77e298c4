use Rattle.std.proofs.Common.{rules, refl, inl, inr}
use Rattle.aea_disk.proofs.Frames.{reads_failed, reads_made, reads_both, reads_synced}
use Rattle.aea_ledger.proofs.Creates.{opened_read}
use Rattle.aea_ledger.proofs.open.read_surely.Goals as goal

pub returns-in_err-sync-clause-reads : goal.returns-in_err-sync-clause-reads
returns-in_err-sync-clause-reads g c =
    let e = c.in_err-sync.ensures in
    reads_failed g.D.Disk.reveals _ (g.D.Disk.state c.args.disk.now) (g.D.Disk.state c.sync.new.self) _ refl (search rules) e.contents e.crash e.settled e.time e.cause e.sure

pub returns-in_err-sync-clause-stops : goal.returns-in_err-sync-clause-stops
returns-in_err-sync-clause-stops g c revealed = inl c.in_err-sync.ensures.crash

pub returns-clause-synced : goal.returns-clause-synced
returns-clause-synced g c fine revealed =
    reads_synced g.D.Disk.reveals _ (g.D.Disk.state c.sync.new.self) (g.D.Disk.state c.read_ledger.new.disk) revealed c.read_ledger.ensures.reads (c.in_ok-sync.ensures.durable revealed)

pub returns-clause-stops : goal.returns-clause-stops
returns-clause-stops g c revealed =
    let e = c.in_ok-sync.ensures in
    let reads = c.read_ledger.ensures.reads in
    inr (opened_read (g.D.Disk.state c.args.disk.now) (g.D.Disk.state c.sync.new.self) (g.D.Disk.state c.read_ledger.new.disk) e.time reads.time e.crash (e.durable revealed) (e.contents revealed) reads.crash)

pub returns-clause-opened : goal.returns-clause-opened
returns-clause-opened g c fine revealed =
    let e = c.in_ok-sync.ensures in
    let reads = c.read_ledger.ensures.reads in
    opened_read (g.D.Disk.state c.args.disk.now) (g.D.Disk.state c.sync.new.self) (g.D.Disk.state c.read_ledger.new.disk) e.time reads.time e.crash (e.durable revealed) (e.contents revealed) reads.crash

pub returns-clause-reads : goal.returns-clause-reads
returns-clause-reads g c =
    let e = c.in_ok-sync.ensures in
    reads_both g.D.Disk.reveals ⊥ _ (g.D.Disk.state c.args.disk.now) (g.D.Disk.state c.sync.new.self) (g.D.Disk.state c.read_ledger.new.disk) (λ none. none)
    (reads_made g.D.Disk.reveals ⊥ _ _ _ (cc) (λ is. is) e.contents e.crash e.settled e.time e.cause e.sure) c.read_ledger.ensures.reads
