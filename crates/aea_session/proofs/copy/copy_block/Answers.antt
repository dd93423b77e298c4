use Rattle.std.proofs.Common.{refl, subst}
use Rattle.aea_fetch.specs.Cells.{IsCellFault}
use Rattle.aea_fetch.specs.Payloads.{IsPayload}
use Rattle.aea_fetch.specs.declared.cells.CellFault.{CellFault}
use Rattle.aea_fetch.proofs.Copies.{copied_one}
use Rattle.aea_session.proofs.Copied.{broken_damaged, broken_disk, broken_output}
use Rattle.aea_session.proofs.copy.copy_block.Goals as goal

pub returns-in-Err-Damaged-clause-buffer : goal.returns-in-Err-Damaged-clause-buffer
returns-in-Err-Damaged-clause-buffer g c = c.get_one.ensures.ready c.args.b c.requires.buffer

pub returns-in-Err-Damaged-clause-broken : goal.returns-in-Err-Damaged-clause-broken
returns-in-Err-Damaged-clause-broken g c =
    let v = c.args.ledger.now in
    let files = (g.D.Disk.state c.args.disk.now).files in
    let why = subst (λ (f : CellFault). IsCellFault g.D.Disk.reveals v.shape v.digests files c.args.b f) c.in-Err-Damaged.field-0-is (c.in-Err-Damaged.ensures.why files (λ revealed. refl)) in
    broken_damaged g.D.Disk.reveals v.shape v.digests files c.args.b c.in-Err-Damaged.block c.args.most (g.O.Sink.state c.args.out.now) c.args.page.now why.0 why.1

pub returns-in-Err-DiskFault-clause-buffer : goal.returns-in-Err-DiskFault-clause-buffer
returns-in-Err-DiskFault-clause-buffer g c = c.get_one.ensures.ready c.args.b c.requires.buffer

pub returns-in-Err-DiskFault-clause-broken : goal.returns-in-Err-DiskFault-clause-broken
returns-in-Err-DiskFault-clause-broken g c =
    let v = c.args.ledger.now in
    let files = (g.D.Disk.state c.args.disk.now).files in
    broken_disk g.D.Disk.reveals v.shape v.digests files _ c.args.most (g.O.Sink.state c.args.out.now) c.args.page.now

pub returns-in-Ok-print-clause-copied : goal.returns-in-Ok-print-clause-copied
returns-in-Ok-print-clause-copied g c =
    let v = c.args.ledger.now in
    let files = (g.D.Disk.state c.args.disk.now).files in
    copied_one (IsPayload g.D.Disk.reveals v.shape v.digests files) c.args.b _ c.args.most (g.O.Sink.state c.args.out.now) (g.O.Sink.state c.print.new.out) c.args.page.now c.print.new.page
    (c.in-Ok.ensures.had files (λ revealed. refl))
    (rw (c.front.ensures, c.payload.ensures) at c.in-Ok-print.ensures)

pub returns-in-Err-clause-broken : goal.returns-in-Err-clause-broken
returns-in-Err-clause-broken g c =
    let v = c.args.ledger.now in
    let files = (g.D.Disk.state c.args.disk.now).files in
    broken_output g.D.Disk.reveals v.shape v.digests files c.args.b _ c.args.most (g.O.Sink.state c.args.out.now) (g.O.Sink.state c.print.new.out) c.args.page.now c.print.new.page
    (c.in-Ok.ensures.had files (λ revealed. refl))
    (rw (c.front.ensures, c.payload.ensures) at c.in-Err.ensures)
