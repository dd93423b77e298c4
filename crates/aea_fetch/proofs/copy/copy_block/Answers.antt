use Rattle.std.proofs.Common.{[], ◌∷◌}
use Rattle.aea_fetch.specs.Copies.{IsWide}
use Rattle.aea_fetch.proofs.Copies.{copied_one, cut_one, cut_still}
use Rattle.aea_fetch.proofs.copy.copy_block.Goals as goal

pub returns-in-Err-clause-cut : goal.returns-in-Err-clause-cut
returns-in-Err-clause-cut g c f same =
    let v = c.args.ledger.now in
    cut_still (IsWide v.shape.block (g.P.PayloadSource.has g.D.Disk.reveals v f)) (c.args.b ∷ []) c.args.most (g.O.Sink.state c.args.out.now) c.args.page.now _ (λ e. cc)

pub returns-in-Ok-print-clause-copied : goal.returns-in-Ok-print-clause-copied
returns-in-Ok-print-clause-copied g c f same =
    let v = c.args.ledger.now in
    copied_one (IsWide v.shape.block (g.P.PayloadSource.has g.D.Disk.reveals v f)) c.args.b (g.P.PayloadSource.held c.get_one.new.self) c.args.most (g.O.Sink.state c.args.out.now) (g.O.Sink.state c.print.new.out) c.args.page.now c.print.new.page
    (c.in-Ok.ensures.had f same, c.in-Ok.ensures.wide)
    (rw (c.front.ensures, c.payload.ensures) at c.in-Ok-print.ensures)

pub returns-in-Err-print-clause-cut : goal.returns-in-Err-print-clause-cut
returns-in-Err-print-clause-cut g c f same =
    let v = c.args.ledger.now in
    cut_one (IsWide v.shape.block (g.P.PayloadSource.has g.D.Disk.reveals v f)) c.args.b (g.P.PayloadSource.held c.get_one.new.self) c.args.most (g.O.Sink.state c.args.out.now) (g.O.Sink.state c.print.new.out) c.args.page.now c.print.new.page _
    (c.in-Ok.ensures.had f same, c.in-Ok.ensures.wide)
    (rw (c.front.ensures, c.payload.ensures) at c.in-Err-print.ensures)
