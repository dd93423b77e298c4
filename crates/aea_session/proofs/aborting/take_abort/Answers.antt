use Rattle.std.proofs.Common.{sym, ap, subst}
use Rattle.aea_messages.specs.declared.message.Message.{Message}
use Rattle.aea_machine.specs.Closings.{closing_in}
use Rattle.aea_session.specs.Steps.{MakesStep, made_by}
use Rattle.aea_session.proofs.Quietly.{quietly_put, quietly_unwritten}
use Rattle.aea_session.proofs.aborting.take_abort.Goals as goal

pub returns-in-Ok : goal.returns-in-Ok
returns-in-Ok g c =
    let v = c.args.work.now in
    let w = c.abort_upload-made.new.work in
    record {
      takes = quietly_put c.ledgers_have_one_reading.ensures g.D.Disk.reveals v w c.args.message.now (g.D.Disk.state c.args.disk.now) (g.O.Sink.state c.args.out.now) (g.O.Sink.state c.put_made.new.out)
          (λ m kept. ap (closing_in v.ledger.shape m) c.requires.kind) c.requires.fixed c.abort_upload-made.result c.requires.keeps
          (subst (λ (message : Message). MakesStep made_by v w message c.abort_upload-made.result) (sym c.requires.kind) c.abort_upload-made.ensures.steps) c.abort_upload-made.ensures.archive c.requires.live c.requires.this
          c.in-Ok.code c.in-Ok.ensures.code c.in-Ok.ensures.flushed c.in-Ok.ensures.prints;
    }

pub returns-in-Err : goal.returns-in-Err
returns-in-Err g c =
    let v = c.args.work.now in
    let w = c.abort_upload-made.new.work in
    record {
      takes = quietly_unwritten c.ledgers_have_one_reading.ensures g.D.Disk.reveals v w c.args.message.now (g.D.Disk.state c.args.disk.now) (g.O.Sink.state c.args.out.now) (g.O.Sink.state c.put_made.new.out)
          (λ m kept. ap (closing_in v.ledger.shape m) c.requires.kind) c.requires.fixed c.abort_upload-made.result c.requires.keeps
          (subst (λ (message : Message). MakesStep made_by v w message c.abort_upload-made.result) (sym c.requires.kind) c.abort_upload-made.ensures.steps) c.abort_upload-made.ensures.archive c.requires.live c.requires.this
          c.in-Err.ensures.prints;
    }
