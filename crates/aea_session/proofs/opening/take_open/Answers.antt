use Rattle.std.proofs.Common.{sym, ap, subst}
use Rattle.aea_messages.specs.declared.message.Message.{Message}
use Rattle.aea_machine.specs.Closings.{closing_in}
use Rattle.aea_session.specs.Steps.{MakesStep, made_by}
use Rattle.aea_session.proofs.Quietly.{quietly_dry, quietly_put, quietly_unwritten}
use Rattle.aea_session.proofs.opening.take_open.Goals as goal

pub returns-in-Err : goal.returns-in-Err
returns-in-Err g c =
    let v = c.args.work.now in
    let out = g.O.Sink.state c.args.out.now in
    record {
      takes = quietly_dry c.ledgers_have_one_reading.ensures g.D.Disk.reveals v c.open_upload.new.work c.args.message.now (g.D.Disk.state c.args.disk.now) out out
          (λ m kept. ap (closing_in v.ledger.shape m) c.requires.kind) c.requires.fixed;
    }

pub returns-in-Ok-put_made : goal.returns-in-Ok-put_made
returns-in-Ok-put_made g c =
    let v = c.args.work.now in
    record {
      takes = quietly_put c.ledgers_have_one_reading.ensures g.D.Disk.reveals v c.open_upload.new.work c.args.message.now (g.D.Disk.state c.args.disk.now) (g.O.Sink.state c.args.out.now) (g.O.Sink.state c.put_made.new.out)
          (λ m kept. ap (closing_in v.ledger.shape m) c.requires.kind) c.requires.fixed c.in-Ok.made c.requires.keeps
          (subst (λ (message : Message). MakesStep made_by v c.open_upload.new.work message c.in-Ok.made) (sym c.requires.kind) c.in-Ok.ensures.steps) c.in-Ok.ensures.archive c.requires.live c.requires.this
          c.in-Ok-put_made.code c.in-Ok-put_made.ensures.code c.in-Ok-put_made.ensures.flushed c.in-Ok-put_made.ensures.prints;
    }

pub returns-in-Err-put_made : goal.returns-in-Err-put_made
returns-in-Err-put_made g c =
    let v = c.args.work.now in
    record {
      takes = quietly_unwritten c.ledgers_have_one_reading.ensures g.D.Disk.reveals v c.open_upload.new.work c.args.message.now (g.D.Disk.state c.args.disk.now) (g.O.Sink.state c.args.out.now) (g.O.Sink.state c.put_made.new.out)
          (λ m kept. ap (closing_in v.ledger.shape m) c.requires.kind) c.requires.fixed c.in-Ok.made c.requires.keeps
          (subst (λ (message : Message). MakesStep made_by v c.open_upload.new.work message c.in-Ok.made) (sym c.requires.kind) c.in-Ok.ensures.steps) c.in-Ok.ensures.archive c.requires.live c.requires.this
          c.in-Err-put_made.ensures.prints;
    }
