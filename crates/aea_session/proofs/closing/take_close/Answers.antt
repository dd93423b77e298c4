use Rattle.std.proofs.Common.{◌≡◌, ℕ, Ok, Err, sym, ◌∙◌, ap, subst}
use Rattle.aea_messages.specs.declared.message.Message.{Message}
use Rattle.aea_machine.specs.Replies.{code_of}
use Rattle.aea_session.specs.declared.fault.StepFault.TheVariants.{DiskFault}
use Rattle.aea_session.specs.declared.fault.TakeFault.{TakeFault}
use Rattle.aea_session.specs.Steps.{MakesStep, answer_by, closed_by}
use Rattle.aea_session.specs.Takes.{Takes}
use Rattle.aea_session.proofs.Taking.{GoesOnBy, reply_to, reply_closed, long_closed, moves_made, takes_put, takes_unwritten, takes_stopped}
use Rattle.aea_session.proofs.ClosedTaking.{leaves_answered, fixed_answered, leaves_failed}
use Rattle.aea_session.proofs.closing.take_close.Goals as goal

pub returns-in-Err : goal.returns-in-Err
returns-in-Err g c =
    let reveals = g.D.Disk.reveals in
    let v = c.args.work.now in
    let w = c.close_upload.new.work in
    let message = c.args.message.now in
    let old = g.D.Disk.state c.args.disk.now in
    let new = g.D.Disk.state c.close_upload.new.disk in
    let out = g.O.Sink.state c.args.out.now in
    record {
      takes = subst (λ (fault : TakeFault). Takes reveals v w message old new out out (Err fault)) (sym c.take_fault.ensures)
          (takes_stopped reveals v w message old new out ⊥ c.close_upload.result c.in-Err.fault c.in-Err.is
          (leaves_failed c.ledgers_have_one_reading.ensures reveals g.D.Disk.state v w message c.args.slot c.requires.kind c.args.disk.now c.close_upload.new.disk c.requires.fixed
          c.close_upload.result c.in-Err.fault c.in-Err.is c.close_upload.ensures.stopped c.close_upload.ensures.quiet c.close_upload.ensures.writes c.close_upload.ensures.padded));
    }

pub returns-in-Ok-put_closed : goal.returns-in-Ok-put_closed
returns-in-Ok-put_closed g c =
    let reveals = g.D.Disk.reveals in
    let v = c.args.work.now in
    let w = c.close_upload.new.work in
    let message = c.args.message.now in
    let old = g.D.Disk.state c.args.disk.now in
    let new = g.D.Disk.state c.close_upload.new.disk in
    let before = g.O.Sink.state c.args.out.now in
    let after = g.O.Sink.state c.put_closed.new.out in
    let closed = c.in-Ok.closed in
    let bad = c.close_upload.result ≡ Err DiskFault in
    let fine : bad → ⊥ = λ is. absurd (let e = sym c.in-Ok.is ∙ is in cc) in
    let answer = answer_by closed_by closed in
    let makes : MakesStep closed_by v w message closed = subst (λ (a : Message). MakesStep closed_by v w a closed) (sym c.requires.kind) c.in-Ok.ensures.steps in
    record {
      takes = subst (λ (code : ℕ). Takes reveals v w message old new before after (Ok code)) (sym c.in-Ok-put_closed.ensures.code)
          (takes_put reveals v w message old new before after (Unit {0}) bad ⊥ (code_of answer) (reply_to message answer)
          (leaves_answered c.ledgers_have_one_reading.ensures reveals g.D.Disk.state v w message c.args.slot c.requires.kind c.args.disk.now c.close_upload.new.disk c.requires.fixed
          closed (λ p is. c.close_upload.ensures.refused p (c.in-Ok.is ∙ ap Ok is)) bad fine c.in-Ok.ensures.steps (λ stored is. c.close_upload.ensures.closed stored (c.in-Ok.is ∙ ap Ok is))
          c.close_upload.ensures.writes c.close_upload.ensures.padded) tt fine
          (moves_made reveals closed_by v w message old new closed c.requires.keeps makes c.in-Ok.ensures.live_on (subst (GoesOnBy v w) (sym c.requires.kind) c.in-Ok.ensures.goes) c.in-Ok.ensures.this
          (fixed_answered c.ledgers_have_one_reading.ensures reveals g.D.Disk.state v w message c.args.slot c.requires.kind c.args.disk.now c.close_upload.new.disk c.requires.fixed
          closed (λ p is. c.close_upload.ensures.refused p (c.in-Ok.is ∙ ap Ok is)) (λ stored is. c.close_upload.ensures.synced stored (c.in-Ok.is ∙ ap Ok is))))
          (reply_closed reveals v w old.files message closed makes) c.in-Ok-put_closed.ensures.flushed c.in-Ok-put_closed.ensures.prints);
    }

pub returns-in-Err-put_closed : goal.returns-in-Err-put_closed
returns-in-Err-put_closed g c =
    let reveals = g.D.Disk.reveals in
    let v = c.args.work.now in
    let w = c.close_upload.new.work in
    let message = c.args.message.now in
    let old = g.D.Disk.state c.args.disk.now in
    let new = g.D.Disk.state c.close_upload.new.disk in
    let before = g.O.Sink.state c.args.out.now in
    let after = g.O.Sink.state c.put_closed.new.out in
    let closed = c.in-Ok.closed in
    let bad = c.close_upload.result ≡ Err DiskFault in
    let fine : bad → ⊥ = λ is. absurd (let e = sym c.in-Ok.is ∙ is in cc) in
    let answer = answer_by closed_by closed in
    let makes : MakesStep closed_by v w message closed = subst (λ (a : Message). MakesStep closed_by v w a closed) (sym c.requires.kind) c.in-Ok.ensures.steps in
    record {
      takes = takes_unwritten reveals v w message old new before after (Unit {0}) bad ⊥ (code_of answer) (reply_to message answer)
          (leaves_answered c.ledgers_have_one_reading.ensures reveals g.D.Disk.state v w message c.args.slot c.requires.kind c.args.disk.now c.close_upload.new.disk c.requires.fixed
          closed (λ p is. c.close_upload.ensures.refused p (c.in-Ok.is ∙ ap Ok is)) bad fine c.in-Ok.ensures.steps (λ stored is. c.close_upload.ensures.closed stored (c.in-Ok.is ∙ ap Ok is))
          c.close_upload.ensures.writes c.close_upload.ensures.padded) tt fine
          (reply_closed reveals v w old.files message closed makes) (long_closed v w message closed makes) c.in-Err-put_closed.ensures.prints;
    }
