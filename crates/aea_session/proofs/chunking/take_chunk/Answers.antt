use Rattle.std.proofs.Common.{◌≡◌, ℕ, Ok, Err, sym, ◌∙◌, ap, subst}
use Rattle.aea_ledger.specs.Values.{Opened}
use Rattle.aea_messages.specs.declared.message.Message.{Message}
use Rattle.aea_machine.specs.Closings.{closing_in}
use Rattle.aea_machine.specs.Replies.{code_of}
use Rattle.aea_session.specs.declared.fault.StepFault.TheVariants.{DiskFault, NoMemory}
use Rattle.aea_session.specs.declared.fault.TakeFault.{TakeFault}
use Rattle.aea_session.specs.Steps.{MakesStep, answer_by, made_by}
use Rattle.aea_session.specs.Takes.{Takes}
use Rattle.aea_session.proofs.Taking.{reply_to, reply_made, long_made, goes_same, moves_made, leaves_cells, fixed_cells, takes_put, takes_unwritten, takes_stopped}
use Rattle.aea_session.proofs.chunking.take_chunk.Goals as goal

pub returns-in-Err : goal.returns-in-Err
returns-in-Err g c =
    let reveals = g.D.Disk.reveals in
    let v = c.args.work.now in
    let w = c.add_chunk.new.work in
    let message = c.args.message.now in
    let old = g.D.Disk.state c.args.disk.now in
    let new = g.D.Disk.state c.add_chunk.new.disk in
    let out = g.O.Sink.state c.args.out.now in
    let bad = c.add_chunk.result ≡ Err DiskFault in
    let dry = c.add_chunk.result ≡ Err NoMemory in
    record {
      takes = subst (λ (fault : TakeFault). Takes reveals v w message old new out out (Err fault)) (sym c.take_fault.ensures)
          (takes_stopped reveals v w message old new out ⊥ c.add_chunk.result c.in-Err.fault c.in-Err.is
          (leaves_cells c.ledgers_have_one_reading.ensures reveals v w message old new bad (λ m kept. ap (closing_in v.ledger.shape m) c.requires.kind) c.requires.fixed
          c.add_chunk.ensures.writes c.add_chunk.ensures.padded ⊥ dry));
    }

pub returns-in-Ok-put_made : goal.returns-in-Ok-put_made
returns-in-Ok-put_made g c =
    let reveals = g.D.Disk.reveals in
    let v = c.args.work.now in
    let w = c.add_chunk.new.work in
    let message = c.args.message.now in
    let old = g.D.Disk.state c.args.disk.now in
    let new = g.D.Disk.state c.add_chunk.new.disk in
    let before = g.O.Sink.state c.args.out.now in
    let after = g.O.Sink.state c.put_made.new.out in
    let bad = c.add_chunk.result ≡ Err DiskFault in
    let answer = answer_by made_by c.in-Ok.made in
    let makes : MakesStep made_by v w message c.in-Ok.made = subst (λ (a : Message). MakesStep made_by v w a c.in-Ok.made) (sym c.requires.kind) c.in-Ok.ensures.steps in
    record {
      takes = subst (λ (code : ℕ). Takes reveals v w message old new before after (Ok code)) (sym c.in-Ok-put_made.ensures.code)
          (takes_put reveals v w message old new before after (Unit {0}) bad ⊥ (code_of answer) (reply_to message answer)
          (leaves_cells c.ledgers_have_one_reading.ensures reveals v w message old new bad (λ m kept. ap (closing_in v.ledger.shape m) c.requires.kind) c.requires.fixed
          c.add_chunk.ensures.writes c.add_chunk.ensures.padded (Unit {0}) ⊥) tt (λ is. absurd (let e = sym c.in-Ok.is ∙ is in cc))
          (moves_made reveals made_by v w message old new c.in-Ok.made c.requires.keeps makes (ap (λ (l : Opened). l.live) c.add_chunk.ensures.ledger ∙ c.requires.live)
          (goes_same v w message c.add_chunk.ensures.ledger (λ m kept. ap (closing_in v.ledger.shape m) c.requires.kind))
          (λ revealed. c.in-Ok.ensures.this revealed (c.requires.this revealed)) (λ revealed. fixed_cells reveals bad v old new revealed (c.requires.fixed revealed) c.add_chunk.ensures.writes))
          (reply_made reveals v w old.files message c.in-Ok.made makes) c.in-Ok-put_made.ensures.flushed c.in-Ok-put_made.ensures.prints);
    }

pub returns-in-Err-put_made : goal.returns-in-Err-put_made
returns-in-Err-put_made g c =
    let reveals = g.D.Disk.reveals in
    let v = c.args.work.now in
    let w = c.add_chunk.new.work in
    let message = c.args.message.now in
    let old = g.D.Disk.state c.args.disk.now in
    let new = g.D.Disk.state c.add_chunk.new.disk in
    let before = g.O.Sink.state c.args.out.now in
    let after = g.O.Sink.state c.put_made.new.out in
    let bad = c.add_chunk.result ≡ Err DiskFault in
    let answer = answer_by made_by c.in-Ok.made in
    let makes : MakesStep made_by v w message c.in-Ok.made = subst (λ (a : Message). MakesStep made_by v w a c.in-Ok.made) (sym c.requires.kind) c.in-Ok.ensures.steps in
    record {
      takes = takes_unwritten reveals v w message old new before after (Unit {0}) bad ⊥ (code_of answer) (reply_to message answer)
          (leaves_cells c.ledgers_have_one_reading.ensures reveals v w message old new bad (λ m kept. ap (closing_in v.ledger.shape m) c.requires.kind) c.requires.fixed
          c.add_chunk.ensures.writes c.add_chunk.ensures.padded (Unit {0}) ⊥) tt (λ is. absurd (let e = sym c.in-Ok.is ∙ is in cc))
          (reply_made reveals v w old.files message c.in-Ok.made makes) (long_made v w message c.in-Ok.made makes) c.in-Err-put_made.ensures.prints;
    }
