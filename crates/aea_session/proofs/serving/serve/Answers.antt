use Rattle.std.proofs.Common.{◌∙◌, Ok, Option, refl, subst}
use Rattle.aea_messages.specs.declared.message.Message.{Message}
use Rattle.aea_session.specs.Serving.{ReadsNext}
use Rattle.aea_session.proofs.Served.{gone_none, gone_more, ends_well, ends_early, ends_taken}
use Rattle.aea_session.proofs.serving.serve.Goals as goal

pub loop-message-init : goal.loop-message-init
loop-message-init g c = record {
  gone = gone_none g.D.Disk.reveals g.D.Disk.state c.args.session.now.work c.args.disk.now (g.S.Source.state c.args.input.now).left (g.O.Sink.state c.args.out.now);
  live = c.requires.live;
  this = c.requires.this;
  fixed = c.requires.fixed;
  input_still = refl;
  out_still = refl;
}

pub returns-in-Ok-None-clause-serves : goal.returns-in-Ok-None-clause-serves
returns-in-Ok-None-clause-serves g c =
    ends_well g.D.Disk.reveals g.D.Disk.state c.args.session.now.work c.loop-message.session.work c.args.disk.now c.loop-message.disk
    (g.S.Source.state c.args.input.now).left (g.S.Source.state c.loop-message.input).left (g.S.Source.state c.next_message.new.input).left
    (g.O.Sink.state c.args.out.now) (g.O.Sink.state c.loop-message.out) c.loop-message.count c.loop-message.at c.next_message.new.at c.loop-message.invariant.gone
    (subst (λ (o : Option Message). ReadsNext (g.S.Source.state c.loop-message.input).left (g.S.Source.state c.next_message.new.input).left c.loop-message.at c.next_message.new.at c.loop-message.count (Ok o)) c.in-Ok-None.field-0-is c.in-Ok-None.ensures.reads)

pub returns-in-Err-clause-serves : goal.returns-in-Err-clause-serves
returns-in-Err-clause-serves g c =
    ends_early g.D.Disk.reveals g.D.Disk.state c.args.session.now.work c.loop-message.session.work c.args.disk.now c.loop-message.disk
    (g.S.Source.state c.args.input.now).left (g.S.Source.state c.loop-message.input).left (g.S.Source.state c.next_message.new.input).left
    (g.O.Sink.state c.args.out.now) (g.O.Sink.state c.loop-message.out) c.loop-message.count c.loop-message.at c.next_message.new.at c.in-Err.stop c.loop-message.invariant.gone c.in-Err.ensures.reads

pub returns-in-Err-take_next-clause-serves : goal.returns-in-Err-take_next-clause-serves
returns-in-Err-take_next-clause-serves g c =
    ends_taken g.D.Disk.reveals g.D.Disk.state c.args.session.now.work c.loop-message.session.work c.take_next.new.session.work c.args.disk.now c.loop-message.disk c.take_next.new.disk
    (g.S.Source.state c.args.input.now).left (g.S.Source.state c.loop-message.input).left (g.S.Source.state c.next_message.new.input).left
    (g.O.Sink.state c.args.out.now) (g.O.Sink.state c.loop-message.out) (g.O.Sink.state c.take_next.new.out) c.loop-message.count c.loop-message.at c.next_message.new.at c.in-Ok-Some.message c.in-Err-take_next.fault c.loop-message.invariant.gone
    (subst (λ (o : Option Message). ReadsNext (g.S.Source.state c.loop-message.input).left (g.S.Source.state c.next_message.new.input).left c.loop-message.at c.next_message.new.at c.loop-message.count (Ok o)) c.in-Ok-Some.field-0-is c.in-Ok-Some.ensures.reads)
    c.in-Err-take_next.ensures.takes

pub loop-message-preserved : goal.loop-message-preserved
loop-message-preserved g c = record {
  gone = gone_more g.D.Disk.reveals g.D.Disk.state c.args.session.now.work c.loop-message.session.work c.take_next.new.session.work c.args.disk.now c.loop-message.disk c.take_next.new.disk
      (g.S.Source.state c.args.input.now).left (g.S.Source.state c.loop-message.input).left (g.S.Source.state c.next_message.new.input).left
      (g.O.Sink.state c.args.out.now) (g.O.Sink.state c.loop-message.out) (g.O.Sink.state c.take_next.new.out) c.loop-message.count c.loop-message.at c.next_message.new.at c.in-Ok-Some.message c.in-Ok.field-0 c.loop-message.invariant.gone
      (subst (λ (o : Option Message). ReadsNext (g.S.Source.state c.loop-message.input).left (g.S.Source.state c.next_message.new.input).left c.loop-message.at c.next_message.new.at c.loop-message.count (Ok o)) c.in-Ok-Some.field-0-is c.in-Ok-Some.ensures.reads)
      c.in-Ok.ensures.takes;
  live = c.in-Ok.ensures.live;
  this = c.in-Ok.ensures.takes.moves.this;
  fixed = c.in-Ok.ensures.takes.moves.fixed;
  input_still = c.in-Ok-Some.ensures.still (λ is. absurd (cc)) ∙ c.loop-message.invariant.input_still;
  out_still = c.in-Ok.ensures.takes.out_still (λ is. absurd (cc)) ∙ c.loop-message.invariant.out_still;
}

pub returns-in-Err-take_next-clause-live : goal.returns-in-Err-take_next-clause-live
returns-in-Err-take_next-clause-live g c none = absurd (none c.in-Err-take_next.fault refl)

pub returns-in-Err-take_next-clause-this : goal.returns-in-Err-take_next-clause-this
returns-in-Err-take_next-clause-this g c none = absurd (none c.in-Err-take_next.fault refl)

pub returns-in-Err-take_next-clause-fixed : goal.returns-in-Err-take_next-clause-fixed
returns-in-Err-take_next-clause-fixed g c none = absurd (none c.in-Err-take_next.fault refl)
