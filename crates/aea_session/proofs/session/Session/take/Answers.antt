use Rattle.std.proofs.Common.{sym, ◌∙◌, ap, subst}
use Rattle.aea_session.specs.Sessions.{SessionValue}
use Rattle.aea_session.specs.Takes.{Takes}
use Rattle.aea_session.proofs.Using.{usable_after}
use Rattle.aea_session.proofs.session.Session.take.Goals as goal

pub take_message-taken-requires-clause-keeps : goal.take_message-taken-requires-clause-keeps
take_message-taken-requires-clause-keeps g c = (c.self.invariant (ap (λ (s : SessionValue). s.live) c.self.view_is ∙ c.requires.live)).0

pub invariant_of-self : goal.invariant_of-self
invariant_of-self g c is =
    usable_after g.D.Disk.reveals _ c.take_message-taken.new.work c.args.message.now (g.D.Disk.state c.args.disk.now) (g.D.Disk.state c.take_message-taken.new.disk) c.take_message-taken.result
    (c.self.invariant (ap (λ (s : SessionValue). s.live) c.self.view_is ∙ c.requires.live)).0 c.take_message-taken.ensures.takes.moves (sym c.is_ok-self-inside.ensures.value ∙ is)

pub returns-clause-takes : goal.returns-clause-takes
returns-clause-takes g c =
    subst (λ (s : SessionValue). Takes g.D.Disk.reveals s.work c.take_message-taken.new.work c.args.message.now (g.D.Disk.state c.args.disk.now) (g.D.Disk.state c.take_message-taken.new.disk) (g.O.Sink.state c.args.out.now) (g.O.Sink.state c.take_message-taken.new.out) c.take_message-taken.result)
    c.self.view_is c.take_message-taken.ensures.takes
