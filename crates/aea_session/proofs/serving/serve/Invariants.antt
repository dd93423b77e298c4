use Rattle.std.proofs.Common.{◌≡◌, ◌-◌, true}
use Rattle.aea_disk.specs.State.{IsFixed}
use Rattle.aea_session.specs.Serving.{greatest_messages}
use Rattle.aea_session.specs.Stands.{IsTheSessions}
use Rattle.aea_session.proofs.Served.{HasGone}
use Rattle.aea_session.proofs.serving.serve.Given as goal

-- the messages so far were taken, and the session may be used on
abbrev pub invariant-loop-message : goal.invariant-loop-message
invariant-loop-message g l = record {
  gone : HasGone g.D.Disk.reveals g.D.Disk.state l.fn.session.work l.session.work l.fn.disk l.disk (g.S.Source.state l.fn.input).left (g.S.Source.state l.input).left
      (g.O.Sink.state l.fn.out) (g.O.Sink.state l.out) l.count l.at;
  live : l.session.live ≡ true;
  this : g.D.Disk.reveals → IsTheSessions l.session.work (g.D.Disk.state l.disk).files;
  fixed : g.D.Disk.reveals → IsFixed (g.D.Disk.state l.disk) 0;
  input_still : (g.S.Source.state l.input).faults ≡ (g.S.Source.state l.fn.input).faults;
  out_still : (g.O.Sink.state l.out).faults ≡ (g.O.Sink.state l.fn.out).faults;
}

abbrev pub decreases-loop-message : goal.decreases-loop-message
decreases-loop-message g l = greatest_messages - l.count
