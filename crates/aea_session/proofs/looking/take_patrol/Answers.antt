use Rattle.std.proofs.Common.{◌≡◌, ap}
use Rattle.aea_session.proofs.Watching.{patrol_looks, takes_looked}
use Rattle.aea_session.proofs.looking.take_patrol.Goals as goal

pub returns : goal.returns
returns g c = record {
  takes =
      takes_looked c.ledgers_have_one_reading.ensures c.homes_are_on_its_sites.ensures c.looks_keep.ensures g.D.Disk.reveals c.args.work.now c.patrol.new.work c.args.message.now
      (g.D.Disk.state c.args.disk.now) (g.D.Disk.state c.patrol.new.disk) (g.O.Sink.state c.args.out.now) (g.O.Sink.state c.patrol.new.out) (c.patrol.new.out ≡ c.args.out.now) c.patrol.result
      (patrol_looks c.args.message.now c.args.first c.args.count c.requires.kind) c.requires.live c.requires.this c.requires.fixed (λ same. ap g.O.Sink.state same)
      (record {
        same = c.patrol.ensures.same;
        replies = c.patrol.ensures.replies;
        flushed = c.patrol.ensures.flushed;
        part = c.patrol.ensures.part;
        damaged = λ b is. absurd (c.patrol.ensures.damaged b is);
        reads = c.patrol.ensures.reads;
        out_kept = c.patrol.ensures.out_kept;
        out_cause = c.patrol.ensures.out_cause;
        out_still = c.patrol.ensures.out_still;
        in_room = c.patrol.ensures.in_room;
      });
}
