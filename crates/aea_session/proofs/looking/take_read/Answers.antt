use Rattle.std.proofs.Common.{◌≡◌, sym, ap, subst}
use Rattle.aea_messages.specs.declared.message.Message.{Message}
use Rattle.aea_session.specs.Takes.{IsRead}
use Rattle.aea_session.proofs.Watching.{read_looks, takes_looked}
use Rattle.aea_session.proofs.looking.take_read.Goals as goal

pub returns : goal.returns
returns g c = record {
  takes =
      takes_looked c.ledgers_have_one_reading.ensures c.homes_are_on_its_sites.ensures c.looks_keep.ensures g.D.Disk.reveals c.args.work.now c.read.new.work c.args.message.now
      (g.D.Disk.state c.args.disk.now) (g.D.Disk.state c.read.new.disk) (g.O.Sink.state c.args.out.now) (g.O.Sink.state c.read.new.out) (c.read.new.out ≡ c.args.out.now) c.read.result
      (read_looks c.args.message.now c.args.name.now c.requires.kind) c.requires.live c.requires.this c.requires.fixed (λ same. ap g.O.Sink.state same)
      (record {
        same = c.read.ensures.same;
        replies = c.read.ensures.replies;
        flushed = c.read.ensures.flushed;
        part = c.read.ensures.part;
        damaged = λ b is. let by = c.read.ensures.damaged b is in (subst (λ (m : Message). IsRead c.args.work.now m b) (sym c.requires.kind) by.0, by.1);
        reads = c.read.ensures.reads;
        out_kept = c.read.ensures.out_kept;
        out_cause = c.read.ensures.out_cause;
        out_still = c.read.ensures.out_still;
        in_room = c.read.ensures.in_room;
      });
}
