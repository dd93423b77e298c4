use Rattle.std.proofs.Common.{false, length, refl, ap, arith}
use Rattle.std.proofs.Math.Logic.{∥∥₁_elim, ∥∥₁_prop}
use Rattle.aea_mirror.specs.Mirrored.{Kept}
use Rattle.aea_disk.specs.Files.{Torn}
use Rattle.aea_disk.proofs.Frames.{torn_anyway}
use Rattle.aea_mirror.proofs.Calls.{shown_time, shown_follows, shown_settles, refused_time, not_refused_write, refused_write_sure, written_sure}
use Rattle.aea_mirror.proofs.Guards.{guards_stay, torn_begins}
use Rattle.aea_mirror.proofs.Written.{write_is_shown}
use Rattle.aea_mirror.proofs.Seeing.{changed_copies}
use Rattle.aea_mirror.proofs.mirror.MirrorDisk.write.Goals as goal

pub returns-then-refuses_write-clause-time : goal.returns-then-refuses_write-clause-time
returns-then-refuses_write-clause-time g c =
    let m = c.args.self.now in
    let n = c.refuse.new.self in
    let k : Kept = (record { name = m.disk.ghost_name; on = m.on; end = m.end; dead = m.dead; own = m.own }) in
    let l : Kept = record { name = n.disk.ghost_name; on = n.on; end = n.end; dead = n.dead; own = n.own } in
    refused_time g.D.Disk.reveals (g.D.Disk.state m.disk.now) (g.D.Disk.state n.disk.now) k l (ap g.D.Disk.state c.refuse.ensures.disk) c.refuse.ensures.on c.refuse.ensures.same

pub returns-then-refuses_write-clause-sure : goal.returns-then-refuses_write-clause-sure
returns-then-refuses_write-clause-sure g c =
    let m = c.args.self.now in
    let n = c.refuse.new.self in
    let k : Kept = (record { name = m.disk.ghost_name; on = m.on; end = m.end; dead = m.dead; own = m.own }) in
    let l : Kept = record { name = n.disk.ghost_name; on = n.on; end = n.end; dead = n.dead; own = n.own } in
    refused_write_sure g.D.Disk.reveals c.args.file c.args.at _ (g.D.Disk.state m.disk.now) (g.D.Disk.state n.disk.now) k l _ refl (ap g.D.Disk.state c.refuse.ensures.disk) (c.if-refuses_write.ensures.refused.0 refl)

pub invariant_of-self : goal.invariant_of-self
invariant_of-self g c =
    let m = c.args.self.now in
    let near = not_refused_write c.args.file c.args.at m.dead m.on m.end false refl c.if-refuses_write.ensures.refused in
    let s = g.D.Disk.state m.disk.now in
    let t = g.D.Disk.state c.write.new.self in
    record {
      near = m.near;
      guards = λ alive revealed.
          ∥∥₁_elim (m.guards alive revealed) ∥∥₁_prop (λ was.
          ∣ guards_stay c.args.file m.end (Torn c.args.at (length c.args.bytes.now)) s t m.on m.first m.second near.near
          (λ on zero. λ text old new size begins torn. torn_begins text c.args.at (length c.args.bytes.now) old new (let past = near.after on zero in omega (arith, past, size)) begins torn)
          (torn_anyway g.D.Disk.reveals c.args.file c.args.at c.args.bytes.now s.files t.files c.write.result c.write.ensures.written c.write.ensures.torn revealed) c.write.ensures.crash c.write.ensures.time was ∣₁);
    }

pub returns-clause-crash : goal.returns-clause-crash
returns-clause-crash g c =
    let m = c.args.self.now in
    let near = not_refused_write c.args.file c.args.at m.dead m.on m.end false refl c.if-refuses_write.ensures.refused in
    shown_follows g.D.Disk.reveals c.args.file (Torn c.args.at (length c.args.bytes.now)) (g.D.Disk.state m.disk.now) (g.D.Disk.state c.write.new.self) (record { name = m.disk.ghost_name; on = m.on; end = m.end; dead = m.dead; own = m.own }) (record { name = m.disk.ghost_name; on = m.on; end = m.end; dead = m.dead; own = m.own })
    (λ revealed. write_is_shown (g.D.Disk.state m.disk.now) c.args.file c.args.at (length c.args.bytes.now) m.on m.end m.first m.second near (m.guards near.alive revealed)) c.write.ensures.crash

pub returns-clause-settled : goal.returns-clause-settled
returns-clause-settled g c =
    let m = c.args.self.now in
    shown_settles g.D.Disk.reveals (g.D.Disk.state m.disk.now) (g.D.Disk.state c.write.new.self) (record { name = m.disk.ghost_name; on = m.on; end = m.end; dead = m.dead; own = m.own }) (record { name = m.disk.ghost_name; on = m.on; end = m.end; dead = m.dead; own = m.own }) c.write.ensures.settled

pub returns-clause-time : goal.returns-clause-time
returns-clause-time g c =
    let m = c.args.self.now in
    let near = not_refused_write c.args.file c.args.at m.dead m.on m.end false refl c.if-refuses_write.ensures.refused in
    shown_time g.D.Disk.reveals (g.D.Disk.state m.disk.now) (g.D.Disk.state c.write.new.self) (record { name = m.disk.ghost_name; on = m.on; end = m.end; dead = m.dead; own = m.own }) (record { name = m.disk.ghost_name; on = m.on; end = m.end; dead = m.dead; own = m.own }) refl refl c.write.ensures.cause.kept (changed_copies g.D.Disk.reveals m.on c.args.file (Torn c.args.at (length c.args.bytes.now)) (g.D.Disk.state m.disk.now) (g.D.Disk.state c.write.new.self) near.near c.write.ensures.crash) c.write.ensures.time

pub returns-clause-sure : goal.returns-clause-sure
returns-clause-sure g c =
    let m = c.args.self.now in
    let near = not_refused_write c.args.file c.args.at m.dead m.on m.end false refl c.if-refuses_write.ensures.refused in
    written_sure g.D.Disk.reveals c.args.file c.args.at c.args.bytes.now (g.D.Disk.state m.disk.now) (g.D.Disk.state c.write.new.self) (record { name = m.disk.ghost_name; on = m.on; end = m.end; dead = m.dead; own = m.own }) c.write.result near
    (λ free. g.met.D.Disk.free_taken m.disk.now c.args.file ((g.D.Disk.state m.disk.now).files 0) c.args.at free)
    c.write.ensures.cause c.write.ensures.sure c.write.ensures.written

pub returns-then-refuses_write-clause-same : goal.returns-then-refuses_write-clause-same
returns-then-refuses_write-clause-same g c = let e = c.refuse.ensures in (e.on, e.end, e.first, e.second, e.dead)
