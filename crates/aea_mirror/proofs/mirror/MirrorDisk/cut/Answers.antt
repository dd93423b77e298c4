use Rattle.std.proofs.Common.{false, refl, ap, arith}
use Rattle.std.proofs.Math.Logic.{∥∥₁_elim, ∥∥₁_prop}
use Rattle.aea_mirror.specs.Mirrored.{Kept}
use Rattle.aea_disk.specs.Files.{MayBeCut}
use Rattle.aea_disk.proofs.Frames.{cut_anyway}
use Rattle.aea_mirror.proofs.Calls.{shown_time, shown_follows, shown_settles, refused_time, not_refused_cut, cut_sure}
use Rattle.aea_mirror.proofs.Guards.{guards_stay, cut_begins}
use Rattle.aea_mirror.proofs.Written.{cut_is_shown}
use Rattle.aea_mirror.proofs.Seeing.{changed_copies}
use Rattle.aea_mirror.proofs.mirror.MirrorDisk.cut.Goals as goal

pub returns-then-refuses_cut-clause-time : goal.returns-then-refuses_cut-clause-time
returns-then-refuses_cut-clause-time g c =
    let m = c.args.self.now in
    let n = c.refuse.new.self in
    let k : Kept = (record { name = m.disk.ghost_name; on = m.on; end = m.end; dead = m.dead; own = m.own }) in
    let l : Kept = record { name = n.disk.ghost_name; on = n.on; end = n.end; dead = n.dead; own = n.own } in
    refused_time g.D.Disk.reveals (g.D.Disk.state m.disk.now) (g.D.Disk.state n.disk.now) k l (ap g.D.Disk.state c.refuse.ensures.disk) c.refuse.ensures.on c.refuse.ensures.same

pub invariant_of-self : goal.invariant_of-self
invariant_of-self g c =
    let m = c.args.self.now in
    let near = not_refused_cut c.args.file c.args.len m.dead m.on m.end false refl c.if-refuses_cut.ensures.refused in
    let s = g.D.Disk.state m.disk.now in
    let t = g.D.Disk.state c.cut.new.self in
    record {
      near = m.near;
      guards = λ alive revealed.
          ∥∥₁_elim (m.guards alive revealed) ∥∥₁_prop (λ was.
          ∣ guards_stay c.args.file m.end (MayBeCut c.args.len) s t m.on m.first m.second near.near
          (λ on zero. λ text old new size begins cut. cut_begins text c.args.len old new (let past = near.after on zero in omega (arith, past, size)) begins cut)
          (cut_anyway g.D.Disk.reveals c.args.file c.args.len s.files t.files c.cut.result c.cut.ensures.cut c.cut.ensures.torn revealed) c.cut.ensures.crash c.cut.ensures.time was ∣₁);
    }

pub returns-clause-crash : goal.returns-clause-crash
returns-clause-crash g c =
    let m = c.args.self.now in
    let near = not_refused_cut c.args.file c.args.len m.dead m.on m.end false refl c.if-refuses_cut.ensures.refused in
    shown_follows g.D.Disk.reveals c.args.file (MayBeCut c.args.len) (g.D.Disk.state m.disk.now) (g.D.Disk.state c.cut.new.self) (record { name = m.disk.ghost_name; on = m.on; end = m.end; dead = m.dead; own = m.own }) (record { name = m.disk.ghost_name; on = m.on; end = m.end; dead = m.dead; own = m.own })
    (λ revealed. cut_is_shown (g.D.Disk.state m.disk.now) c.args.file c.args.len m.on m.end m.first m.second near (m.guards near.alive revealed)) c.cut.ensures.crash

pub returns-clause-settled : goal.returns-clause-settled
returns-clause-settled g c =
    let m = c.args.self.now in
    shown_settles g.D.Disk.reveals (g.D.Disk.state m.disk.now) (g.D.Disk.state c.cut.new.self) (record { name = m.disk.ghost_name; on = m.on; end = m.end; dead = m.dead; own = m.own }) (record { name = m.disk.ghost_name; on = m.on; end = m.end; dead = m.dead; own = m.own }) c.cut.ensures.settled

pub returns-clause-time : goal.returns-clause-time
returns-clause-time g c =
    let m = c.args.self.now in
    let near = not_refused_cut c.args.file c.args.len m.dead m.on m.end false refl c.if-refuses_cut.ensures.refused in
    shown_time g.D.Disk.reveals (g.D.Disk.state m.disk.now) (g.D.Disk.state c.cut.new.self) (record { name = m.disk.ghost_name; on = m.on; end = m.end; dead = m.dead; own = m.own }) (record { name = m.disk.ghost_name; on = m.on; end = m.end; dead = m.dead; own = m.own }) refl refl c.cut.ensures.cause.kept (changed_copies g.D.Disk.reveals m.on c.args.file (MayBeCut c.args.len) (g.D.Disk.state m.disk.now) (g.D.Disk.state c.cut.new.self) near.near c.cut.ensures.crash) c.cut.ensures.time

pub returns-clause-sure : goal.returns-clause-sure
returns-clause-sure g c =
    let m = c.args.self.now in
    let near = not_refused_cut c.args.file c.args.len m.dead m.on m.end false refl c.if-refuses_cut.ensures.refused in
    cut_sure g.D.Disk.reveals c.args.file c.args.len (g.D.Disk.state m.disk.now) (g.D.Disk.state c.cut.new.self) (record { name = m.disk.ghost_name; on = m.on; end = m.end; dead = m.dead; own = m.own }) c.cut.result near
    (λ free. g.met.D.Disk.free_taken m.disk.now c.args.file ((g.D.Disk.state m.disk.now).files 0) 0 free)
    c.cut.ensures.cause c.cut.ensures.sure c.cut.ensures.cut

pub returns-then-refuses_cut-clause-same : goal.returns-then-refuses_cut-clause-same
returns-then-refuses_cut-clause-same g c = let e = c.refuse.ensures in (e.on, e.end, e.first, e.second, e.dead)
