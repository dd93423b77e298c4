use Rattle.std.proofs.Common.{refl}
use Rattle.std.proofs.Math.Logic.{∥∥₁_elim, ∥∥₁_prop}
use Rattle.aea_mirror.proofs.Calls.{shown_time}
use Rattle.aea_mirror.proofs.Guards.{guards_read}
use Rattle.aea_disk.proofs.Moments.{passes_none}
use Rattle.aea_mirror.specs.Mirrored.{mirror_state}
use Rattle.aea_mirror.proofs.Seeing.{kept_copies}
use Rattle.aea_mirror.proofs.mirror.MirrorDisk.len.Goals as goal

pub invariant_of-self : goal.invariant_of-self
invariant_of-self g c =
    let m = c.args.self.now in
    let s = g.D.Disk.state m.disk.now in
    let t = g.D.Disk.state c.len.new.self in
    record {
      near = m.near;
      guards = λ alive revealed. ∥∥₁_elim (m.guards alive revealed) ∥∥₁_prop (λ was. ∣ guards_read s t m.on m.end m.first m.second (c.len.ensures.contents revealed) c.len.ensures.crash c.len.ensures.time was ∣₁);
    }

pub returns-clause-time : goal.returns-clause-time
returns-clause-time g c =
    let m = c.args.self.now in
    shown_time g.D.Disk.reveals (g.D.Disk.state m.disk.now) (g.D.Disk.state c.len.new.self) (record { name = m.disk.ghost_name; on = m.on; end = m.end; dead = m.dead; own = m.own }) (record { name = m.disk.ghost_name; on = m.on; end = m.end; dead = m.dead; own = m.own }) refl refl c.len.ensures.cause.kept (kept_copies g.D.Disk.reveals m.on (g.D.Disk.state m.disk.now) (g.D.Disk.state c.len.new.self) c.len.ensures.crash) c.len.ensures.time

pub returns-then-file-gt64-clause-time : goal.returns-then-file-gt64-clause-time
returns-then-file-gt64-clause-time g c =
    let m = c.args.self.now in
    passes_none (mirror_state g.D.Disk.reveals (g.D.Disk.state m.disk.now) (record { name = m.disk.ghost_name; on = m.on; end = m.end; dead = m.dead; own = m.own }))
