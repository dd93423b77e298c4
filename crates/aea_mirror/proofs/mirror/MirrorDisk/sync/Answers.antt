use Rattle.std.proofs.Common.{◌≡◌, ◌≤◌, Bool, true, false, refl, sym, ◌∙◌, ap, subst, arith}
use Rattle.std.proofs.Math.Logic.{∥∥₁_elim, ∥∥₁_prop}
use Rattle.aea_disk.specs.Files.{Files, KeepsFiles}
use Rattle.aea_disk.specs.State.{State, Passes, KeepsImages, Settles}
use Rattle.aea_mirror.specs.declared.further.Further.TheVariants.{Nothing, Until, Broken}
use Rattle.aea_mirror.specs.Guarding.{Guards}
use Rattle.aea_mirror.specs.Mirrored.{Kept, mirror_state}
use Rattle.aea_mirror.proofs.Calls.{shown_time, refused_time}
use Rattle.aea_mirror.proofs.Guards.{guards_read}
use Rattle.aea_mirror.proofs.Catching.{looked, none_settled, gates_shut, whole_kept}
use Rattle.aea_mirror.proofs.Ended.{on_here, off_here, shut_at_end, off_durable, never_sure, broken_never, none_never}
use Rattle.aea_mirror.proofs.Seeing.{kept_copies}
use Rattle.aea_mirror.proofs.Syncing.{sync_durable}
use Rattle.aea_mirror.proofs.Syncs.{known_now, time_now, time_then, found_now, more_kept, more_settled, more_good, more_known, more_durable, more_sure, less_sure, nothing_ends, until_ends}
use Rattle.aea_mirror.proofs.mirror.MirrorDisk.sync.Goals as goal

pub returns-then-self-clause-time : goal.returns-then-self-clause-time
returns-then-self-clause-time g c =
    let m = c.args.self.now in
    let n = c.refuse.new.self in
    let k : Kept = (record { name = m.disk.ghost_name; on = m.on; end = m.end; dead = m.dead; own = m.own }) in
    let l : Kept = record { name = n.disk.ghost_name; on = n.on; end = n.end; dead = n.dead; own = n.own } in
    refused_time g.D.Disk.reveals (g.D.Disk.state m.disk.now) (g.D.Disk.state n.disk.now) k l (ap g.D.Disk.state c.refuse.ensures.disk) c.refuse.ensures.on c.refuse.ensures.same

pub invariant_of-self : goal.invariant_of-self
invariant_of-self g c =
    let m = c.args.self.now in
    let r = g.D.Disk.state m.disk.now in
    let b = g.D.Disk.state c.sync.new.self in
    let e = c.in_err-sync.ensures in
    record {
      near = m.near;
      guards = λ alive revealed. ∥∥₁_elim (m.guards alive revealed) ∥∥₁_prop (λ was. ∣ guards_read r b m.on m.end m.first m.second (e.contents revealed) e.crash e.time was ∣₁);
    }

pub returns-in_err-sync-clause-time : goal.returns-in_err-sync-clause-time
returns-in_err-sync-clause-time g c =
    let m = c.args.self.now in
    shown_time g.D.Disk.reveals (g.D.Disk.state m.disk.now) (g.D.Disk.state c.sync.new.self) (record { name = m.disk.ghost_name; on = m.on; end = m.end; dead = m.dead; own = m.own }) (record { name = m.disk.ghost_name; on = m.on; end = m.end; dead = m.dead; own = m.own }) refl refl c.in_err-sync.ensures.cause.kept (kept_copies g.D.Disk.reveals m.on (g.D.Disk.state m.disk.now) (g.D.Disk.state c.sync.new.self) c.in_err-sync.ensures.crash) c.in_err-sync.ensures.time

pub invariant_of-self-then-not-self : goal.invariant_of-self-then-not-self
invariant_of-self-then-not-self g c =
    let reveals = g.D.Disk.reveals in
    let m = c.args.self.now in
    let r = g.D.Disk.state m.disk.now in
    let b = g.D.Disk.state c.sync.new.self in
    let e = c.in_ok-sync.ensures in
    record {
      near = m.near;
      guards = λ alive revealed. ∥∥₁_elim (m.guards alive revealed) ∥∥₁_prop (λ was. ∣ guards_read r b m.on m.end m.first m.second (e.contents revealed) e.crash e.time was ∣₁);
    }

pub returns-then-not-self-clause-durable : goal.returns-then-not-self-clause-durable
returns-then-not-self-clause-durable g c =
    let reveals = g.D.Disk.reveals in
    let m = c.args.self.now in
    let r = g.D.Disk.state m.disk.now in
    let b = g.D.Disk.state c.sync.new.self in
    let e = c.in_ok-sync.ensures in
    λ revealed_. off_durable reveals b m.on m.end m.first m.second (record { name = m.disk.ghost_name; on = m.on; end = m.end; dead = m.dead; own = m.own }) (off_here m.on (λ is. let h = c.if-not-self.true in cc)) e.durable
    (λ revealed. ∥∥₁_elim (m.guards c.if-self.false revealed) ∥∥₁_prop (λ was. ∣ guards_read r b m.on m.end m.first m.second (e.contents revealed) e.crash e.time was ∣₁))

pub invariant_of-self-in-Break-branch-2 : goal.invariant_of-self-in-Break-branch-2
invariant_of-self-in-Break-branch-2 g c =
    let m = c.args.self.now in
    let e = c.in_ok-sync.ensures in
    record {
      near = m.near;
      guards = λ alive revealed. known_now g.D.Disk.reveals _ (g.D.Disk.state m.disk.now) (g.D.Disk.state c.sync.new.self) (g.D.Disk.state c.look_further.new.disk) m.on m.end m.first m.second e.contents e.crash e.time c.in_err-look_further.ensures.reads (m.guards alive) revealed;
    }

pub invariant_of-self-in-Nothing : goal.invariant_of-self-in-Nothing
invariant_of-self-in-Nothing g c =
    let m = c.args.self.now in
    let e = c.in_ok-sync.ensures in
    record {
      near = m.near;
      guards = λ alive revealed. known_now g.D.Disk.reveals _ (g.D.Disk.state m.disk.now) (g.D.Disk.state c.sync.new.self) (g.D.Disk.state c.look_further.new.disk) m.on m.end m.first m.second e.contents e.crash e.time c.in_ok-look_further.ensures.reads (m.guards alive) revealed;
    }

pub invariant_of-self-in-Broken : goal.invariant_of-self-in-Broken
invariant_of-self-in-Broken g c =
    let m = c.args.self.now in
    let e = c.in_ok-sync.ensures in
    record {
      near = m.near;
      guards = λ alive revealed. known_now g.D.Disk.reveals _ (g.D.Disk.state m.disk.now) (g.D.Disk.state c.sync.new.self) (g.D.Disk.state c.look_further.new.disk) m.on m.end m.first m.second e.contents e.crash e.time c.in_ok-look_further.ensures.reads (m.guards alive) revealed;
    }

pub returns-in_err-look_further-clause-settled : goal.returns-in_err-look_further-clause-settled
returns-in_err-look_further-clause-settled g c =
    let m = c.args.self.now in
    let e = c.in_ok-sync.ensures in
    let on : m.on ≡ true = on_here m.on (λ is. let h = c.if-not-self.false in cc) in
    let now = looked g.D.Disk.reveals (true ≡ true) (g.D.Disk.state m.disk.now) (g.D.Disk.state c.sync.new.self) (g.D.Disk.state c.look_further.new.disk) m.on m.end m.first m.second on e.contents e.crash e.settled e.time e.cause.kept e.durable (m.guards c.if-self.false) c.in_err-look_further.ensures.reads in
    none_settled g.D.Disk.reveals (g.D.Disk.state m.disk.now) (g.D.Disk.state c.look_further.new.disk) (record { name = m.disk.ghost_name; on = m.on; end = m.end; dead = m.dead; own = m.own }) (record { name = m.disk.ghost_name; on = m.on; end = m.end; dead = m.dead; own = m.own }) m.end m.first m.second now (λ t d revealed here. g.met.D.Disk.as_it_reads m.disk.now t d revealed here) (λ t d revealed here. g.met.D.Disk.as_it_reads c.look_further.new.disk t d revealed here)

pub returns-in_err-look_further-clause-time : goal.returns-in_err-look_further-clause-time
returns-in_err-look_further-clause-time g c =
    let m = c.args.self.now in
    let e = c.in_ok-sync.ensures in
    time_now g.D.Disk.reveals (true ≡ true) (g.D.Disk.state m.disk.now) (g.D.Disk.state c.sync.new.self) (g.D.Disk.state c.look_further.new.disk) (record { name = m.disk.ghost_name; on = m.on; end = m.end; dead = m.dead; own = m.own }) (record { name = m.disk.ghost_name; on = m.on; end = m.end; dead = m.dead; own = m.own }) refl refl e.cause.kept e.crash e.time c.in_err-look_further.ensures.reads

pub returns-in-Nothing-clause-settled : goal.returns-in-Nothing-clause-settled
returns-in-Nothing-clause-settled g c =
    let m = c.args.self.now in
    let e = c.in_ok-sync.ensures in
    let on : m.on ≡ true = on_here m.on (λ is. let h = c.if-not-self.false in cc) in
    let now = looked g.D.Disk.reveals (false ≡ true) (g.D.Disk.state m.disk.now) (g.D.Disk.state c.sync.new.self) (g.D.Disk.state c.look_further.new.disk) m.on m.end m.first m.second on e.contents e.crash e.settled e.time e.cause.kept e.durable (m.guards c.if-self.false) c.in_ok-look_further.ensures.reads in
    none_settled g.D.Disk.reveals (g.D.Disk.state m.disk.now) (g.D.Disk.state c.look_further.new.disk) (record { name = m.disk.ghost_name; on = m.on; end = m.end; dead = m.dead; own = m.own }) (record { name = m.disk.ghost_name; on = m.on; end = m.end; dead = m.dead; own = m.own }) m.end m.first m.second now (λ t d revealed here. g.met.D.Disk.as_it_reads m.disk.now t d revealed here) (λ t d revealed here. g.met.D.Disk.as_it_reads c.look_further.new.disk t d revealed here)

pub returns-in-Nothing-clause-time : goal.returns-in-Nothing-clause-time
returns-in-Nothing-clause-time g c =
    let m = c.args.self.now in
    let e = c.in_ok-sync.ensures in
    time_now g.D.Disk.reveals (false ≡ true) (g.D.Disk.state m.disk.now) (g.D.Disk.state c.sync.new.self) (g.D.Disk.state c.look_further.new.disk) (record { name = m.disk.ghost_name; on = m.on; end = m.end; dead = m.dead; own = m.own }) (record { name = m.disk.ghost_name; on = m.on; end = m.end; dead = m.dead; own = m.own }) refl refl e.cause.kept e.crash e.time c.in_ok-look_further.ensures.reads

pub returns-in-Nothing-clause-durable : goal.returns-in-Nothing-clause-durable
returns-in-Nothing-clause-durable g c =
    λ revealed.
    let m = c.args.self.now in
    let e = c.in_ok-sync.ensures in
    let on : m.on ≡ true = on_here m.on (λ is. let h = c.if-not-self.false in cc) in
    let now = looked g.D.Disk.reveals (false ≡ true) (g.D.Disk.state m.disk.now) (g.D.Disk.state c.sync.new.self) (g.D.Disk.state c.look_further.new.disk) m.on m.end m.first m.second on e.contents e.crash e.settled e.time e.cause.kept e.durable (m.guards c.if-self.false) c.in_ok-look_further.ensures.reads in
    let same = ap (λ (x : Files). x 0) (c.in_ok-look_further.ensures.reads.contents revealed) in
    let found = (rw c.in-Nothing.is at c.in_ok-look_further.ensures.further) revealed in
    sync_durable g.D.Disk.reveals (g.D.Disk.state c.look_further.new.disk) (record { name = m.disk.ghost_name; on = m.on; end = m.end; dead = m.dead; own = m.own }) now.synced (λ revealed_. whole_kept (g.D.Disk.state c.look_further.new.disk) m.end m.first m.second (now.guards revealed) (shut_at_end (g.D.Disk.state c.sync.new.self) (g.D.Disk.state c.look_further.new.disk) m.end m.first m.second same (now.guards revealed) found))

pub returns-in-Broken-clause-settled : goal.returns-in-Broken-clause-settled
returns-in-Broken-clause-settled g c =
    let m = c.args.self.now in
    let e = c.in_ok-sync.ensures in
    let on : m.on ≡ true = on_here m.on (λ is. let h = c.if-not-self.false in cc) in
    let now = looked g.D.Disk.reveals (false ≡ true) (g.D.Disk.state m.disk.now) (g.D.Disk.state c.sync.new.self) (g.D.Disk.state c.look_further.new.disk) m.on m.end m.first m.second on e.contents e.crash e.settled e.time e.cause.kept e.durable (m.guards c.if-self.false) c.in_ok-look_further.ensures.reads in
    let q = c.refuse-in-Broken.new.self in
    let same : g.D.Disk.state q.disk.now ≡ (g.D.Disk.state c.look_further.new.disk) = ap g.D.Disk.state c.refuse-in-Broken.ensures.disk in
    subst (λ (u : State). Settles (mirror_state g.D.Disk.reveals (g.D.Disk.state m.disk.now) (record { name = m.disk.ghost_name; on = m.on; end = m.end; dead = m.dead; own = m.own })) (mirror_state g.D.Disk.reveals u (record { name = q.disk.ghost_name; on = q.on; end = q.end; dead = q.dead; own = q.own }))) (sym same)
    (none_settled g.D.Disk.reveals (g.D.Disk.state m.disk.now) (g.D.Disk.state c.look_further.new.disk) (record { name = m.disk.ghost_name; on = m.on; end = m.end; dead = m.dead; own = m.own }) (record { name = q.disk.ghost_name; on = q.on; end = q.end; dead = q.dead; own = q.own }) m.end m.first m.second now (λ t d revealed here. g.met.D.Disk.as_it_reads m.disk.now t d revealed here) (λ t d revealed here. g.met.D.Disk.as_it_reads c.look_further.new.disk t d revealed here))

pub returns-in-Broken-clause-time : goal.returns-in-Broken-clause-time
returns-in-Broken-clause-time g c =
    let m = c.args.self.now in
    let e = c.in_ok-sync.ensures in
    let q = c.refuse-in-Broken.new.self in
    let same : g.D.Disk.state q.disk.now ≡ (g.D.Disk.state c.look_further.new.disk) = ap g.D.Disk.state c.refuse-in-Broken.ensures.disk in
    subst (λ (u : State). Passes (mirror_state g.D.Disk.reveals (g.D.Disk.state m.disk.now) (record { name = m.disk.ghost_name; on = m.on; end = m.end; dead = m.dead; own = m.own })) (mirror_state g.D.Disk.reveals u (record { name = q.disk.ghost_name; on = q.on; end = q.end; dead = q.dead; own = q.own }))) (sym same)
    (time_now g.D.Disk.reveals (false ≡ true) (g.D.Disk.state m.disk.now) (g.D.Disk.state c.sync.new.self) (g.D.Disk.state c.look_further.new.disk) (record { name = m.disk.ghost_name; on = m.on; end = m.end; dead = m.dead; own = m.own }) (record { name = q.disk.ghost_name; on = q.on; end = q.end; dead = q.dead; own = q.own }) c.refuse-in-Broken.ensures.on c.refuse-in-Broken.ensures.same e.cause.kept e.crash e.time c.in_ok-look_further.ensures.reads)

pub returns-in-Broken-clause-sure : goal.returns-in-Broken-clause-sure
returns-in-Broken-clause-sure g c =
    let m = c.args.self.now in
    let e = c.in_ok-sync.ensures in
    let on : m.on ≡ true = on_here m.on (λ is. let h = c.if-not-self.false in cc) in
    let now = looked g.D.Disk.reveals (false ≡ true) (g.D.Disk.state m.disk.now) (g.D.Disk.state c.sync.new.self) (g.D.Disk.state c.look_further.new.disk) m.on m.end m.first m.second on e.contents e.crash e.settled e.time e.cause.kept e.durable (m.guards c.if-self.false) c.in_ok-look_further.ensures.reads in
    let q = c.refuse-in-Broken.new.self in
    let found = found_now g.D.Disk.reveals (false ≡ true) (g.D.Disk.state c.sync.new.self) (g.D.Disk.state c.look_further.new.disk) m.end m.first.gate Broken c.in_ok-look_further.ensures.reads (rw c.in-Broken.is at c.in_ok-look_further.ensures.further) in
    never_sure _ _ (mirror_state g.D.Disk.reveals (g.D.Disk.state m.disk.now) (record { name = m.disk.ghost_name; on = m.on; end = m.end; dead = m.dead; own = m.own })) (mirror_state g.D.Disk.reveals (g.D.Disk.state q.disk.now) (record { name = q.disk.ghost_name; on = q.on; end = q.end; dead = q.dead; own = q.own })) _
    (broken_never g.D.Disk.reveals (g.D.Disk.state m.disk.now) (g.D.Disk.state c.look_further.new.disk) (record { name = m.disk.ghost_name; on = m.on; end = m.end; dead = m.dead; own = m.own }) m.first m.second on (λ revealed. ap (λ (x : Files). x 0) (now.contents revealed)) now.guards found)

pub extend_both-requires-clause-shut : goal.extend_both-requires-clause-shut
extend_both-requires-clause-shut g c =
    λ revealed.
    let m = c.args.self.now in
    let e = c.in_ok-sync.ensures in
    let on : m.on ≡ true = on_here m.on (λ is. let h = c.if-not-self.false in cc) in
    let now = looked g.D.Disk.reveals (false ≡ true) (g.D.Disk.state m.disk.now) (g.D.Disk.state c.sync.new.self) (g.D.Disk.state c.look_further.new.disk) m.on m.end m.first m.second on e.contents e.crash e.settled e.time e.cause.kept e.durable (m.guards c.if-self.false) c.in_ok-look_further.ensures.reads in
    gates_shut (g.D.Disk.state c.look_further.new.disk) m.end m.first m.second (now.guards revealed)

pub returns-in-Ok-Some-clause-crash : goal.returns-in-Ok-Some-clause-crash
returns-in-Ok-Some-clause-crash g c =
    let m = c.args.self.now in
    let e = c.in_ok-sync.ensures in
    let on : m.on ≡ true = on_here m.on (λ is. let h = c.if-not-self.false in cc) in
    let now = looked g.D.Disk.reveals (false ≡ true) (g.D.Disk.state m.disk.now) (g.D.Disk.state c.sync.new.self) (g.D.Disk.state c.look_further.new.disk) m.on m.end m.first m.second on e.contents e.crash e.settled e.time e.cause.kept e.durable (m.guards c.if-self.false) c.in_ok-look_further.ensures.reads in
    let found = found_now g.D.Disk.reveals (false ≡ true) (g.D.Disk.state c.sync.new.self) (g.D.Disk.state c.look_further.new.disk) m.end m.first.gate (Until c.in-Until.last) c.in_ok-look_further.ensures.reads (rw c.in-Until.is at c.in_ok-look_further.ensures.further) in
    let l : Kept = record { name = m.disk.ghost_name; on = m.on; end = c.in-Until.last; dead = m.dead; own = m.own } in
    more_kept g.D.Disk.reveals (g.D.Disk.state m.disk.now) (g.D.Disk.state c.look_further.new.disk) (g.D.Disk.state c.extend_both.new.disk) (record { name = m.disk.ghost_name; on = m.on; end = m.end; dead = m.dead; own = m.own }) l c.in-Until.last m.first m.second now found c.in-Ok-Some.ensures.phase (λ t d revealed here. g.met.D.Disk.as_it_reads m.disk.now t d revealed here) (λ t d revealed here. g.met.D.Disk.as_it_reads c.look_further.new.disk t d revealed here) c.in-Ok-Some.ensures.bodies

pub returns-in-Ok-Some-clause-settled : goal.returns-in-Ok-Some-clause-settled
returns-in-Ok-Some-clause-settled g c =
    let m = c.args.self.now in
    let e = c.in_ok-sync.ensures in
    let on : m.on ≡ true = on_here m.on (λ is. let h = c.if-not-self.false in cc) in
    let now = looked g.D.Disk.reveals (false ≡ true) (g.D.Disk.state m.disk.now) (g.D.Disk.state c.sync.new.self) (g.D.Disk.state c.look_further.new.disk) m.on m.end m.first m.second on e.contents e.crash e.settled e.time e.cause.kept e.durable (m.guards c.if-self.false) c.in_ok-look_further.ensures.reads in
    let found = found_now g.D.Disk.reveals (false ≡ true) (g.D.Disk.state c.sync.new.self) (g.D.Disk.state c.look_further.new.disk) m.end m.first.gate (Until c.in-Until.last) c.in_ok-look_further.ensures.reads (rw c.in-Until.is at c.in_ok-look_further.ensures.further) in
    let l : Kept = record { name = m.disk.ghost_name; on = m.on; end = c.in-Until.last; dead = m.dead; own = m.own } in
    more_settled g.D.Disk.reveals (g.D.Disk.state m.disk.now) (g.D.Disk.state c.look_further.new.disk) (g.D.Disk.state c.extend_both.new.disk) (record { name = m.disk.ghost_name; on = m.on; end = m.end; dead = m.dead; own = m.own }) l c.in-Until.last m.first m.second now found c.in-Ok-Some.ensures.phase (λ t d revealed here. g.met.D.Disk.as_it_reads m.disk.now t d revealed here) (λ t d revealed here. g.met.D.Disk.as_it_reads c.look_further.new.disk t d revealed here) c.in-Ok-Some.ensures.bodies

pub returns-in-Ok-Some-clause-time : goal.returns-in-Ok-Some-clause-time
returns-in-Ok-Some-clause-time g c =
    let m = c.args.self.now in
    let e = c.in_ok-sync.ensures in
    let on : m.on ≡ true = on_here m.on (λ is. let h = c.if-not-self.false in cc) in
    let now = looked g.D.Disk.reveals (false ≡ true) (g.D.Disk.state m.disk.now) (g.D.Disk.state c.sync.new.self) (g.D.Disk.state c.look_further.new.disk) m.on m.end m.first m.second on e.contents e.crash e.settled e.time e.cause.kept e.durable (m.guards c.if-self.false) c.in_ok-look_further.ensures.reads in
    let found = found_now g.D.Disk.reveals (false ≡ true) (g.D.Disk.state c.sync.new.self) (g.D.Disk.state c.look_further.new.disk) m.end m.first.gate (Until c.in-Until.last) c.in_ok-look_further.ensures.reads (rw c.in-Until.is at c.in_ok-look_further.ensures.further) in
    let l : Kept = record { name = m.disk.ghost_name; on = m.on; end = c.in-Until.last; dead = m.dead; own = m.own } in
    time_then g.D.Disk.reveals (false ≡ true) _ _ _ (KeepsFiles (λ f. f ≤ 64)) (g.D.Disk.state m.disk.now) (g.D.Disk.state c.sync.new.self) (g.D.Disk.state c.look_further.new.disk) (g.D.Disk.state c.extend_both.new.disk) (record { name = m.disk.ghost_name; on = m.on; end = m.end; dead = m.dead; own = m.own }) l refl refl e.cause.kept (more_good g.D.Disk.reveals (g.D.Disk.state m.disk.now) (g.D.Disk.state c.look_further.new.disk) (g.D.Disk.state c.extend_both.new.disk) (record { name = m.disk.ghost_name; on = m.on; end = m.end; dead = m.dead; own = m.own }) l c.in-Until.last m.first m.second now found c.in-Ok-Some.ensures.phase (λ t d revealed here. g.met.D.Disk.as_it_reads m.disk.now t d revealed here) (λ t d revealed here. g.met.D.Disk.as_it_reads c.look_further.new.disk t d revealed here) c.in-Ok-Some.ensures.bodies on) e.time c.in_ok-look_further.ensures.reads c.in-Ok-Some.ensures.writes

pub returns-in-Ok-None-clause-crash : goal.returns-in-Ok-None-clause-crash
returns-in-Ok-None-clause-crash g c =
    let m = c.args.self.now in
    let e = c.in_ok-sync.ensures in
    let on : m.on ≡ true = on_here m.on (λ is. let h = c.if-not-self.false in cc) in
    let now = looked g.D.Disk.reveals (false ≡ true) (g.D.Disk.state m.disk.now) (g.D.Disk.state c.sync.new.self) (g.D.Disk.state c.look_further.new.disk) m.on m.end m.first m.second on e.contents e.crash e.settled e.time e.cause.kept e.durable (m.guards c.if-self.false) c.in_ok-look_further.ensures.reads in
    let found = found_now g.D.Disk.reveals (false ≡ true) (g.D.Disk.state c.sync.new.self) (g.D.Disk.state c.look_further.new.disk) m.end m.first.gate (Until c.in-Until.last) c.in_ok-look_further.ensures.reads (rw c.in-Until.is at c.in_ok-look_further.ensures.further) in
    let q = c.refuse-in-Ok-None.new.self in
    let same : g.D.Disk.state q.disk.now ≡ (g.D.Disk.state c.extend_both.new.disk) = ap g.D.Disk.state c.refuse-in-Ok-None.ensures.disk in
    subst (λ (u : State). KeepsImages (mirror_state g.D.Disk.reveals (g.D.Disk.state m.disk.now) (record { name = m.disk.ghost_name; on = m.on; end = m.end; dead = m.dead; own = m.own })) (mirror_state g.D.Disk.reveals u (record { name = q.disk.ghost_name; on = q.on; end = q.end; dead = q.dead; own = q.own }))) (sym same)
    (more_kept g.D.Disk.reveals (g.D.Disk.state m.disk.now) (g.D.Disk.state c.look_further.new.disk) (g.D.Disk.state c.extend_both.new.disk) (record { name = m.disk.ghost_name; on = m.on; end = m.end; dead = m.dead; own = m.own }) (record { name = q.disk.ghost_name; on = q.on; end = q.end; dead = q.dead; own = q.own }) c.in-Until.last m.first m.second now found c.in-Ok-None.ensures.phase (λ t d revealed here. g.met.D.Disk.as_it_reads m.disk.now t d revealed here) (λ t d revealed here. g.met.D.Disk.as_it_reads c.look_further.new.disk t d revealed here) c.in-Ok-None.ensures.bodies)

pub returns-in-Ok-None-clause-settled : goal.returns-in-Ok-None-clause-settled
returns-in-Ok-None-clause-settled g c =
    let m = c.args.self.now in
    let e = c.in_ok-sync.ensures in
    let on : m.on ≡ true = on_here m.on (λ is. let h = c.if-not-self.false in cc) in
    let now = looked g.D.Disk.reveals (false ≡ true) (g.D.Disk.state m.disk.now) (g.D.Disk.state c.sync.new.self) (g.D.Disk.state c.look_further.new.disk) m.on m.end m.first m.second on e.contents e.crash e.settled e.time e.cause.kept e.durable (m.guards c.if-self.false) c.in_ok-look_further.ensures.reads in
    let found = found_now g.D.Disk.reveals (false ≡ true) (g.D.Disk.state c.sync.new.self) (g.D.Disk.state c.look_further.new.disk) m.end m.first.gate (Until c.in-Until.last) c.in_ok-look_further.ensures.reads (rw c.in-Until.is at c.in_ok-look_further.ensures.further) in
    let q = c.refuse-in-Ok-None.new.self in
    let same : g.D.Disk.state q.disk.now ≡ (g.D.Disk.state c.extend_both.new.disk) = ap g.D.Disk.state c.refuse-in-Ok-None.ensures.disk in
    subst (λ (u : State). Settles (mirror_state g.D.Disk.reveals (g.D.Disk.state m.disk.now) (record { name = m.disk.ghost_name; on = m.on; end = m.end; dead = m.dead; own = m.own })) (mirror_state g.D.Disk.reveals u (record { name = q.disk.ghost_name; on = q.on; end = q.end; dead = q.dead; own = q.own }))) (sym same)
    (more_settled g.D.Disk.reveals (g.D.Disk.state m.disk.now) (g.D.Disk.state c.look_further.new.disk) (g.D.Disk.state c.extend_both.new.disk) (record { name = m.disk.ghost_name; on = m.on; end = m.end; dead = m.dead; own = m.own }) (record { name = q.disk.ghost_name; on = q.on; end = q.end; dead = q.dead; own = q.own }) c.in-Until.last m.first m.second now found c.in-Ok-None.ensures.phase (λ t d revealed here. g.met.D.Disk.as_it_reads m.disk.now t d revealed here) (λ t d revealed here. g.met.D.Disk.as_it_reads c.look_further.new.disk t d revealed here) c.in-Ok-None.ensures.bodies)

pub returns-in-Ok-None-clause-time : goal.returns-in-Ok-None-clause-time
returns-in-Ok-None-clause-time g c =
    let m = c.args.self.now in
    let e = c.in_ok-sync.ensures in
    let on : m.on ≡ true = on_here m.on (λ is. let h = c.if-not-self.false in cc) in
    let now = looked g.D.Disk.reveals (false ≡ true) (g.D.Disk.state m.disk.now) (g.D.Disk.state c.sync.new.self) (g.D.Disk.state c.look_further.new.disk) m.on m.end m.first m.second on e.contents e.crash e.settled e.time e.cause.kept e.durable (m.guards c.if-self.false) c.in_ok-look_further.ensures.reads in
    let found = found_now g.D.Disk.reveals (false ≡ true) (g.D.Disk.state c.sync.new.self) (g.D.Disk.state c.look_further.new.disk) m.end m.first.gate (Until c.in-Until.last) c.in_ok-look_further.ensures.reads (rw c.in-Until.is at c.in_ok-look_further.ensures.further) in
    let q = c.refuse-in-Ok-None.new.self in
    let same : g.D.Disk.state q.disk.now ≡ (g.D.Disk.state c.extend_both.new.disk) = ap g.D.Disk.state c.refuse-in-Ok-None.ensures.disk in
    subst (λ (u : State). Passes (mirror_state g.D.Disk.reveals (g.D.Disk.state m.disk.now) (record { name = m.disk.ghost_name; on = m.on; end = m.end; dead = m.dead; own = m.own })) (mirror_state g.D.Disk.reveals u (record { name = q.disk.ghost_name; on = q.on; end = q.end; dead = q.dead; own = q.own }))) (sym same)
    (time_then g.D.Disk.reveals (false ≡ true) _ _ _ (KeepsFiles (λ f. f ≤ 64)) (g.D.Disk.state m.disk.now) (g.D.Disk.state c.sync.new.self) (g.D.Disk.state c.look_further.new.disk) (g.D.Disk.state c.extend_both.new.disk) (record { name = m.disk.ghost_name; on = m.on; end = m.end; dead = m.dead; own = m.own }) (record { name = q.disk.ghost_name; on = q.on; end = q.end; dead = q.dead; own = q.own }) c.refuse-in-Ok-None.ensures.on c.refuse-in-Ok-None.ensures.same e.cause.kept (more_good g.D.Disk.reveals (g.D.Disk.state m.disk.now) (g.D.Disk.state c.look_further.new.disk) (g.D.Disk.state c.extend_both.new.disk) (record { name = m.disk.ghost_name; on = m.on; end = m.end; dead = m.dead; own = m.own }) (record { name = q.disk.ghost_name; on = q.on; end = q.end; dead = q.dead; own = q.own }) c.in-Until.last m.first m.second now found c.in-Ok-None.ensures.phase (λ t d revealed here. g.met.D.Disk.as_it_reads m.disk.now t d revealed here) (λ t d revealed here. g.met.D.Disk.as_it_reads c.look_further.new.disk t d revealed here) c.in-Ok-None.ensures.bodies on) e.time c.in_ok-look_further.ensures.reads c.in-Ok-None.ensures.writes)

pub returns-in-Err-clause-crash : goal.returns-in-Err-clause-crash
returns-in-Err-clause-crash g c =
    let m = c.args.self.now in
    let e = c.in_ok-sync.ensures in
    let on : m.on ≡ true = on_here m.on (λ is. let h = c.if-not-self.false in cc) in
    let now = looked g.D.Disk.reveals (false ≡ true) (g.D.Disk.state m.disk.now) (g.D.Disk.state c.sync.new.self) (g.D.Disk.state c.look_further.new.disk) m.on m.end m.first m.second on e.contents e.crash e.settled e.time e.cause.kept e.durable (m.guards c.if-self.false) c.in_ok-look_further.ensures.reads in
    let found = found_now g.D.Disk.reveals (false ≡ true) (g.D.Disk.state c.sync.new.self) (g.D.Disk.state c.look_further.new.disk) m.end m.first.gate (Until c.in-Until.last) c.in_ok-look_further.ensures.reads (rw c.in-Until.is at c.in_ok-look_further.ensures.further) in
    let l : Kept = record { name = m.disk.ghost_name; on = m.on; end = m.end; dead = true; own = m.own } in
    more_kept g.D.Disk.reveals (g.D.Disk.state m.disk.now) (g.D.Disk.state c.look_further.new.disk) (g.D.Disk.state c.extend_both.new.disk) (record { name = m.disk.ghost_name; on = m.on; end = m.end; dead = m.dead; own = m.own }) l c.in-Until.last m.first m.second now found c.in-Err.ensures.phase (λ t d revealed here. g.met.D.Disk.as_it_reads m.disk.now t d revealed here) (λ t d revealed here. g.met.D.Disk.as_it_reads c.look_further.new.disk t d revealed here) c.in-Err.ensures.bodies

pub returns-in-Err-clause-settled : goal.returns-in-Err-clause-settled
returns-in-Err-clause-settled g c =
    let m = c.args.self.now in
    let e = c.in_ok-sync.ensures in
    let on : m.on ≡ true = on_here m.on (λ is. let h = c.if-not-self.false in cc) in
    let now = looked g.D.Disk.reveals (false ≡ true) (g.D.Disk.state m.disk.now) (g.D.Disk.state c.sync.new.self) (g.D.Disk.state c.look_further.new.disk) m.on m.end m.first m.second on e.contents e.crash e.settled e.time e.cause.kept e.durable (m.guards c.if-self.false) c.in_ok-look_further.ensures.reads in
    let found = found_now g.D.Disk.reveals (false ≡ true) (g.D.Disk.state c.sync.new.self) (g.D.Disk.state c.look_further.new.disk) m.end m.first.gate (Until c.in-Until.last) c.in_ok-look_further.ensures.reads (rw c.in-Until.is at c.in_ok-look_further.ensures.further) in
    let l : Kept = record { name = m.disk.ghost_name; on = m.on; end = m.end; dead = true; own = m.own } in
    more_settled g.D.Disk.reveals (g.D.Disk.state m.disk.now) (g.D.Disk.state c.look_further.new.disk) (g.D.Disk.state c.extend_both.new.disk) (record { name = m.disk.ghost_name; on = m.on; end = m.end; dead = m.dead; own = m.own }) l c.in-Until.last m.first m.second now found c.in-Err.ensures.phase (λ t d revealed here. g.met.D.Disk.as_it_reads m.disk.now t d revealed here) (λ t d revealed here. g.met.D.Disk.as_it_reads c.look_further.new.disk t d revealed here) c.in-Err.ensures.bodies

pub returns-in-Err-clause-time : goal.returns-in-Err-clause-time
returns-in-Err-clause-time g c =
    let m = c.args.self.now in
    let e = c.in_ok-sync.ensures in
    let on : m.on ≡ true = on_here m.on (λ is. let h = c.if-not-self.false in cc) in
    let now = looked g.D.Disk.reveals (false ≡ true) (g.D.Disk.state m.disk.now) (g.D.Disk.state c.sync.new.self) (g.D.Disk.state c.look_further.new.disk) m.on m.end m.first m.second on e.contents e.crash e.settled e.time e.cause.kept e.durable (m.guards c.if-self.false) c.in_ok-look_further.ensures.reads in
    let found = found_now g.D.Disk.reveals (false ≡ true) (g.D.Disk.state c.sync.new.self) (g.D.Disk.state c.look_further.new.disk) m.end m.first.gate (Until c.in-Until.last) c.in_ok-look_further.ensures.reads (rw c.in-Until.is at c.in_ok-look_further.ensures.further) in
    let l : Kept = record { name = m.disk.ghost_name; on = m.on; end = m.end; dead = true; own = m.own } in
    time_then g.D.Disk.reveals (false ≡ true) _ _ _ (KeepsFiles (λ f. f ≤ 64)) (g.D.Disk.state m.disk.now) (g.D.Disk.state c.sync.new.self) (g.D.Disk.state c.look_further.new.disk) (g.D.Disk.state c.extend_both.new.disk) (record { name = m.disk.ghost_name; on = m.on; end = m.end; dead = m.dead; own = m.own }) l refl refl e.cause.kept (more_good g.D.Disk.reveals (g.D.Disk.state m.disk.now) (g.D.Disk.state c.look_further.new.disk) (g.D.Disk.state c.extend_both.new.disk) (record { name = m.disk.ghost_name; on = m.on; end = m.end; dead = m.dead; own = m.own }) l c.in-Until.last m.first m.second now found c.in-Err.ensures.phase (λ t d revealed here. g.met.D.Disk.as_it_reads m.disk.now t d revealed here) (λ t d revealed here. g.met.D.Disk.as_it_reads c.look_further.new.disk t d revealed here) c.in-Err.ensures.bodies on) e.time c.in_ok-look_further.ensures.reads c.in-Err.ensures.writes

pub invariant_of-self-in-Ok-Some : goal.invariant_of-self-in-Ok-Some
invariant_of-self-in-Ok-Some g c =
    let m = c.args.self.now in
    let e = c.in_ok-sync.ensures in
    let on : m.on ≡ true = on_here m.on (λ is. let h = c.if-not-self.false in cc) in
    let now = looked g.D.Disk.reveals (false ≡ true) (g.D.Disk.state m.disk.now) (g.D.Disk.state c.sync.new.self) (g.D.Disk.state c.look_further.new.disk) m.on m.end m.first m.second on e.contents e.crash e.settled e.time e.cause.kept e.durable (m.guards c.if-self.false) c.in_ok-look_further.ensures.reads in
    let found = found_now g.D.Disk.reveals (false ≡ true) (g.D.Disk.state c.sync.new.self) (g.D.Disk.state c.look_further.new.disk) m.end m.first.gate (Until c.in-Until.last) c.in_ok-look_further.ensures.reads (rw c.in-Until.is at c.in_ok-look_further.ensures.further) in
    let l : Kept = record { name = m.disk.ghost_name; on = m.on; end = c.in-Until.last; dead = m.dead; own = m.own } in
    let x = c.in-Ok-Some.ensures in
    let near = rw c.in-Ok-Some.field-0-is at x.near in
    let within = rw c.in-Until.is at c.in_ok-look_further.ensures.within in
    record {
      near = (within.1, near.0, near.1, λ is. omega (arith, within.0));
      guards = λ alive revealed. subst (λ (b : Bool). ∥ Guards (g.D.Disk.state c.extend_both.new.disk) b c.in-Until.last c.in-Ok-Some.first c.in-Ok-Some.second ∥₁) (sym on) (more_known g.D.Disk.reveals (g.D.Disk.state m.disk.now) (g.D.Disk.state c.look_further.new.disk) (g.D.Disk.state c.extend_both.new.disk) (record { name = m.disk.ghost_name; on = m.on; end = m.end; dead = m.dead; own = m.own }) l c.in-Until.last m.first m.second now found x.phase c.in-Ok-Some.first c.in-Ok-Some.second (rw c.in-Ok-Some.field-0-is at x.durable) (λ revealed. x.writes.contents revealed 0 (omega arith)) (rw c.in-Ok-Some.field-0-is at x.opened) revealed);
    }

pub returns-in-Ok-Some-clause-durable : goal.returns-in-Ok-Some-clause-durable
returns-in-Ok-Some-clause-durable g c =
    let m = c.args.self.now in
    let e = c.in_ok-sync.ensures in
    let on : m.on ≡ true = on_here m.on (λ is. let h = c.if-not-self.false in cc) in
    let now = looked g.D.Disk.reveals (false ≡ true) (g.D.Disk.state m.disk.now) (g.D.Disk.state c.sync.new.self) (g.D.Disk.state c.look_further.new.disk) m.on m.end m.first m.second on e.contents e.crash e.settled e.time e.cause.kept e.durable (m.guards c.if-self.false) c.in_ok-look_further.ensures.reads in
    let found = found_now g.D.Disk.reveals (false ≡ true) (g.D.Disk.state c.sync.new.self) (g.D.Disk.state c.look_further.new.disk) m.end m.first.gate (Until c.in-Until.last) c.in_ok-look_further.ensures.reads (rw c.in-Until.is at c.in_ok-look_further.ensures.further) in
    let l : Kept = record { name = m.disk.ghost_name; on = m.on; end = c.in-Until.last; dead = m.dead; own = m.own } in
    let x = c.in-Ok-Some.ensures in
    more_durable g.D.Disk.reveals (g.D.Disk.state m.disk.now) (g.D.Disk.state c.look_further.new.disk) (g.D.Disk.state c.extend_both.new.disk) (record { name = m.disk.ghost_name; on = m.on; end = m.end; dead = m.dead; own = m.own }) l c.in-Until.last m.first m.second now found x.phase c.in-Ok-Some.first c.in-Ok-Some.second (rw c.in-Ok-Some.field-0-is at x.durable) (λ revealed. x.writes.contents revealed 0 (omega arith)) (rw c.in-Ok-Some.field-0-is at x.opened)

pub returns-in-Ok-Some-clause-sure : goal.returns-in-Ok-Some-clause-sure
returns-in-Ok-Some-clause-sure g c =
    let m = c.args.self.now in
    let e = c.in_ok-sync.ensures in
    let on : m.on ≡ true = on_here m.on (λ is. let h = c.if-not-self.false in cc) in
    let now = looked g.D.Disk.reveals (false ≡ true) (g.D.Disk.state m.disk.now) (g.D.Disk.state c.sync.new.self) (g.D.Disk.state c.look_further.new.disk) m.on m.end m.first m.second on e.contents e.crash e.settled e.time e.cause.kept e.durable (m.guards c.if-self.false) c.in_ok-look_further.ensures.reads in
    let found = found_now g.D.Disk.reveals (false ≡ true) (g.D.Disk.state c.sync.new.self) (g.D.Disk.state c.look_further.new.disk) m.end m.first.gate (Until c.in-Until.last) c.in_ok-look_further.ensures.reads (rw c.in-Until.is at c.in_ok-look_further.ensures.further) in
    let l : Kept = record { name = m.disk.ghost_name; on = m.on; end = c.in-Until.last; dead = m.dead; own = m.own } in
    let x = c.in-Ok-Some.ensures in
    let faults : (g.D.Disk.state c.extend_both.new.disk).faults ≡ (g.D.Disk.state m.disk.now).faults = x.writes.still (λ is. absurd (cc)) ∙ c.in_ok-look_further.ensures.reads.still (λ is. absurd (cc)) ∙ e.cause.still in
    more_sure g.D.Disk.reveals (g.D.Disk.state m.disk.now) (g.D.Disk.state c.look_further.new.disk) (g.D.Disk.state c.extend_both.new.disk) (record { name = m.disk.ghost_name; on = m.on; end = m.end; dead = m.dead; own = m.own }) l m.first m.second _ on refl c.if-self.false refl now faults (λ revealed. x.writes.contents revealed 0 (omega arith)) found

pub returns-in-Ok-None-clause-sure : goal.returns-in-Ok-None-clause-sure
returns-in-Ok-None-clause-sure g c =
    let m = c.args.self.now in
    let e = c.in_ok-sync.ensures in
    let on : m.on ≡ true = on_here m.on (λ is. let h = c.if-not-self.false in cc) in
    let now = looked g.D.Disk.reveals (false ≡ true) (g.D.Disk.state m.disk.now) (g.D.Disk.state c.sync.new.self) (g.D.Disk.state c.look_further.new.disk) m.on m.end m.first m.second on e.contents e.crash e.settled e.time e.cause.kept e.durable (m.guards c.if-self.false) c.in_ok-look_further.ensures.reads in
    let found = found_now g.D.Disk.reveals (false ≡ true) (g.D.Disk.state c.sync.new.self) (g.D.Disk.state c.look_further.new.disk) m.end m.first.gate (Until c.in-Until.last) c.in_ok-look_further.ensures.reads (rw c.in-Until.is at c.in_ok-look_further.ensures.further) in
    let q = c.refuse-in-Ok-None.new.self in
    never_sure _ _ (mirror_state g.D.Disk.reveals (g.D.Disk.state m.disk.now) (record { name = m.disk.ghost_name; on = m.on; end = m.end; dead = m.dead; own = m.own })) (mirror_state g.D.Disk.reveals (g.D.Disk.state q.disk.now) (record { name = q.disk.ghost_name; on = q.on; end = q.end; dead = q.dead; own = q.own })) _
    (none_never g.D.Disk.reveals (g.D.Disk.state m.disk.now) (g.D.Disk.state c.look_further.new.disk) (record { name = m.disk.ghost_name; on = m.on; end = m.end; dead = m.dead; own = m.own }) c.in-Until.last m.first m.second now.guards found (rw c.in-Ok-None.field-0-is at c.in-Ok-None.ensures.opened))

pub returns-in-Err-clause-sure : goal.returns-in-Err-clause-sure
returns-in-Err-clause-sure g c =
    let m = c.args.self.now in
    let e = c.in_ok-sync.ensures in
    let on : m.on ≡ true = on_here m.on (λ is. let h = c.if-not-self.false in cc) in
    let now = looked g.D.Disk.reveals (false ≡ true) (g.D.Disk.state m.disk.now) (g.D.Disk.state c.sync.new.self) (g.D.Disk.state c.look_further.new.disk) m.on m.end m.first m.second on e.contents e.crash e.settled e.time e.cause.kept e.durable (m.guards c.if-self.false) c.in_ok-look_further.ensures.reads in
    let found = found_now g.D.Disk.reveals (false ≡ true) (g.D.Disk.state c.sync.new.self) (g.D.Disk.state c.look_further.new.disk) m.end m.first.gate (Until c.in-Until.last) c.in_ok-look_further.ensures.reads (rw c.in-Until.is at c.in_ok-look_further.ensures.further) in
    let l : Kept = record { name = m.disk.ghost_name; on = m.on; end = m.end; dead = true; own = m.own } in
    less_sure g.D.Disk.reveals (g.D.Disk.state m.disk.now) (g.D.Disk.state c.look_further.new.disk) (g.D.Disk.state c.extend_both.new.disk) (record { name = m.disk.ghost_name; on = m.on; end = m.end; dead = m.dead; own = m.own }) l c.in-Until.last m.first m.second _ on m.near.3 now found c.in-Err.ensures.writes

pub returns-in-Nothing-clause-broken : goal.returns-in-Nothing-clause-broken
returns-in-Nothing-clause-broken g c revealed is never =
    let m = c.args.self.now in
    let e = c.in_ok-sync.ensures in
    let on : m.on ≡ true = on_here m.on (λ is. let h = c.if-not-self.false in cc) in
    let now = looked g.D.Disk.reveals (false ≡ true) (g.D.Disk.state m.disk.now) (g.D.Disk.state c.sync.new.self) (g.D.Disk.state c.look_further.new.disk) m.on m.end m.first m.second on e.contents e.crash e.settled e.time e.cause.kept e.durable (m.guards c.if-self.false) c.in_ok-look_further.ensures.reads in
    let found = found_now g.D.Disk.reveals (false ≡ true) (g.D.Disk.state c.sync.new.self) (g.D.Disk.state c.look_further.new.disk) m.end m.first.gate Nothing c.in_ok-look_further.ensures.reads (rw c.in-Nothing.is at c.in_ok-look_further.ensures.further) in
    absurd (nothing_ends g.D.Disk.reveals (g.D.Disk.state m.disk.now) (g.D.Disk.state c.look_further.new.disk) m.end m.first m.second now found revealed never)

pub returns-in-Ok-Some-clause-broken : goal.returns-in-Ok-Some-clause-broken
returns-in-Ok-Some-clause-broken g c revealed is never =
    let m = c.args.self.now in
    let e = c.in_ok-sync.ensures in
    let on : m.on ≡ true = on_here m.on (λ is. let h = c.if-not-self.false in cc) in
    let now = looked g.D.Disk.reveals (false ≡ true) (g.D.Disk.state m.disk.now) (g.D.Disk.state c.sync.new.self) (g.D.Disk.state c.look_further.new.disk) m.on m.end m.first m.second on e.contents e.crash e.settled e.time e.cause.kept e.durable (m.guards c.if-self.false) c.in_ok-look_further.ensures.reads in
    let found = found_now g.D.Disk.reveals (false ≡ true) (g.D.Disk.state c.sync.new.self) (g.D.Disk.state c.look_further.new.disk) m.end m.first.gate (Until c.in-Until.last) c.in_ok-look_further.ensures.reads (rw c.in-Until.is at c.in_ok-look_further.ensures.further) in
    absurd (until_ends g.D.Disk.reveals (g.D.Disk.state m.disk.now) (g.D.Disk.state c.look_further.new.disk) m.end c.in-Until.last m.first m.second now found revealed never)

pub returns-in-Ok-None-clause-broken : goal.returns-in-Ok-None-clause-broken
returns-in-Ok-None-clause-broken g c revealed is never =
    let m = c.args.self.now in
    let e = c.in_ok-sync.ensures in
    let on : m.on ≡ true = on_here m.on (λ is. let h = c.if-not-self.false in cc) in
    let now = looked g.D.Disk.reveals (false ≡ true) (g.D.Disk.state m.disk.now) (g.D.Disk.state c.sync.new.self) (g.D.Disk.state c.look_further.new.disk) m.on m.end m.first m.second on e.contents e.crash e.settled e.time e.cause.kept e.durable (m.guards c.if-self.false) c.in_ok-look_further.ensures.reads in
    let found = found_now g.D.Disk.reveals (false ≡ true) (g.D.Disk.state c.sync.new.self) (g.D.Disk.state c.look_further.new.disk) m.end m.first.gate (Until c.in-Until.last) c.in_ok-look_further.ensures.reads (rw c.in-Until.is at c.in_ok-look_further.ensures.further) in
    absurd (until_ends g.D.Disk.reveals (g.D.Disk.state m.disk.now) (g.D.Disk.state c.look_further.new.disk) m.end c.in-Until.last m.first m.second now found revealed never)

pub returns-in-Err-clause-broken : goal.returns-in-Err-clause-broken
returns-in-Err-clause-broken g c revealed is never =
    let m = c.args.self.now in
    let e = c.in_ok-sync.ensures in
    let on : m.on ≡ true = on_here m.on (λ is. let h = c.if-not-self.false in cc) in
    let now = looked g.D.Disk.reveals (false ≡ true) (g.D.Disk.state m.disk.now) (g.D.Disk.state c.sync.new.self) (g.D.Disk.state c.look_further.new.disk) m.on m.end m.first m.second on e.contents e.crash e.settled e.time e.cause.kept e.durable (m.guards c.if-self.false) c.in_ok-look_further.ensures.reads in
    let found = found_now g.D.Disk.reveals (false ≡ true) (g.D.Disk.state c.sync.new.self) (g.D.Disk.state c.look_further.new.disk) m.end m.first.gate (Until c.in-Until.last) c.in_ok-look_further.ensures.reads (rw c.in-Until.is at c.in_ok-look_further.ensures.further) in
    absurd (until_ends g.D.Disk.reveals (g.D.Disk.state m.disk.now) (g.D.Disk.state c.look_further.new.disk) m.end c.in-Until.last m.first m.second now found revealed never)

pub returns-then-not-self-clause-time : goal.returns-then-not-self-clause-time
returns-then-not-self-clause-time g c =
    let m = c.args.self.now in
    let e = c.in_ok-sync.ensures in
    shown_time g.D.Disk.reveals (g.D.Disk.state m.disk.now) (g.D.Disk.state c.sync.new.self) (record { name = m.disk.ghost_name; on = m.on; end = m.end; dead = m.dead; own = m.own }) (record { name = m.disk.ghost_name; on = m.on; end = m.end; dead = m.dead; own = m.own }) refl refl e.cause.kept (kept_copies g.D.Disk.reveals m.on (g.D.Disk.state m.disk.now) (g.D.Disk.state c.sync.new.self) e.crash) e.time
