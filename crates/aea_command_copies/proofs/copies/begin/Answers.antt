use Rattle.std.proofs.Common.{◌≡◌, ◌≢◌, inl, false, Result, Ok, Err, refl, sym, ◌∙◌, ap}
use Rattle.std.specs.Prelude.{IsOk}
use Rattle.std.proofs.lemmas.Bool.{false≢true}
use Rattle.aea_disk.proofs.Moments.{lasts_lent}
use Rattle.aea_ledger.specs.Values.{Opened}
use Rattle.aea_mirror.specs.declared.start.StartFault.{StartFault}
use Rattle.aea_mirror.specs.declared.start.StartFault.TheVariants as starting
use Rattle.aea_mirror.specs.Mirrored.{Kept}
use Rattle.aea_command.specs.declared.refusal.Failure.{Failure}
use Rattle.aea_command.specs.declared.refusal.Failure.TheVariants as failure
use Rattle.aea_command.specs.declared.refusal.Refusal.TheVariants.{CopiesAreOn}
use Rattle.aea_command.proofs.OpeningCases.{err_with, opened_never}
use Rattle.aea_command.proofs.Refusing.{refuses_stopped}
use Rattle.aea_command_copies.proofs.Beginning.{unbegun_over, begun_over}
use Rattle.aea_command_copies.proofs.Refused.{unopened_refused, refused_on, refused_none}
use Rattle.aea_command_copies.proofs.Running.{over_as}
use Rattle.aea_command_copies.proofs.Starting.{starts_by, not_on}
use Rattle.aea_command_copies.proofs.copies.begin.Goals as goal

as_opening : (f : Failure) → (let r : Result (Unit {0}) Failure = Err f in r ≡ Err failure.Disk) → (let r : Result Opened Failure = Err f in r ≡ Err failure.Disk)
as_opening f e = let h : f ≡ failure.Disk = cc in ap Err h

from_opening : (f : Failure) → (let r : Result Opened Failure = Err f in r ≡ Err failure.Disk) → (let r : Result (Unit {0}) Failure = Err f in r ≡ Err failure.Disk)
from_opening f e = let h : f ≡ failure.Disk = cc in ap Err h

refused_not : (let r : Result (Unit {0}) Failure = Err (failure.Refused CopiesAreOn) in r ≡ Err failure.Disk) → ⊥
refused_not e = cc

ok_not : (u : Unit {0}) (f : StartFault) → (let r : Result (Unit {0}) StartFault = Ok u in r ≡ Err f) → ⊥
ok_not u f e = cc

done_not : (u : Unit {0}) → (let r : Result (Unit {0}) Failure = Ok u in r ≡ Err failure.Disk) → ⊥
done_not u e = cc

apart : (let r : Result (Unit {0}) StartFault = Err starting.DiskFault in r ≡ Err starting.AlreadyOn) → ⊥
apart e = cc

pub returns-in_err-open-clause-begins : goal.returns-in_err-open-clause-begins
returns-in_err-open-clause-begins g c =
    let m = c.args.mirror.now in
    let n = c.open.new.disk in
    let f = c.in_err-open.field-0.0 in
    rw (err_with c.from_residual.result f c.from_residual.ensures.1)
    (unbegun_over g.D.Disk.reveals (g.D.Disk.state m.disk.now) (g.D.Disk.state n.disk.now)
    (record { name = m.disk.ghost_name; on = m.on; end = m.end; dead = m.dead; own = m.own })
    (record { name = n.disk.ghost_name; on = n.on; end = n.end; dead = n.dead; own = n.own })
    m.first m.second c.requires.synced (m.guards c.requires.alive) (Err f) c.in_err-open.ensures
    (let r : Result (Unit {0}) Failure = Err f in r ≡ Err failure.Disk) (let r : Result (Unit {0}) Failure = Err f in IsOk r)
    (as_opening f) (from_opening f) (λ is. false≢true is))

pub returns-in_err-open-clause-refuses : goal.returns-in_err-open-clause-refuses
returns-in_err-open-clause-refuses g c =
    let f = c.in_err-open.field-0.0 in
    rw (err_with c.from_residual.result f c.from_residual.ensures.1) (unopened_refused g.D.Disk.reveals _ _ f c.args.mirror.now.on c.in_err-open.ensures)

pub returns-in-Ok-clause-begins : goal.returns-in-Ok-clause-begins
returns-in-Ok-clause-begins g c =
    let m = c.args.mirror.now in
    let n = c.open.new.disk in
    let w = c.start.new.self in
    let s = c.start.ensures in
    let u = c.in-Ok.field-0 in
    let ok = c.in-Ok.is in
    let j : Kept = record { name = n.disk.ghost_name; on = n.on; end = n.end; dead = n.dead; own = n.own } in
    let l : Kept = record { name = w.disk.ghost_name; on = w.on; end = w.end; dead = w.dead; own = w.own } in
    let mid = g.D.Disk.state n.disk.now in
    let new = g.D.Disk.state w.disk.now in
    let off : n.on ≡ false = not_on n.on (λ on. ok_not u starting.AlreadyOn (sym ok ∙ s.already.1 on)) in
    let differs : c.start.result ≢ Err starting.AlreadyOn = λ e. ok_not u starting.AlreadyOn (sym ok ∙ e) in
    over_as g.D.Disk.reveals m.on (c.start.result ≡ Err starting.DiskFault) (IsOk c.start.result)
    (let r : Result (Unit {0}) Failure = Ok u in r ≡ Err failure.Disk) (let r : Result (Unit {0}) Failure = Ok u in IsOk r)
    (g.D.Disk.state m.disk.now) new _ _
    (λ e. absurd (done_not u e)) (λ e. absurd (ok_not u starting.DiskFault (sym ok ∙ e))) (λ is. rw ok refl) (λ is. refl)
    (begun_over g.D.Disk.reveals (g.D.Disk.state m.disk.now) mid
    (record { name = m.disk.ghost_name; on = m.on; end = m.end; dead = m.dead; own = m.own }) j
    m.first m.second c.requires.synced (m.guards c.requires.alive) c.in_ok-open.field-0 c.in_ok-open.ensures new l
    (c.start.result ≡ Err starting.DiskFault) (IsOk c.start.result) c.requires.fresh
    (starts_by g.D.Disk.reveals mid new j l c.start.result differs (record {
      off = off;
      others = s.others;
      crash = s.crash;
      shown = s.shown;
      time = s.time;
      counts = s.counts differs;
      dead = λ dead. ap g.D.Disk.state (s.refused off dead).beneath;
      any_moment = λ revealed alive. s.any_moment revealed off alive;
      handed = λ revealed alive. s.handed revealed off alive;
      sure = λ revealed alive. s.sure revealed off alive;
      set = rw ok (rw ok at s.started).0;
      made = rw ok (λ revealed. let made = rw ok at s.made in let at = made revealed in (at.0, at.1, at.2.whole));
      synced = s.synced;
    })))

pub returns-in-Ok-clause-refuses : goal.returns-in-Ok-clause-refuses
returns-in-Ok-clause-refuses g c =
    let n = c.open.new.disk in
    let u = c.in-Ok.field-0 in
    let off : n.on ≡ false = not_on n.on (λ on. ok_not u starting.AlreadyOn (sym c.in-Ok.is ∙ c.start.ensures.already.1 on)) in
    refused_none g.D.Disk.reveals _ _ c.in_ok-open.field-0 c.in_ok-open.ensures c.args.mirror.now.on u (sym (lasts_lent _ _ c.in_ok-open.ensures.reads.time.lasts).set ∙ off)

pub returns-in-Err-AlreadyOn-clause-begins : goal.returns-in-Err-AlreadyOn-clause-begins
returns-in-Err-AlreadyOn-clause-begins g c =
    let m = c.args.mirror.now in
    let n = c.open.new.disk in
    let s = c.start.ensures in
    let is = s.idle (s.already.0 (c.in-Err-AlreadyOn.is ∙ ap Err c.in-Err-AlreadyOn.field-0-is)) in
    rw (is.0, is.1, is.2, is.3, is.6, s.lent)
    (unbegun_over g.D.Disk.reveals (g.D.Disk.state m.disk.now) (g.D.Disk.state n.disk.now)
    (record { name = m.disk.ghost_name; on = m.on; end = m.end; dead = m.dead; own = m.own })
    (record { name = n.disk.ghost_name; on = n.on; end = n.end; dead = n.dead; own = n.own })
    m.first m.second c.requires.synced (m.guards c.requires.alive) (Ok c.in_ok-open.field-0) c.in_ok-open.ensures
    (let r : Result (Unit {0}) Failure = Err (failure.Refused CopiesAreOn) in r ≡ Err failure.Disk) (let r : Result (Unit {0}) Failure = Err (failure.Refused CopiesAreOn) in IsOk r)
    (λ e. absurd (refused_not e)) (λ e. absurd (opened_never c.in_ok-open.field-0 failure.Disk e)) (λ is. false≢true is))

pub returns-in-Err-AlreadyOn-clause-refuses : goal.returns-in-Err-AlreadyOn-clause-refuses
returns-in-Err-AlreadyOn-clause-refuses g c =
    let on = c.start.ensures.already.0 (c.in-Err-AlreadyOn.is ∙ ap Err c.in-Err-AlreadyOn.field-0-is) in
    refused_on g.D.Disk.reveals _ _ c.in_ok-open.field-0 c.in_ok-open.ensures c.args.mirror.now.on (sym (lasts_lent _ _ c.in_ok-open.ensures.reads.time.lasts).set ∙ on)

pub returns-in-Err-DiskFault-clause-begins : goal.returns-in-Err-DiskFault-clause-begins
returns-in-Err-DiskFault-clause-begins g c =
    let m = c.args.mirror.now in
    let n = c.open.new.disk in
    let w = c.start.new.self in
    let s = c.start.ensures in
    let fails : c.start.result ≡ Err starting.DiskFault = c.in-Err-DiskFault.is ∙ ap Err c.in-Err-DiskFault.field-0-is in
    let j : Kept = record { name = n.disk.ghost_name; on = n.on; end = n.end; dead = n.dead; own = n.own } in
    let l : Kept = record { name = w.disk.ghost_name; on = w.on; end = w.end; dead = w.dead; own = w.own } in
    let mid = g.D.Disk.state n.disk.now in
    let new = g.D.Disk.state w.disk.now in
    let differs : c.start.result ≢ Err starting.AlreadyOn = λ e. apart (sym fails ∙ e) in
    let off : n.on ≡ false = not_on n.on (λ on. differs (s.already.1 on)) in
    over_as g.D.Disk.reveals m.on (c.start.result ≡ Err starting.DiskFault) (IsOk c.start.result)
    (let r : Result (Unit {0}) Failure = Err failure.Disk in r ≡ Err failure.Disk) (let r : Result (Unit {0}) Failure = Err failure.Disk in IsOk r)
    (g.D.Disk.state m.disk.now) new _ _
    (λ e. fails) (λ e. refl) (λ is. absurd (false≢true is)) (λ is. absurd (false≢true (rw fails at is)))
    (begun_over g.D.Disk.reveals (g.D.Disk.state m.disk.now) mid
    (record { name = m.disk.ghost_name; on = m.on; end = m.end; dead = m.dead; own = m.own }) j
    m.first m.second c.requires.synced (m.guards c.requires.alive) c.in_ok-open.field-0 c.in_ok-open.ensures new l
    (c.start.result ≡ Err starting.DiskFault) (IsOk c.start.result) c.requires.fresh
    (starts_by g.D.Disk.reveals mid new j l c.start.result differs (record {
      off = off;
      others = s.others;
      crash = s.crash;
      shown = s.shown;
      time = s.time;
      counts = s.counts differs;
      dead = λ dead. ap g.D.Disk.state (s.refused off dead).beneath;
      any_moment = λ revealed alive. s.any_moment revealed off alive;
      handed = λ revealed alive. s.handed revealed off alive;
      sure = λ revealed alive. s.sure revealed off alive;
      set = rw fails tt;
      made = rw fails tt;
      synced = s.synced;
    })))

pub returns-in-Err-DiskFault-clause-refuses : goal.returns-in-Err-DiskFault-clause-refuses
returns-in-Err-DiskFault-clause-refuses g c = refuses_stopped g.D.Disk.reveals _ (Err failure.Disk) (inl refl)

pub returns-in_err-open-clause-lent : goal.returns-in_err-open-clause-lent
returns-in_err-open-clause-lent g c = (lasts_lent _ _ c.in_err-open.ensures.reads.time.lasts).name

pub returns-in-Ok-clause-lent : goal.returns-in-Ok-clause-lent
returns-in-Ok-clause-lent g c = c.start.ensures.lent ∙ (lasts_lent _ _ c.in_ok-open.ensures.reads.time.lasts).name

pub returns-in-Err-AlreadyOn-clause-lent : goal.returns-in-Err-AlreadyOn-clause-lent
returns-in-Err-AlreadyOn-clause-lent g c = c.start.ensures.lent ∙ (lasts_lent _ _ c.in_ok-open.ensures.reads.time.lasts).name

pub returns-in-Err-DiskFault-clause-lent : goal.returns-in-Err-DiskFault-clause-lent
returns-in-Err-DiskFault-clause-lent g c = c.start.ensures.lent ∙ (lasts_lent _ _ c.in_ok-open.ensures.reads.time.lasts).name
