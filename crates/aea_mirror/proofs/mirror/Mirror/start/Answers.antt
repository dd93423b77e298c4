use Rattle.std.proofs.Common.{◌≡◌, ◌≤◌, ◌∙◌, inl, inr, false, true, ℕ, length, refl, sym, ap, subst, arith}
use Rattle.aea_disk.specs.Files.{KeepsFiles}
use Rattle.aea_disk.specs.State.{State, Passes, Follows, During, KeepsImages, HasEarlier}
use Rattle.aea_disk.proofs.Moments.{no_time, passes_none}
use Rattle.aea_disk.proofs.Stays.{earlier_none}
use Rattle.aea_copies.specs.Format.{text_of}
use Rattle.aea_mirror.specs.Mirrored.{mirror_state}
use Rattle.aea_mirror.specs.Refusing.{WritesNone}
use Rattle.aea_mirror.specs.Starting.{MayBeStarted}
use Rattle.aea_mirror.proofs.Started.{off_none, off_fixed, started_keeps, idle_keeps, started_pieces, started_knows, started_shut, started_durable, started_cause, failed_cause}
use Rattle.aea_mirror.proofs.Wholes.{ledger_pieces, pieces_end}
use Rattle.aea_mirror.proofs.mirror.Mirror.start.Goals as goal

pub begin_copies-requires-clause-none : goal.begin_copies-requires-clause-none
begin_copies-requires-clause-none g c revealed =
    let m = c.args.self.now in
    off_none (g.D.Disk.state c.args.self.now.disk.now) m.on m.end m.first m.second c.if-self.false (m.guards c.if-self-2.false revealed)

pub begin_copies-requires-clause-fixed : goal.begin_copies-requires-clause-fixed
begin_copies-requires-clause-fixed g c revealed =
    let m = c.args.self.now in
    off_fixed (g.D.Disk.state c.args.self.now.disk.now) m.on m.end m.first m.second c.if-self.false (m.guards c.if-self-2.false revealed)

pub returns-then-self-clause-already : goal.returns-then-self-clause-already
returns-then-self-clause-already g c =
    (λ is. c.if-self.true, λ is. refl)

pub returns-then-self-clause-refused : goal.returns-then-self-clause-refused
returns-then-self-clause-refused g c off dead =
    absurd (let h = c.if-self.true in cc)

pub returns-then-self-clause-any_moment : goal.returns-then-self-clause-any_moment
returns-then-self-clause-any_moment g c revealed off alive pieces are =
    absurd (let h = c.if-self.true in cc)

pub returns-then-self-clause-others : goal.returns-then-self-clause-others
returns-then-self-clause-others g c revealed f near =
    refl

pub returns-then-self-clause-crash : goal.returns-then-self-clause-crash
returns-then-self-clause-crash g c =
    no_time (KeepsFiles (λ f. f ≤ 64)) (g.D.Disk.state c.args.self.now.disk.now) (g.D.Disk.state c.args.self.now.disk.now) (omega arith) (λ t c here. here) (λ d f near. refl)

pub returns-then-self-clause-bare : goal.returns-then-self-clause-bare
returns-then-self-clause-bare g c revealed off never =
    absurd (let h = c.if-self.true in cc)

pub returns-then-self-clause-shown : goal.returns-then-self-clause-shown
returns-then-self-clause-shown g c =
    let m = c.args.self.now in
    idle_keeps g.D.Disk.reveals (g.D.Disk.state c.args.self.now.disk.now) (g.D.Disk.state c.args.self.now.disk.now) (record { name = m.disk.ghost_name; on = m.on; end = m.end; dead = m.dead; own = m.own }) (record { name = m.disk.ghost_name; on = m.on; end = m.end; dead = m.dead; own = m.own }) refl

pub returns-then-self-clause-time : goal.returns-then-self-clause-time
returns-then-self-clause-time g c =
    passes_none (g.D.Disk.state c.args.self.now.disk.now)

pub returns-then-self-clause-earlier : goal.returns-then-self-clause-earlier
returns-then-self-clause-earlier g c =
    earlier_none (g.D.Disk.state c.args.self.now.disk.now)

pub returns-then-self-clause-counts : goal.returns-then-self-clause-counts
returns-then-self-clause-counts g c not =
    absurd (not refl)

pub returns-then-self-clause-handed : goal.returns-then-self-clause-handed
returns-then-self-clause-handed g c revealed off alive last ends =
    absurd (let h = c.if-self.true in cc)

pub returns-then-self-clause-sure : goal.returns-then-self-clause-sure
returns-then-self-clause-sure g c revealed off alive free fit =
    absurd (let h = c.if-self.true in cc)

pub returns-then-self-2-clause-idle : goal.returns-then-self-2-clause-idle
returns-then-self-2-clause-idle g c is =
    absurd (let h = c.if-self.false in cc)

pub returns-then-self-2-clause-refused : goal.returns-then-self-2-clause-refused
returns-then-self-2-clause-refused g c off dead =
    record { failed = refl; beneath = c.refuse.ensures.disk; counted = c.refuse.ensures.own }

pub returns-then-self-2-clause-dies : goal.returns-then-self-2-clause-dies
returns-then-self-2-clause-dies g c is =
    (c.refuse.ensures.dead ∙ c.if-self-2.true, c.refuse.ensures.on ∙ c.if-self.false)

pub returns-then-self-2-clause-any_moment : goal.returns-then-self-2-clause-any_moment
returns-then-self-2-clause-any_moment g c revealed off alive pieces are =
    absurd (let h = c.if-self-2.true in cc)

pub returns-then-self-2-clause-others : goal.returns-then-self-2-clause-others
returns-then-self-2-clause-others g c revealed f near =
    let same : g.D.Disk.state c.refuse.new.self.disk.now ≡ (g.D.Disk.state c.args.self.now.disk.now) = ap g.D.Disk.state c.refuse.ensures.disk in
    ap (λ (u : State). u.files f) same

pub returns-then-self-2-clause-crash : goal.returns-then-self-2-clause-crash
returns-then-self-2-clause-crash g c =
    let same : g.D.Disk.state c.refuse.new.self.disk.now ≡ (g.D.Disk.state c.args.self.now.disk.now) = ap g.D.Disk.state c.refuse.ensures.disk in
    subst (λ (u : State). Follows (KeepsFiles (λ f. f ≤ 64)) (g.D.Disk.state c.args.self.now.disk.now) u) (sym same) (no_time (KeepsFiles (λ f. f ≤ 64)) (g.D.Disk.state c.args.self.now.disk.now) (g.D.Disk.state c.args.self.now.disk.now) (omega arith) (λ t c here. here) (λ d f near. refl))

pub returns-then-self-2-clause-bare : goal.returns-then-self-2-clause-bare
returns-then-self-2-clause-bare g c revealed off never =
    let same : g.D.Disk.state c.refuse.new.self.disk.now ≡ (g.D.Disk.state c.args.self.now.disk.now) = ap g.D.Disk.state c.refuse.ensures.disk in
    (refl, subst (λ (u : State). WritesNone g.D.Disk.reveals (g.D.Disk.state c.args.self.now.disk.now) u) (sym same) (record { reads = λ revealed. refl; images = λ t d from to here. let is : t ≡ (g.D.Disk.state c.args.self.now.disk.now).moment = omega (arith, from, to) in subst (λ (n : ℕ). (g.D.Disk.state c.args.self.now.disk.now).image n d) is here }))

pub returns-then-self-2-clause-shown : goal.returns-then-self-2-clause-shown
returns-then-self-2-clause-shown g c =
    let m = c.args.self.now in
    let q = c.refuse.new.self in
    let same : g.D.Disk.state c.refuse.new.self.disk.now ≡ (g.D.Disk.state c.args.self.now.disk.now) = ap g.D.Disk.state c.refuse.ensures.disk in
    idle_keeps g.D.Disk.reveals (g.D.Disk.state c.args.self.now.disk.now) (g.D.Disk.state q.disk.now) (record { name = m.disk.ghost_name; on = m.on; end = m.end; dead = m.dead; own = m.own }) (record { name = q.disk.ghost_name; on = q.on; end = q.end; dead = q.dead; own = q.own }) same

pub returns-then-self-2-clause-time : goal.returns-then-self-2-clause-time
returns-then-self-2-clause-time g c =
    let same : g.D.Disk.state c.refuse.new.self.disk.now ≡ (g.D.Disk.state c.args.self.now.disk.now) = ap g.D.Disk.state c.refuse.ensures.disk in
    subst (λ (u : State). Passes (g.D.Disk.state c.args.self.now.disk.now) u) (sym same) (passes_none (g.D.Disk.state c.args.self.now.disk.now))

pub returns-then-self-2-clause-earlier : goal.returns-then-self-2-clause-earlier
returns-then-self-2-clause-earlier g c =
    let same : g.D.Disk.state c.refuse.new.self.disk.now ≡ (g.D.Disk.state c.args.self.now.disk.now) = ap g.D.Disk.state c.refuse.ensures.disk in
    subst (λ (u : State). HasEarlier (g.D.Disk.state c.args.self.now.disk.now) u) (sym same) (earlier_none (g.D.Disk.state c.args.self.now.disk.now))

pub returns-then-self-2-clause-counts : goal.returns-then-self-2-clause-counts
returns-then-self-2-clause-counts g c not =
    let same : g.D.Disk.state c.refuse.new.self.disk.now ≡ (g.D.Disk.state c.args.self.now.disk.now) = ap g.D.Disk.state c.refuse.ensures.disk in
    inr (refl, c.refuse.ensures.own, ap (λ (u : State). u.faults) same)

pub returns-then-self-2-clause-handed : goal.returns-then-self-2-clause-handed
returns-then-self-2-clause-handed g c revealed off alive last ends =
    absurd (let h = c.if-self-2.true in cc)

pub returns-then-self-2-clause-sure : goal.returns-then-self-2-clause-sure
returns-then-self-2-clause-sure g c revealed off alive free fit =
    absurd (let h = c.if-self-2.true in cc)

pub invariant_of-self : goal.invariant_of-self
invariant_of-self g c =
    let x = c.in-Ok-Some.ensures in
    let b = c.in-Ok-Some.begun in
    let made = (rw c.in-Ok-Some.field-0-is at x.made) in
    let ends = (rw c.in-Ok-Some.field-0-is at x.ends) in
    let synced = (rw c.in-Ok-Some.field-0-is at x.durable) in
    let near = (rw c.in-Ok-Some.field-0-is at x.near) in
    record {
      near = (near.1, near.2, near.3, λ is. let some = near.0 in omega (arith, some));
      guards = λ alive revealed. ∣ started_knows (g.D.Disk.state c.args.self.now.disk.now) (g.D.Disk.state c.begin_copies.new.disk) b.end b.first b.second (ends revealed).0 (ends revealed).1 (made revealed) (synced revealed) (x.writes.contents revealed 0 (omega arith)) ∣₁;
    }

pub invariant_of-self-in-Ok-None : goal.invariant_of-self-in-Ok-None
invariant_of-self-in-Ok-None g c =
    record { near = c.args.self.now.near; guards = λ alive revealed. absurd (cc) }

pub invariant_of-self-in-Err-1 : goal.invariant_of-self-in-Err-1
invariant_of-self-in-Err-1 g c =
    record { near = c.args.self.now.near; guards = λ alive revealed. absurd (cc) }

pub returns-in-Ok-Some-clause-idle : goal.returns-in-Ok-Some-clause-idle
returns-in-Ok-Some-clause-idle g c is =
    absurd (let h = c.if-self.false in cc)

pub returns-in-Ok-Some-clause-refused : goal.returns-in-Ok-Some-clause-refused
returns-in-Ok-Some-clause-refused g c off dead =
    absurd (let h = c.if-self-2.false in cc)

pub returns-in-Ok-Some-clause-made : goal.returns-in-Ok-Some-clause-made
returns-in-Ok-Some-clause-made g c revealed =
    let x = c.in-Ok-Some.ensures in
    let b = c.in-Ok-Some.begun in
    let made = (rw c.in-Ok-Some.field-0-is at x.made) in
    let ends = (rw c.in-Ok-Some.field-0-is at x.ends) in
    let synced = (rw c.in-Ok-Some.field-0-is at x.durable) in
    started_pieces (g.D.Disk.state c.args.self.now.disk.now) (g.D.Disk.state c.begin_copies.new.disk) b.end b.first b.second (ends revealed).0 (ends revealed).1 (made revealed) (synced revealed) (x.writes.contents revealed 0 (omega arith))

pub returns-in-Ok-Some-clause-any_moment : goal.returns-in-Ok-Some-clause-any_moment
returns-in-Ok-Some-clause-any_moment g c revealed off alive pieces are =
    let p = pieces_end ((g.D.Disk.state c.args.self.now.disk.now).files 0) pieces are in
    c.in-Ok-Some.ensures.any_moment revealed (length (text_of pieces)) pieces p.0 p.1

pub returns-in-Ok-Some-clause-others : goal.returns-in-Ok-Some-clause-others
returns-in-Ok-Some-clause-others g c revealed f near =
    c.in-Ok-Some.ensures.writes.contents revealed f near

pub returns-in-Ok-Some-clause-crash : goal.returns-in-Ok-Some-clause-crash
returns-in-Ok-Some-clause-crash g c =
    c.in-Ok-Some.ensures.writes.crash

pub returns-in-Ok-Some-clause-bare : goal.returns-in-Ok-Some-clause-bare
returns-in-Ok-Some-clause-bare g c revealed off never =
    let x = c.in-Ok-Some.ensures in
    let b = c.in-Ok-Some.begun in
    let ends = (rw c.in-Ok-Some.field-0-is at x.ends) in
    absurd (never b.end (ends revealed).0)

pub returns-in-Ok-Some-clause-shown : goal.returns-in-Ok-Some-clause-shown
returns-in-Ok-Some-clause-shown g c =
    let m = c.args.self.now in
    started_keeps g.D.Disk.reveals (g.D.Disk.state c.args.self.now.disk.now) (g.D.Disk.state c.begin_copies.new.disk) (record { name = m.disk.ghost_name; on = m.on; end = m.end; dead = m.dead; own = m.own }) (record { name = m.disk.ghost_name; on = true; end = c.in-Ok-Some.begun.end; dead = false; own = m.own }) c.in-Ok-Some.ensures.shown

pub returns-in-Ok-Some-clause-durable : goal.returns-in-Ok-Some-clause-durable
returns-in-Ok-Some-clause-durable g c revealed_ =
    let m = c.args.self.now in
    let x = c.in-Ok-Some.ensures in
    let b = c.in-Ok-Some.begun in
    let made = (rw c.in-Ok-Some.field-0-is at x.made) in
    let ends = (rw c.in-Ok-Some.field-0-is at x.ends) in
    let synced = (rw c.in-Ok-Some.field-0-is at x.durable) in
    started_durable g.D.Disk.reveals (g.D.Disk.state c.begin_copies.new.disk) (record { name = m.disk.ghost_name; on = true; end = c.in-Ok-Some.begun.end; dead = false; own = m.own }) b.end b.first b.second synced (λ revealed. ∣ started_knows (g.D.Disk.state c.args.self.now.disk.now) (g.D.Disk.state c.begin_copies.new.disk) b.end b.first b.second (ends revealed).0 (ends revealed).1 (made revealed) (synced revealed) (x.writes.contents revealed 0 (omega arith)) ∣₁) (λ revealed. started_shut (g.D.Disk.state c.args.self.now.disk.now) (g.D.Disk.state c.begin_copies.new.disk) b.end b.first b.second (ends revealed).0 (ends revealed).1 (made revealed) (synced revealed) (x.writes.contents revealed 0 (omega arith)))

pub returns-in-Ok-Some-clause-time : goal.returns-in-Ok-Some-clause-time
returns-in-Ok-Some-clause-time g c =
    c.in-Ok-Some.ensures.writes.time

pub returns-in-Ok-Some-clause-earlier : goal.returns-in-Ok-Some-clause-earlier
returns-in-Ok-Some-clause-earlier g c =
    c.in-Ok-Some.ensures.writes.earlier

pub returns-in-Ok-Some-clause-counts : goal.returns-in-Ok-Some-clause-counts
returns-in-Ok-Some-clause-counts g c not =
    inl (refl, started_cause g.D.Disk.reveals _ _ (KeepsFiles (λ f. f ≤ 64)) (g.D.Disk.state c.args.self.now.disk.now) (g.D.Disk.state c.begin_copies.new.disk) _ c.in-Ok-Some.ensures.writes)

pub returns-in-Ok-Some-clause-handed : goal.returns-in-Ok-Some-clause-handed
returns-in-Ok-Some-clause-handed g c revealed off alive last ends =
    (refl, started_cause g.D.Disk.reveals _ _ (KeepsFiles (λ f. f ≤ 64)) (g.D.Disk.state c.args.self.now.disk.now) (g.D.Disk.state c.begin_copies.new.disk) _ c.in-Ok-Some.ensures.writes)

pub returns-in-Ok-Some-clause-sure : goal.returns-in-Ok-Some-clause-sure
returns-in-Ok-Some-clause-sure g c revealed off alive free fit =
    (refl, c.in-Ok-Some.ensures.writes.still (λ is. absurd (cc)))

pub returns-in-Ok-None-clause-idle : goal.returns-in-Ok-None-clause-idle
returns-in-Ok-None-clause-idle g c is =
    absurd (let h = c.if-self.false in cc)

pub returns-in-Ok-None-clause-refused : goal.returns-in-Ok-None-clause-refused
returns-in-Ok-None-clause-refused g c off dead =
    absurd (let h = c.if-self-2.false in cc)

pub returns-in-Ok-None-clause-dies : goal.returns-in-Ok-None-clause-dies
returns-in-Ok-None-clause-dies g c is =
    (c.refuse-in-Ok-None.ensures.dead, c.refuse-in-Ok-None.ensures.on ∙ c.if-self.false)

pub returns-in-Ok-None-clause-any_moment : goal.returns-in-Ok-None-clause-any_moment
returns-in-Ok-None-clause-any_moment g c revealed off alive pieces are =
    let p = pieces_end ((g.D.Disk.state c.args.self.now.disk.now).files 0) pieces are in
    let same : g.D.Disk.state c.refuse-in-Ok-None.new.self.disk.now ≡ (g.D.Disk.state c.begin_copies.new.disk) = ap g.D.Disk.state c.refuse-in-Ok-None.ensures.disk in
    subst (λ (u : State). During (g.D.Disk.state c.args.self.now.disk.now) u (λ d. MayBeStarted pieces d)) (sym same) (c.in-Ok-None.ensures.any_moment revealed (length (text_of pieces)) pieces p.0 p.1)

pub returns-in-Ok-None-clause-others : goal.returns-in-Ok-None-clause-others
returns-in-Ok-None-clause-others g c revealed f near =
    let same : g.D.Disk.state c.refuse-in-Ok-None.new.self.disk.now ≡ (g.D.Disk.state c.begin_copies.new.disk) = ap g.D.Disk.state c.refuse-in-Ok-None.ensures.disk in
    ap (λ (u : State). u.files f) same ∙ c.in-Ok-None.ensures.writes.contents revealed f near

pub returns-in-Ok-None-clause-crash : goal.returns-in-Ok-None-clause-crash
returns-in-Ok-None-clause-crash g c =
    let same : g.D.Disk.state c.refuse-in-Ok-None.new.self.disk.now ≡ (g.D.Disk.state c.begin_copies.new.disk) = ap g.D.Disk.state c.refuse-in-Ok-None.ensures.disk in
    subst (λ (u : State). Follows (KeepsFiles (λ f. f ≤ 64)) (g.D.Disk.state c.args.self.now.disk.now) u) (sym same) c.in-Ok-None.ensures.writes.crash

pub returns-in-Ok-None-clause-bare : goal.returns-in-Ok-None-clause-bare
returns-in-Ok-None-clause-bare g c revealed off never =
    let same : g.D.Disk.state c.refuse-in-Ok-None.new.self.disk.now ≡ (g.D.Disk.state c.begin_copies.new.disk) = ap g.D.Disk.state c.refuse-in-Ok-None.ensures.disk in
    (refl, subst (λ (u : State). WritesNone g.D.Disk.reveals (g.D.Disk.state c.args.self.now.disk.now) u) (sym same) (c.in-Ok-None.ensures.bare revealed never))

pub returns-in-Ok-None-clause-shown : goal.returns-in-Ok-None-clause-shown
returns-in-Ok-None-clause-shown g c =
    let m = c.args.self.now in
    let q = c.refuse-in-Ok-None.new.self in
    let same : g.D.Disk.state c.refuse-in-Ok-None.new.self.disk.now ≡ (g.D.Disk.state c.begin_copies.new.disk) = ap g.D.Disk.state c.refuse-in-Ok-None.ensures.disk in
    subst (λ (u : State). KeepsImages (mirror_state g.D.Disk.reveals (g.D.Disk.state c.args.self.now.disk.now) (record { name = m.disk.ghost_name; on = m.on; end = m.end; dead = m.dead; own = m.own })) (mirror_state g.D.Disk.reveals u (record { name = q.disk.ghost_name; on = q.on; end = q.end; dead = q.dead; own = q.own }))) (sym same) (started_keeps g.D.Disk.reveals (g.D.Disk.state c.args.self.now.disk.now) (g.D.Disk.state c.begin_copies.new.disk) (record { name = m.disk.ghost_name; on = m.on; end = m.end; dead = m.dead; own = m.own }) (record { name = q.disk.ghost_name; on = q.on; end = q.end; dead = q.dead; own = q.own }) c.in-Ok-None.ensures.shown)

pub returns-in-Ok-None-clause-time : goal.returns-in-Ok-None-clause-time
returns-in-Ok-None-clause-time g c =
    let same : g.D.Disk.state c.refuse-in-Ok-None.new.self.disk.now ≡ (g.D.Disk.state c.begin_copies.new.disk) = ap g.D.Disk.state c.refuse-in-Ok-None.ensures.disk in
    subst (λ (u : State). Passes (g.D.Disk.state c.args.self.now.disk.now) u) (sym same) c.in-Ok-None.ensures.writes.time

pub returns-in-Ok-None-clause-earlier : goal.returns-in-Ok-None-clause-earlier
returns-in-Ok-None-clause-earlier g c =
    let same : g.D.Disk.state c.refuse-in-Ok-None.new.self.disk.now ≡ (g.D.Disk.state c.begin_copies.new.disk) = ap g.D.Disk.state c.refuse-in-Ok-None.ensures.disk in
    subst (λ (u : State). HasEarlier (g.D.Disk.state c.args.self.now.disk.now) u) (sym same) c.in-Ok-None.ensures.writes.earlier

pub returns-in-Ok-None-clause-counts : goal.returns-in-Ok-None-clause-counts
returns-in-Ok-None-clause-counts g c not =
    let same : g.D.Disk.state c.refuse-in-Ok-None.new.self.disk.now ≡ (g.D.Disk.state c.begin_copies.new.disk) = ap g.D.Disk.state c.refuse-in-Ok-None.ensures.disk in
    inr (refl, c.refuse-in-Ok-None.ensures.own, ap (λ (u : State). u.faults) same ∙ c.in-Ok-None.ensures.writes.still (λ is. absurd (cc)))

pub returns-in-Ok-None-clause-handed : goal.returns-in-Ok-None-clause-handed
returns-in-Ok-None-clause-handed g c revealed off alive last ends =
    let p = ledger_pieces ((g.D.Disk.state c.args.self.now.disk.now).files 0) last ends in
    absurd ((rw c.in-Ok-None.field-0-is at c.in-Ok-None.ensures.made) revealed last p.0 ends p.1)

pub returns-in-Ok-None-clause-sure : goal.returns-in-Ok-None-clause-sure
returns-in-Ok-None-clause-sure g c revealed off alive free fit =
    let p = ledger_pieces ((g.D.Disk.state c.args.self.now.disk.now).files 0) fit.last fit.ends in
    absurd ((rw c.in-Ok-None.field-0-is at c.in-Ok-None.ensures.made) revealed fit.last p.0 fit.ends p.1)

pub returns-in-Err-clause-idle : goal.returns-in-Err-clause-idle
returns-in-Err-clause-idle g c is =
    absurd (let h = c.if-self.false in cc)

pub returns-in-Err-clause-refused : goal.returns-in-Err-clause-refused
returns-in-Err-clause-refused g c off dead =
    absurd (let h = c.if-self-2.false in cc)

pub returns-in-Err-clause-dies : goal.returns-in-Err-clause-dies
returns-in-Err-clause-dies g c is =
    (refl, c.if-self.false)

pub returns-in-Err-clause-any_moment : goal.returns-in-Err-clause-any_moment
returns-in-Err-clause-any_moment g c revealed off alive pieces are =
    let p = pieces_end ((g.D.Disk.state c.args.self.now.disk.now).files 0) pieces are in
    c.in-Err.ensures.any_moment revealed (length (text_of pieces)) pieces p.0 p.1

pub returns-in-Err-clause-others : goal.returns-in-Err-clause-others
returns-in-Err-clause-others g c revealed f near =
    c.in-Err.ensures.writes.contents revealed f near

pub returns-in-Err-clause-crash : goal.returns-in-Err-clause-crash
returns-in-Err-clause-crash g c =
    c.in-Err.ensures.writes.crash

pub returns-in-Err-clause-bare : goal.returns-in-Err-clause-bare
returns-in-Err-clause-bare g c revealed off never =
    (refl, c.in-Err.ensures.bare revealed never)

pub returns-in-Err-clause-shown : goal.returns-in-Err-clause-shown
returns-in-Err-clause-shown g c =
    let m = c.args.self.now in
    started_keeps g.D.Disk.reveals (g.D.Disk.state c.args.self.now.disk.now) (g.D.Disk.state c.begin_copies.new.disk) (record { name = m.disk.ghost_name; on = m.on; end = m.end; dead = m.dead; own = m.own }) (record { name = m.disk.ghost_name; on = m.on; end = m.end; dead = true; own = m.own }) c.in-Err.ensures.shown

pub returns-in-Err-clause-time : goal.returns-in-Err-clause-time
returns-in-Err-clause-time g c =
    c.in-Err.ensures.writes.time

pub returns-in-Err-clause-earlier : goal.returns-in-Err-clause-earlier
returns-in-Err-clause-earlier g c =
    c.in-Err.ensures.writes.earlier

pub returns-in-Err-clause-counts : goal.returns-in-Err-clause-counts
returns-in-Err-clause-counts g c not =
    inl (refl, failed_cause g.D.Disk.reveals _ _ (true ≡ true) (KeepsFiles (λ f. f ≤ 64)) (g.D.Disk.state c.args.self.now.disk.now) (g.D.Disk.state c.begin_copies.new.disk) _ refl c.in-Err.ensures.writes)

pub returns-in-Err-clause-handed : goal.returns-in-Err-clause-handed
returns-in-Err-clause-handed g c revealed off alive last ends =
    (refl, failed_cause g.D.Disk.reveals _ _ (true ≡ true) (KeepsFiles (λ f. f ≤ 64)) (g.D.Disk.state c.args.self.now.disk.now) (g.D.Disk.state c.begin_copies.new.disk) _ refl c.in-Err.ensures.writes)

pub returns-in-Err-clause-sure : goal.returns-in-Err-clause-sure
returns-in-Err-clause-sure g c revealed off alive free fit =
    absurd ((c.in-Err.ensures.writes.sure revealed free fit).0 refl)
