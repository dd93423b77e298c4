use Rattle.std.proofs.Common.{rules, ◌≡◌, false, true, inl, inr, refl, sym, subst, arith}
use Rattle.aea_disk.proofs.Frames.{writes_as}
use Rattle.aea_mirror.specs.Extending.{IsShut}
use Rattle.aea_mirror.proofs.Doubling.{gated_here, phase_one, phase_two, bodies_one, bodies_two, fits_second, both_extended, writes_two_copies}
use Rattle.aea_mirror.proofs.extend.extend_both.Goals as goal

pub extend_copy-requires-clause-gated : goal.extend_copy-requires-clause-gated
extend_copy-requires-clause-gated g c = λ revealed. gated_here (g.D.Disk.state c.args.disk.now) 65 c.args.first.now.gate (c.requires.synced revealed) (c.requires.shut revealed 65 c.args.first.now.gate (inl (refl, refl)))

pub extend_copy-requires-2-clause-gated : goal.extend_copy-requires-2-clause-gated
extend_copy-requires-2-clause-gated g c = λ revealed.
    let s = g.D.Disk.state c.args.disk.now in
    let m = g.D.Disk.state c.extend_copy.new.disk in
    gated_here m 66 c.args.second.now.gate ((rw c.in-Some.is at c.in_ok-one.ensures.durable) revealed)
    (subst (IsShut c.args.second.now.gate) (sym (c.in_ok-one.ensures.writes.contents revealed 66 (λ is. omega (arith, is)))) (c.requires.shut revealed 66 c.args.second.now.gate (inr (refl, refl))))

pub returns-in_err-one-clause-phase : goal.returns-in_err-one-clause-phase
returns-in_err-one-clause-phase g c = λ revealed.
    let s = g.D.Disk.state c.args.disk.now in
    let m = g.D.Disk.state c.extend_copy.new.disk in
    (phase_one g.D.Disk.reveals _ _ _ c.args.first.now.gate c.args.second.now.gate s m revealed (c.requires.synced revealed) (c.requires.shut revealed) (c.in_err-one.ensures.extends revealed) c.in_err-one.ensures.writes)

pub returns-in_err-one-clause-bodies : goal.returns-in_err-one-clause-bodies
returns-in_err-one-clause-bodies g c = λ revealed more fits.
    let s = g.D.Disk.state c.args.disk.now in
    let m = g.D.Disk.state c.extend_copy.new.disk in
    bodies_one g.D.Disk.reveals _ _ _ c.args.first.now c.args.second.now more s m (c.requires.synced revealed) (c.requires.shut revealed) c.in_err-one.ensures.writes (c.in_err-one.ensures.body revealed more fits.has fits.fits)

pub returns-in_default-clause-phase : goal.returns-in_default-clause-phase
returns-in_default-clause-phase g c = λ revealed.
    let s = g.D.Disk.state c.args.disk.now in
    let m = g.D.Disk.state c.extend_copy.new.disk in
    (phase_one g.D.Disk.reveals _ _ _ c.args.first.now.gate c.args.second.now.gate s m revealed (c.requires.synced revealed) (c.requires.shut revealed) (c.in_ok-one.ensures.extends revealed) c.in_ok-one.ensures.writes)

pub returns-in_default-clause-bodies : goal.returns-in_default-clause-bodies
returns-in_default-clause-bodies g c = λ revealed more fits.
    let s = g.D.Disk.state c.args.disk.now in
    let m = g.D.Disk.state c.extend_copy.new.disk in
    bodies_one g.D.Disk.reveals _ _ _ c.args.first.now c.args.second.now more s m (c.requires.synced revealed) (c.requires.shut revealed) c.in_ok-one.ensures.writes (c.in_ok-one.ensures.body revealed more fits.has fits.fits)

pub returns-in_err-two-clause-phase : goal.returns-in_err-two-clause-phase
returns-in_err-two-clause-phase g c = λ revealed.
    let s = g.D.Disk.state c.args.disk.now in
    let m = g.D.Disk.state c.extend_copy.new.disk in
    let n = g.D.Disk.state c.extend_copy-2.new.disk in
    phase_two g.D.Disk.reveals _ _ _ c.args.first.now.gate c.args.second.now.gate s m n revealed
    (phase_one g.D.Disk.reveals _ _ _ c.args.first.now.gate c.args.second.now.gate s m revealed (c.requires.synced revealed) (c.requires.shut revealed) (c.in_ok-one.ensures.extends revealed) c.in_ok-one.ensures.writes)
    ((rw c.in-Some.is at c.in_ok-one.ensures.durable) revealed) (c.in_err-two.ensures.extends revealed) c.in_err-two.ensures.writes

pub returns-in_err-two-clause-bodies : goal.returns-in_err-two-clause-bodies
returns-in_err-two-clause-bodies g c = λ revealed more fits.
    let s = g.D.Disk.state c.args.disk.now in
    let m = g.D.Disk.state c.extend_copy.new.disk in
    let n = g.D.Disk.state c.extend_copy-2.new.disk in
    let first = c.in_ok-one.ensures in
    let opened = (rw c.in-Some.is at first.opened) revealed more fits.has fits.fits in
    let second = fits_second c.args.first.now c.args.second.now more c.args.from c.args.until (s.files 0) (m.files 0) (first.writes.contents revealed 0 (λ is. omega (arith, is))) fits in
    bodies_two g.D.Disk.reveals _ _ _ c.args.first.now c.args.second.now more s m n fits.links first.writes.time
    (bodies_one g.D.Disk.reveals _ _ _ c.args.first.now c.args.second.now more s m (c.requires.synced revealed) (c.requires.shut revealed) first.writes (first.body revealed more fits.has fits.fits))
    ((rw c.in-Some.is at c.in_ok-one.ensures.durable) revealed) opened.1.1 c.in_err-two.ensures.writes (c.in_err-two.ensures.body revealed more second.0 second.1)

pub returns-in_default-2-clause-phase : goal.returns-in_default-2-clause-phase
returns-in_default-2-clause-phase g c = λ revealed.
    let s = g.D.Disk.state c.args.disk.now in
    let m = g.D.Disk.state c.extend_copy.new.disk in
    let n = g.D.Disk.state c.extend_copy-2.new.disk in
    phase_two g.D.Disk.reveals _ _ _ c.args.first.now.gate c.args.second.now.gate s m n revealed
    (phase_one g.D.Disk.reveals _ _ _ c.args.first.now.gate c.args.second.now.gate s m revealed (c.requires.synced revealed) (c.requires.shut revealed) (c.in_ok-one.ensures.extends revealed) c.in_ok-one.ensures.writes)
    ((rw c.in-Some.is at c.in_ok-one.ensures.durable) revealed) (c.in_ok-two.ensures.extends revealed) c.in_ok-two.ensures.writes

pub returns-in_default-2-clause-bodies : goal.returns-in_default-2-clause-bodies
returns-in_default-2-clause-bodies g c = λ revealed more fits.
    let s = g.D.Disk.state c.args.disk.now in
    let m = g.D.Disk.state c.extend_copy.new.disk in
    let n = g.D.Disk.state c.extend_copy-2.new.disk in
    let first = c.in_ok-one.ensures in
    let opened = (rw c.in-Some.is at first.opened) revealed more fits.has fits.fits in
    let second = fits_second c.args.first.now c.args.second.now more c.args.from c.args.until (s.files 0) (m.files 0) (first.writes.contents revealed 0 (λ is. omega (arith, is))) fits in
    bodies_two g.D.Disk.reveals _ _ _ c.args.first.now c.args.second.now more s m n fits.links first.writes.time
    (bodies_one g.D.Disk.reveals _ _ _ c.args.first.now c.args.second.now more s m (c.requires.synced revealed) (c.requires.shut revealed) first.writes (first.body revealed more fits.has fits.fits))
    ((rw c.in-Some.is at c.in_ok-one.ensures.durable) revealed) opened.1.1 c.in_ok-two.ensures.writes (c.in_ok-two.ensures.body revealed more second.0 second.1)

pub returns-clause-phase : goal.returns-clause-phase
returns-clause-phase g c = λ revealed.
    let s = g.D.Disk.state c.args.disk.now in
    let m = g.D.Disk.state c.extend_copy.new.disk in
    let n = g.D.Disk.state c.extend_copy-2.new.disk in
    phase_two g.D.Disk.reveals _ _ _ c.args.first.now.gate c.args.second.now.gate s m n revealed
    (phase_one g.D.Disk.reveals _ _ _ c.args.first.now.gate c.args.second.now.gate s m revealed (c.requires.synced revealed) (c.requires.shut revealed) (c.in_ok-one.ensures.extends revealed) c.in_ok-one.ensures.writes)
    ((rw c.in-Some.is at c.in_ok-one.ensures.durable) revealed) (c.in_ok-two.ensures.extends revealed) c.in_ok-two.ensures.writes

pub returns-clause-bodies : goal.returns-clause-bodies
returns-clause-bodies g c = λ revealed more fits.
    let s = g.D.Disk.state c.args.disk.now in
    let m = g.D.Disk.state c.extend_copy.new.disk in
    let n = g.D.Disk.state c.extend_copy-2.new.disk in
    let first = c.in_ok-one.ensures in
    let opened = (rw c.in-Some.is at first.opened) revealed more fits.has fits.fits in
    let second = fits_second c.args.first.now c.args.second.now more c.args.from c.args.until (s.files 0) (m.files 0) (first.writes.contents revealed 0 (λ is. omega (arith, is))) fits in
    bodies_two g.D.Disk.reveals _ _ _ c.args.first.now c.args.second.now more s m n fits.links first.writes.time
    (bodies_one g.D.Disk.reveals _ _ _ c.args.first.now c.args.second.now more s m (c.requires.synced revealed) (c.requires.shut revealed) first.writes (first.body revealed more fits.has fits.fits))
    ((rw c.in-Some.is at c.in_ok-one.ensures.durable) revealed) opened.1.1 c.in_ok-two.ensures.writes (c.in_ok-two.ensures.body revealed more second.0 second.1)

pub returns-in_err-two-clause-writes : goal.returns-in_err-two-clause-writes
returns-in_err-two-clause-writes g c =
    let s = g.D.Disk.state c.args.disk.now in
    let m = g.D.Disk.state c.extend_copy.new.disk in
    let n = g.D.Disk.state c.extend_copy-2.new.disk in
    writes_two_copies g.D.Disk.reveals (false ≡ true) _ c.args.first.now c.args.second.now c.args.from c.args.until s m n (λ is. absurd (cc)) c.in_ok-one.ensures.writes
    (writes_as g.D.Disk.reveals _ _ (true ≡ true) _ _ m n (λ is. refl) (λ is. search rules) c.in_err-two.ensures.writes)

pub returns-in_default-2-clause-writes : goal.returns-in_default-2-clause-writes
returns-in_default-2-clause-writes g c =
    let s = g.D.Disk.state c.args.disk.now in
    let m = g.D.Disk.state c.extend_copy.new.disk in
    let n = g.D.Disk.state c.extend_copy-2.new.disk in
    writes_two_copies g.D.Disk.reveals (false ≡ true) (false ≡ true) c.args.first.now c.args.second.now c.args.from c.args.until s m n (λ is. absurd (cc)) c.in_ok-one.ensures.writes c.in_ok-two.ensures.writes

pub returns-clause-writes : goal.returns-clause-writes
returns-clause-writes g c =
    let s = g.D.Disk.state c.args.disk.now in
    let m = g.D.Disk.state c.extend_copy.new.disk in
    let n = g.D.Disk.state c.extend_copy-2.new.disk in
    writes_two_copies g.D.Disk.reveals (false ≡ true) (false ≡ true) c.args.first.now c.args.second.now c.args.from c.args.until s m n (λ is. absurd (cc)) c.in_ok-one.ensures.writes c.in_ok-two.ensures.writes

pub returns-clause-opened : goal.returns-clause-opened
returns-clause-opened g c = λ revealed more fits.
    let s = g.D.Disk.state c.args.disk.now in
    let m = g.D.Disk.state c.extend_copy.new.disk in
    let n = g.D.Disk.state c.extend_copy-2.new.disk in
    let first = c.in_ok-one.ensures in
    let opened = (rw c.in-Some.is at first.opened) revealed more fits.has fits.fits in
    let second = fits_second c.args.first.now c.args.second.now more c.args.from c.args.until (s.files 0) (m.files 0) (first.writes.contents revealed 0 (λ is. omega (arith, is))) fits in
    let last = (rw c.in-Some-2.is at c.in_ok-two.ensures.opened) revealed more second.0 second.1 in
    both_extended g.D.Disk.reveals _ _ _ c.args.first.now c.args.second.now c.in-Some.one c.in-Some-2.two more s m n revealed fits.links opened.0 last.0 opened.1 last.1 c.in_ok-two.ensures.writes

pub returns-in_default-2-clause-opened : goal.returns-in_default-2-clause-opened
returns-in_default-2-clause-opened g c = λ revealed more fits.
    let s = g.D.Disk.state c.args.disk.now in
    let m = g.D.Disk.state c.extend_copy.new.disk in
    let second = fits_second c.args.first.now c.args.second.now more c.args.from c.args.until (s.files 0) (m.files 0) (c.in_ok-one.ensures.writes.contents revealed 0 (λ is. omega (arith, is))) fits in
    (rw c.in_default-2.is at c.in_ok-two.ensures.opened) revealed more second.0 second.1
