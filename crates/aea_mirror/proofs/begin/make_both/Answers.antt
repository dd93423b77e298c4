use Rattle.std.proofs.Common.{rules, ◌≡◌, false, true, refl, arith}
use Rattle.aea_disk.proofs.Frames.{writes_as}
use Rattle.aea_disk.proofs.Moments.{synced_fixed}
use Rattle.aea_mirror.proofs.Beginning.{first_moments, both_moments, can_same, both_started, writes_first, writes_second}
use Rattle.aea_mirror.proofs.begin.make_both.Goals as goal

pub make_copy-requires-clause-fixed : goal.make_copy-requires-clause-fixed
make_copy-requires-clause-fixed g c = λ revealed. synced_fixed (g.D.Disk.state c.args.disk.now) 65 (c.requires.synced revealed)

pub make_copy-requires-2-clause-fixed : goal.make_copy-requires-2-clause-fixed
make_copy-requires-2-clause-fixed g c = λ revealed. synced_fixed (g.D.Disk.state c.make_copy.new.disk) 66 ((rw c.in-Some.is at c.in_ok-one.ensures.durable) revealed)

pub returns-in_err-one-clause-any_moment : goal.returns-in_err-one-clause-any_moment
returns-in_err-one-clause-any_moment g c = λ revealed pieces can.
    first_moments g.D.Disk.reveals _ _ _ pieces (g.D.Disk.state c.args.disk.now) (g.D.Disk.state c.make_copy.new.disk) (c.requires.synced revealed) (c.requires.none revealed) c.in_err-one.ensures.writes (c.in_err-one.ensures.any_moment revealed pieces can)

pub returns-in_default-clause-any_moment : goal.returns-in_default-clause-any_moment
returns-in_default-clause-any_moment g c = λ revealed pieces can.
    first_moments g.D.Disk.reveals _ _ _ pieces (g.D.Disk.state c.args.disk.now) (g.D.Disk.state c.make_copy.new.disk) (c.requires.synced revealed) (c.requires.none revealed) c.in_ok-one.ensures.writes (c.in_ok-one.ensures.any_moment revealed pieces can)

pub returns-in_err-two-clause-any_moment : goal.returns-in_err-two-clause-any_moment
returns-in_err-two-clause-any_moment g c = λ revealed pieces can.
    let first = c.in_ok-one.ensures in
    let whole = (rw c.in-Some.is at first.made) revealed pieces can in
    let also = can_same pieces c.args.until ((g.D.Disk.state c.args.disk.now).files 0) ((g.D.Disk.state c.make_copy.new.disk).files 0) (first.writes.contents revealed 0 (λ is. omega (arith, is))) can in
    both_moments g.D.Disk.reveals _ _ _ _ _ _ pieces (g.D.Disk.state c.args.disk.now) (g.D.Disk.state c.make_copy.new.disk) (g.D.Disk.state c.make_copy-2.new.disk) revealed (c.requires.synced revealed) (c.requires.none revealed) first.writes (first.any_moment revealed pieces can) whole.1
    ((rw c.in-Some.is at first.durable) revealed) c.in_err-two.ensures.writes (c.in_err-two.ensures.any_moment revealed pieces also)

pub returns-in_default-2-clause-any_moment : goal.returns-in_default-2-clause-any_moment
returns-in_default-2-clause-any_moment g c = λ revealed pieces can.
    let first = c.in_ok-one.ensures in
    let whole = (rw c.in-Some.is at first.made) revealed pieces can in
    let also = can_same pieces c.args.until ((g.D.Disk.state c.args.disk.now).files 0) ((g.D.Disk.state c.make_copy.new.disk).files 0) (first.writes.contents revealed 0 (λ is. omega (arith, is))) can in
    both_moments g.D.Disk.reveals _ _ _ _ _ _ pieces (g.D.Disk.state c.args.disk.now) (g.D.Disk.state c.make_copy.new.disk) (g.D.Disk.state c.make_copy-2.new.disk) revealed (c.requires.synced revealed) (c.requires.none revealed) first.writes (first.any_moment revealed pieces can) whole.1
    ((rw c.in-Some.is at first.durable) revealed) c.in_ok-two.ensures.writes (c.in_ok-two.ensures.any_moment revealed pieces also)

pub returns-clause-any_moment : goal.returns-clause-any_moment
returns-clause-any_moment g c = λ revealed pieces can.
    let first = c.in_ok-one.ensures in
    let whole = (rw c.in-Some.is at first.made) revealed pieces can in
    let also = can_same pieces c.args.until ((g.D.Disk.state c.args.disk.now).files 0) ((g.D.Disk.state c.make_copy.new.disk).files 0) (first.writes.contents revealed 0 (λ is. omega (arith, is))) can in
    both_moments g.D.Disk.reveals _ _ _ _ _ _ pieces (g.D.Disk.state c.args.disk.now) (g.D.Disk.state c.make_copy.new.disk) (g.D.Disk.state c.make_copy-2.new.disk) revealed (c.requires.synced revealed) (c.requires.none revealed) first.writes (first.any_moment revealed pieces can) whole.1
    ((rw c.in-Some.is at first.durable) revealed) c.in_ok-two.ensures.writes (c.in_ok-two.ensures.any_moment revealed pieces also)

pub returns-in_default-clause-made : goal.returns-in_default-clause-made
returns-in_default-clause-made g c = λ revealed pieces can. (rw c.in_default.is at c.in_ok-one.ensures.made) revealed pieces can

pub returns-in_default-2-clause-made : goal.returns-in_default-2-clause-made
returns-in_default-2-clause-made g c = λ revealed pieces can.
    (rw c.in_default-2.is at c.in_ok-two.ensures.made) revealed pieces (can_same pieces c.args.until ((g.D.Disk.state c.args.disk.now).files 0) ((g.D.Disk.state c.make_copy.new.disk).files 0) (c.in_ok-one.ensures.writes.contents revealed 0 (λ is. omega (arith, is))) can)

pub returns-clause-made : goal.returns-clause-made
returns-clause-made g c = λ revealed pieces can.
    let first = c.in_ok-one.ensures in
    let whole = (rw c.in-Some.is at first.made) revealed pieces can in
    let also = can_same pieces c.args.until ((g.D.Disk.state c.args.disk.now).files 0) ((g.D.Disk.state c.make_copy.new.disk).files 0) (first.writes.contents revealed 0 (λ is. omega (arith, is))) can in
    let second = (rw c.in-Some-2.is at c.in_ok-two.ensures.made) revealed pieces also in
    both_started g.D.Disk.reveals _ _ _ pieces c.args.until c.in-Some.one c.in-Some-2.two c.tail_of.result c.tail_of-2.result (g.D.Disk.state c.args.disk.now) (g.D.Disk.state c.make_copy.new.disk) (g.D.Disk.state c.make_copy-2.new.disk) revealed can whole.0 second.0
    c.tail_of.ensures.gate c.tail_of.ensures.link c.tail_of-2.ensures.gate c.tail_of-2.ensures.link whole.1 second.1 c.in_ok-two.ensures.writes

pub returns-in_err-one-clause-writes : goal.returns-in_err-one-clause-writes
returns-in_err-one-clause-writes g c =
    writes_first g.D.Disk.reveals _ c.args.until (g.D.Disk.state c.args.disk.now) (g.D.Disk.state c.make_copy.new.disk)
    (writes_as g.D.Disk.reveals _ _ (true ≡ true) _ _ (g.D.Disk.state c.args.disk.now) (g.D.Disk.state c.make_copy.new.disk) (λ is. refl) (λ is. search rules) c.in_err-one.ensures.writes)

pub returns-in_default-clause-writes : goal.returns-in_default-clause-writes
returns-in_default-clause-writes g c = writes_first g.D.Disk.reveals (false ≡ true) c.args.until (g.D.Disk.state c.args.disk.now) (g.D.Disk.state c.make_copy.new.disk) c.in_ok-one.ensures.writes

pub returns-in_err-two-clause-writes : goal.returns-in_err-two-clause-writes
returns-in_err-two-clause-writes g c =
    writes_second g.D.Disk.reveals (false ≡ true) _ c.args.until (g.D.Disk.state c.args.disk.now) (g.D.Disk.state c.make_copy.new.disk) (g.D.Disk.state c.make_copy-2.new.disk) (λ is. absurd (cc)) c.in_ok-one.ensures.writes
    (writes_as g.D.Disk.reveals _ _ (true ≡ true) _ _ (g.D.Disk.state c.make_copy.new.disk) (g.D.Disk.state c.make_copy-2.new.disk) (λ is. refl) (λ is. search rules) c.in_err-two.ensures.writes)

pub returns-in_default-2-clause-writes : goal.returns-in_default-2-clause-writes
returns-in_default-2-clause-writes g c = writes_second g.D.Disk.reveals (false ≡ true) (false ≡ true) c.args.until (g.D.Disk.state c.args.disk.now) (g.D.Disk.state c.make_copy.new.disk) (g.D.Disk.state c.make_copy-2.new.disk) (λ is. absurd (cc)) c.in_ok-one.ensures.writes c.in_ok-two.ensures.writes

pub returns-clause-writes : goal.returns-clause-writes
returns-clause-writes g c = writes_second g.D.Disk.reveals (false ≡ true) (false ≡ true) c.args.until (g.D.Disk.state c.args.disk.now) (g.D.Disk.state c.make_copy.new.disk) (g.D.Disk.state c.make_copy-2.new.disk) (λ is. absurd (cc)) c.in_ok-one.ensures.writes c.in_ok-two.ensures.writes
