use Rattle.std.proofs.Common.{ℕ, List, ◌≡◌, ◌+◌, length, take, drop, ap, ◌∙◌}
use Rattle.std.proofs.lemmas.Result.{on_ok_weaker}
use Rattle.aea_disk.specs.Files.{Torn, overwritten}
use Rattle.aea_disk.specs.Steps.{range-overwritten}
use Rattle.aea_disk.specs.State.{HasRange, TakesFrom}
use Rattle.aea_disk.proofs.Moments.{during_none, during_then_kept, held_change, passes_none, others_change, others_then_kept}
use Rattle.aea_system_tests.specs.Gate.{TakesWrite, FitsWrite}
use Rattle.aea_system_tests.proofs.Surely.{sure_failed, sure_written}
use Rattle.aea_disk.proofs.Moments.{passes_both}
use Rattle.aea_system_tests.proofs.commits.gate.write_apart.Goals as goal

pub returns-in_err-write-clause-held : goal.returns-in_err-write-clause-held
returns-in_err-write-clause-held g c a kept apart held =
    let first = g.D.Disk.state c.args.disk.now in
    let second = g.D.Disk.state c.write.new.self in
    held_change c.args.file c.args.at (length c.args.bytes.now) first first second c.args.file a kept (λ same. apart) (passes_none first) c.write.ensures.time c.write.ensures.crash
    (during_none first (HasRange c.args.file a kept) held)

pub returns-clause-held : goal.returns-clause-held
returns-clause-held g c a kept apart held =
    let first = g.D.Disk.state c.args.disk.now in
    let second = g.D.Disk.state c.write.new.self in
    let third = g.D.Disk.state c.sync.new.self in
    let P = HasRange c.args.file a kept in
    let written = held_change c.args.file c.args.at (length c.args.bytes.now) first first second c.args.file a kept (λ same. apart) (passes_none first) c.write.ensures.time c.write.ensures.crash (during_none first P held) in
    during_then_kept first second third P c.write.ensures.time c.sync.ensures.time c.sync.ensures.crash written

pub returns-clause-durable : goal.returns-clause-durable
returns-clause-durable g c =
    let first = g.D.Disk.state c.args.disk.now in
    let bytes = c.args.bytes.now in
    let file = c.args.file in
    on_ok_weaker c.sync.result
    (λ durable revealed d here.
    let reads : d file ≡ overwritten (first.files file) c.args.at bytes = durable revealed d here file ∙ ap (λ (e : ℕ → List ℕ). e file) (c.sync.ensures.contents revealed) ∙ (c.in_ok-write.ensures.written revealed).here in
    ap (λ (l : List ℕ). take (length bytes) (drop c.args.at l)) reads ∙ range-overwritten (first.files file) c.args.at bytes)
    c.sync.ensures.durable

pub returns-clause-others : goal.returns-clause-others
returns-clause-others g c =
    let first = g.D.Disk.state c.args.disk.now in
    let second = g.D.Disk.state c.write.new.self in
    let third = g.D.Disk.state c.sync.new.self in
    others_then_kept g.D.Disk.reveals c.args.file first second third c.write.ensures.time c.sync.ensures.time c.sync.ensures.crash c.sync.ensures.contents
    (others_change g.D.Disk.reveals c.args.file (Torn c.args.at (length c.args.bytes.now)) first second c.write.ensures.crash (λ revealed. (c.in_ok-write.ensures.written revealed).others))

pub returns-in_err-write-clause-sure : goal.returns-in_err-write-clause-sure
returns-in_err-write-clause-sure g c =
    let first = g.D.Disk.state c.args.disk.now in
    let bytes = c.args.bytes.now in
    sure_failed (g.D.Disk.reveals × TakesFrom first c.args.file (c.args.at)) (g.D.Disk.reveals × TakesWrite first c.args.file (c.args.at) bytes) (first.room c.args.file (c.args.at + length bytes)) (FitsWrite first c.args.file (c.args.at) bytes) first (g.D.Disk.state c.write.new.self) c.from_residual.result (cc)
    (λ is. (is.0, is.1.here)) (λ is fit. fit.room) c.in_err-write.ensures.sure

pub returns-clause-sure : goal.returns-clause-sure
returns-clause-sure g c =
    let e = c.in_ok-write.ensures in
    sure_written g.D.Disk.reveals c.args.file (c.args.at) (c.args.bytes.now) (g.D.Disk.state c.args.disk.now) (g.D.Disk.state c.write.new.self) (g.D.Disk.state c.sync.new.self) c.sync.result e.written e.time e.sure c.sync.ensures.sure

pub returns-clause-time : goal.returns-clause-time
returns-clause-time g c = passes_both (g.D.Disk.state c.args.disk.now) (g.D.Disk.state c.write.new.self) (g.D.Disk.state c.sync.new.self) c.write.ensures.time c.sync.ensures.time
