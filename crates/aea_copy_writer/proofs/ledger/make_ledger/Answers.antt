use Rattle.std.proofs.Common.{◌≡◌, inr, ◌+◌, ◌-◌, ℕ, refl, sym, subst, arith}
use Rattle.aea_disk.specs.Files.{ChangesFile, Torn}
use Rattle.aea_disk.proofs.Frames.{writes_faulted, ok_fine}
use Rattle.aea_copies.specs.Kept.{IsGood}
use Rattle.aea_copy_writer.specs.Changes.{KeepsFront, FitsChange}
use Rattle.aea_copy_writer.specs.Anew.{whole_text}
use Rattle.aea_copy_writer.proofs.Made.{while_filled, while_opened}
use Rattle.aea_copy_writer.proofs.Filling.{text_open}
use Rattle.aea_copy_writer.proofs.Pieces.{copy_some}
use Rattle.aea_copy_writer.proofs.Renewing.{torn_none_or_made, holds_made}
use Rattle.aea_copy_writer.proofs.Stretches.{only_as, only_of, only_then, fits_less, fits_later}
use Rattle.aea_copy_writer.proofs.ledger.make_ledger.Goals as goal

pub returns-in_err-fill_ledger-clause-any_moment : goal.returns-in_err-fill_ledger-clause-any_moment
returns-in_err-fill_ledger-clause-any_moment g c revealed pieces good is =
    let file : ℕ = 0 in
    let first = g.D.Disk.state c.args.disk.now in
    let second = g.D.Disk.state c.clear.new.disk in
    let third = g.D.Disk.state c.fill_ledger.new.disk in
    while_filled file (whole_text pieces) (first.files file) first second third c.clear.ensures.writes.time c.fill_ledger.ensures.writes.time (c.clear.ensures.any_moment revealed) (c.in_ok-clear.ensures.cleared revealed) (c.in_ok-clear.ensures.durable revealed) c.fill_ledger.ensures.writes.crash

pub returns-in_err-fill_ledger-clause-writes : goal.returns-in_err-fill_ledger-clause-writes
returns-in_err-fill_ledger-clause-writes g c =
    let reveals = g.D.Disk.reveals in
    let file : ℕ = 0 in
    let first = g.D.Disk.state c.args.disk.now in
    let second = g.D.Disk.state c.clear.new.disk in
    let third = g.D.Disk.state c.fill_ledger.new.disk in
    only_then reveals _ _ (FitsChange first 0 (c.args.until + 1)) (FitsChange second 0 (c.args.until + 1)) file first second third (ok_fine (c.in_ok-clear.was))
    (λ revealed fit changes passes. fits_later first second 0 (c.args.until + 1) (c.args.until + 1) (g.met.D.Disk.smaller_fits c.clear.new.disk) (omega arith) changes passes fit)
    (only_as reveals _ (FitsChange first file 1) (FitsChange first 0 (c.args.until + 1)) file first second (λ revealed fit. fits_less first 0 (c.args.until + 1) 1 (g.met.D.Disk.smaller_fits c.args.disk.now) (omega arith) fit) c.clear.ensures.writes)
    (only_of reveals _ (FitsChange second 0 (c.args.until + 1)) (FitsChange second 0 (c.args.until + 1)) file (KeepsFront 1) second third (λ revealed fit. fit) (writes_faulted reveals second.free (FitsChange second 0 (c.args.until + 1)) _ _ (ChangesFile file (KeepsFront 1)) second third c.in_err-fill_ledger.ensures.writes refl (cc)))

pub returns-then-not-branch-clause-writes : goal.returns-then-not-branch-clause-writes
returns-then-not-branch-clause-writes g c =
    let reveals = g.D.Disk.reveals in
    let file : ℕ = 0 in
    let first = g.D.Disk.state c.args.disk.now in
    let second = g.D.Disk.state c.clear.new.disk in
    let third = g.D.Disk.state c.fill_ledger.new.disk in
    only_then reveals _ _ (FitsChange first 0 (c.args.until + 1)) (FitsChange second 0 (c.args.until + 1)) file first second third (ok_fine (c.in_ok-clear.was))
    (λ revealed fit changes passes. fits_later first second 0 (c.args.until + 1) (c.args.until + 1) (g.met.D.Disk.smaller_fits c.clear.new.disk) (omega arith) changes passes fit)
    (only_as reveals _ (FitsChange first file 1) (FitsChange first 0 (c.args.until + 1)) file first second (λ revealed fit. fits_less first 0 (c.args.until + 1) 1 (g.met.D.Disk.smaller_fits c.args.disk.now) (omega arith) fit) c.clear.ensures.writes)
    (only_of reveals _ (FitsChange second 0 (c.args.until + 1)) (FitsChange second 0 (c.args.until + 1)) file (KeepsFront 1) second third (λ revealed fit. fit) c.in_ok-fill_ledger.ensures.writes)

pub returns-in_err-open_gate_at-clause-writes : goal.returns-in_err-open_gate_at-clause-writes
returns-in_err-open_gate_at-clause-writes g c =
    let reveals = g.D.Disk.reveals in
    let file : ℕ = 0 in
    let first = g.D.Disk.state c.args.disk.now in
    let second = g.D.Disk.state c.clear.new.disk in
    let third = g.D.Disk.state c.fill_ledger.new.disk in
    let fourth = g.D.Disk.state c.open_gate_at.new.disk in
    only_then reveals _ _ (FitsChange first 0 (c.args.until + 1)) (FitsChange third file 1) file first third fourth (ok_fine (c.in_ok-fill_ledger.was))
    (λ revealed fit changes passes. fits_later first third 0 (c.args.until + 1) 1 (g.met.D.Disk.smaller_fits c.fill_ledger.new.disk) (omega arith) changes passes fit)
    (only_then reveals _ _ (FitsChange first 0 (c.args.until + 1)) (FitsChange second 0 (c.args.until + 1)) file first second third (ok_fine (c.in_ok-clear.was))
    (λ revealed fit changes passes. fits_later first second 0 (c.args.until + 1) (c.args.until + 1) (g.met.D.Disk.smaller_fits c.clear.new.disk) (omega arith) changes passes fit)
    (only_as reveals _ (FitsChange first file 1) (FitsChange first 0 (c.args.until + 1)) file first second (λ revealed fit. fits_less first 0 (c.args.until + 1) 1 (g.met.D.Disk.smaller_fits c.args.disk.now) (omega arith) fit) c.clear.ensures.writes)
    (only_of reveals _ (FitsChange second 0 (c.args.until + 1)) (FitsChange second 0 (c.args.until + 1)) file (KeepsFront 1) second third (λ revealed fit. fit) c.fill_ledger.ensures.writes))
    (only_of reveals _ (FitsChange third file 1) (FitsChange third file 1) file (Torn 0 1) third fourth (λ revealed fit. fit) (writes_faulted reveals third.free (FitsChange third file 1) _ _ (ChangesFile file (Torn 0 1)) third fourth c.in_err-open_gate_at.ensures.writes refl (cc)))

pub returns-clause-writes : goal.returns-clause-writes
returns-clause-writes g c =
    let reveals = g.D.Disk.reveals in
    let file : ℕ = 0 in
    let first = g.D.Disk.state c.args.disk.now in
    let second = g.D.Disk.state c.clear.new.disk in
    let third = g.D.Disk.state c.fill_ledger.new.disk in
    let fourth = g.D.Disk.state c.open_gate_at.new.disk in
    only_then reveals _ _ (FitsChange first 0 (c.args.until + 1)) (FitsChange third file 1) file first third fourth (ok_fine (c.in_ok-fill_ledger.was))
    (λ revealed fit changes passes. fits_later first third 0 (c.args.until + 1) 1 (g.met.D.Disk.smaller_fits c.fill_ledger.new.disk) (omega arith) changes passes fit)
    (only_then reveals _ _ (FitsChange first 0 (c.args.until + 1)) (FitsChange second 0 (c.args.until + 1)) file first second third (ok_fine (c.in_ok-clear.was))
    (λ revealed fit changes passes. fits_later first second 0 (c.args.until + 1) (c.args.until + 1) (g.met.D.Disk.smaller_fits c.clear.new.disk) (omega arith) changes passes fit)
    (only_as reveals _ (FitsChange first file 1) (FitsChange first 0 (c.args.until + 1)) file first second (λ revealed fit. fits_less first 0 (c.args.until + 1) 1 (g.met.D.Disk.smaller_fits c.args.disk.now) (omega arith) fit) c.clear.ensures.writes)
    (only_of reveals _ (FitsChange second 0 (c.args.until + 1)) (FitsChange second 0 (c.args.until + 1)) file (KeepsFront 1) second third (λ revealed fit. fit) c.fill_ledger.ensures.writes))
    (only_of reveals _ (FitsChange third file 1) (FitsChange third file 1) file (Torn 0 1) third fourth (λ revealed fit. fit) c.in_ok-open_gate_at.ensures.writes)

pub returns-in_err-open_gate_at-clause-any_moment : goal.returns-in_err-open_gate_at-clause-any_moment
returns-in_err-open_gate_at-clause-any_moment g c revealed pieces good is =
    let file : ℕ = 0 in
    let first = g.D.Disk.state c.args.disk.now in
    let second = g.D.Disk.state c.clear.new.disk in
    let third = g.D.Disk.state c.fill_ledger.new.disk in
    let fourth = g.D.Disk.state c.open_gate_at.new.disk in
    let there : IsGood pieces (second.files c.args.source) = subst (IsGood pieces) (sym (c.clear.ensures.writes.contents revealed c.args.source (λ (no : c.args.source ≡ 0). omega (arith, no, copy_some c.args.source c.requires.source)))) good in
    let all = c.in_ok-fill_ledger.ensures.filled revealed pieces there is in
    while_opened file (whole_text pieces) (first.files file) first second third fourth c.clear.ensures.writes.time c.fill_ledger.ensures.writes.time c.open_gate_at.ensures.writes.time (c.clear.ensures.any_moment revealed) (c.in_ok-clear.ensures.cleared revealed) (c.in_ok-clear.ensures.durable revealed)
    c.fill_ledger.ensures.writes.crash (text_open pieces good.valid good.some) all.1 (c.in_ok-fill_ledger.ensures.durable c.if-not-branch.false revealed) c.open_gate_at.ensures.writes.crash

pub returns-in_err-open_gate_at-clause-reads : goal.returns-in_err-open_gate_at-clause-reads
returns-in_err-open_gate_at-clause-reads g c revealed pieces good is =
    let file : ℕ = 0 in
    let first = g.D.Disk.state c.args.disk.now in
    let second = g.D.Disk.state c.clear.new.disk in
    let third = g.D.Disk.state c.fill_ledger.new.disk in
    let fourth = g.D.Disk.state c.open_gate_at.new.disk in
    let there : IsGood pieces (second.files c.args.source) = subst (IsGood pieces) (sym (c.clear.ensures.writes.contents revealed c.args.source (λ (no : c.args.source ≡ 0). omega (arith, no, copy_some c.args.source c.requires.source)))) good in
    let all = c.in_ok-fill_ledger.ensures.filled revealed pieces there is in
    inr (torn_none_or_made (whole_text pieces) (third.files file) (fourth.files file) (text_open pieces good.valid good.some) all.1 (c.open_gate_at.ensures.writes.contents revealed).here)

pub returns-clause-any_moment : goal.returns-clause-any_moment
returns-clause-any_moment g c revealed pieces good is =
    let file : ℕ = 0 in
    let first = g.D.Disk.state c.args.disk.now in
    let second = g.D.Disk.state c.clear.new.disk in
    let third = g.D.Disk.state c.fill_ledger.new.disk in
    let fourth = g.D.Disk.state c.open_gate_at.new.disk in
    let there : IsGood pieces (second.files c.args.source) = subst (IsGood pieces) (sym (c.clear.ensures.writes.contents revealed c.args.source (λ (no : c.args.source ≡ 0). omega (arith, no, copy_some c.args.source c.requires.source)))) good in
    let all = c.in_ok-fill_ledger.ensures.filled revealed pieces there is in
    while_opened file (whole_text pieces) (first.files file) first second third fourth c.clear.ensures.writes.time c.fill_ledger.ensures.writes.time c.open_gate_at.ensures.writes.time (c.clear.ensures.any_moment revealed) (c.in_ok-clear.ensures.cleared revealed) (c.in_ok-clear.ensures.durable revealed)
    c.fill_ledger.ensures.writes.crash (text_open pieces good.valid good.some) all.1 (c.in_ok-fill_ledger.ensures.durable c.if-not-branch.false revealed) c.open_gate_at.ensures.writes.crash

pub returns-clause-reads : goal.returns-clause-reads
returns-clause-reads g c revealed pieces good is =
    let file : ℕ = 0 in
    let first = g.D.Disk.state c.args.disk.now in
    let second = g.D.Disk.state c.clear.new.disk in
    let third = g.D.Disk.state c.fill_ledger.new.disk in
    let fourth = g.D.Disk.state c.open_gate_at.new.disk in
    let there : IsGood pieces (second.files c.args.source) = subst (IsGood pieces) (sym (c.clear.ensures.writes.contents revealed c.args.source (λ (no : c.args.source ≡ 0). omega (arith, no, copy_some c.args.source c.requires.source)))) good in
    let all = c.in_ok-fill_ledger.ensures.filled revealed pieces there is in
    inr (torn_none_or_made (whole_text pieces) (third.files file) (fourth.files file) (text_open pieces good.valid good.some) all.1 (c.open_gate_at.ensures.writes.contents revealed).here)

pub returns-clause-made : goal.returns-clause-made
returns-clause-made g c = λ revealed pieces good is.
    let file : ℕ = 0 in
    let first = g.D.Disk.state c.args.disk.now in
    let second = g.D.Disk.state c.clear.new.disk in
    let third = g.D.Disk.state c.fill_ledger.new.disk in
    let fourth = g.D.Disk.state c.open_gate_at.new.disk in
    let there : IsGood pieces (second.files c.args.source) = subst (IsGood pieces) (sym (c.clear.ensures.writes.contents revealed c.args.source (λ (no : c.args.source ≡ 0). omega (arith, no, copy_some c.args.source c.requires.source)))) good in
    let all = c.in_ok-fill_ledger.ensures.filled revealed pieces there is in
    (refl, holds_made (whole_text pieces) (third.files file) (fourth.files file) (text_open pieces good.valid good.some) all.1 (c.in_ok-open_gate_at.ensures.opened revealed).here)
