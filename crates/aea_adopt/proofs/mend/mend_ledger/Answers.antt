use Rattle.std.proofs.Common.{◌≡◌, ◌+◌, ℕ, List, [], ◌∷◌, refl, sym, ap, ◌∙◌, subst}
use Rattle.std.proofs.lemmas.Result.{on_ok_weaker}
use Rattle.aea_disk.specs.Files.{Files, ChangesFile, ChangesOnly, Holds, Torn}
use Rattle.aea_disk.proofs.Frames.{reads_faulted, writes_faulted, reads_synced, ok_fine}
use Rattle.aea_disk.proofs.Moments.{during_change, synced_fixed}
use Rattle.aea_copies.specs.Format.{text_of}
use Rattle.aea_copies.specs.Kept.{IsGood}
use Rattle.aea_copy_writer.specs.Anew.{IsOldNoneOrMade, whole_text}
use Rattle.aea_copy_writer.specs.Changes.{FitsChange}
use Rattle.aea_copy_writer.proofs.Stretches.{fits_roomy, fits_read}
use Rattle.aea_adopt.specs.Mending.{MayBeMended, IsGateAfter}
use Rattle.aea_adopt.specs.declared.mend.Gate.TheVariants.{Missing, Open, Closed}
use Rattle.aea_adopt.proofs.Mended.{mended_shut, mended_missing, may_none, not_missing, not_opened, may_missing, may_opened, closed_made}
use Rattle.aea_adopt.proofs.Quiet.{quiet, quiet_then, only_read, only_read_then, only_wider}
use Rattle.aea_adopt.proofs.mend.mend_ledger.Goals as goal

pub returns-in_err-gate_after-clause-any_moment : goal.returns-in_err-gate_after-clause-any_moment
returns-in_err-gate_after-clause-any_moment g c revealed pieces known =
    let first = g.D.Disk.state c.args.disk.now in
    let second = g.D.Disk.state c.gate_after.new.disk in
    quiet 0 (MayBeMended (text_of pieces) (first.files 0)) first second c.gate_after.ensures.reads.crash (c.requires.synced revealed) (may_none (text_of pieces) (first.files 0))

pub returns-in_err-gate_after-clause-reads : goal.returns-in_err-gate_after-clause-reads
returns-in_err-gate_after-clause-reads g c revealed pieces known =
    let first = g.D.Disk.state c.args.disk.now in
    let second = g.D.Disk.state c.gate_after.new.disk in
    subst (λ (d : Files). MayBeMended (text_of pieces) (first.files 0) (d 0)) (sym (c.gate_after.ensures.reads.contents revealed)) (may_none (text_of pieces) (first.files 0))

pub returns-in_err-gate_after-clause-writes : goal.returns-in_err-gate_after-clause-writes
returns-in_err-gate_after-clause-writes g c =
    let first = g.D.Disk.state c.args.disk.now in
    let second = g.D.Disk.state c.gate_after.new.disk in
    only_read g.D.Disk.reveals _ (FitsChange first 0 (c.args.kept.now.standing.text + 1)) (ChangesOnly 0) first second (g.met.D.Disk.free_taken c.args.disk.now) (λ d f other. refl) (fits_roomy first 0 (c.args.kept.now.standing.text + 1))
    (reads_faulted g.D.Disk.reveals _ _ first second c.in_err-gate_after.ensures.reads refl (cc))

pub make_ledger-requires-clause-fixed : goal.make_ledger-requires-clause-fixed
make_ledger-requires-clause-fixed g c = λ revealed.
    let first = g.D.Disk.state c.args.disk.now in
    let second = g.D.Disk.state c.gate_after.new.disk in
    synced_fixed second 0 (reads_synced g.D.Disk.reveals _ first second revealed c.gate_after.ensures.reads (c.requires.synced revealed))

pub returns-in_err-_made-in-Missing-clause-any_moment : goal.returns-in_err-_made-in-Missing-clause-any_moment
returns-in_err-_made-in-Missing-clause-any_moment g c revealed pieces known =
    let first = g.D.Disk.state c.args.disk.now in
    let second = g.D.Disk.state c.gate_after.new.disk in
    let third = g.D.Disk.state c.make_ledger.new.disk in
    let is : IsGateAfter (text_of pieces) (first.files 0) Missing = (rw c.in-Missing.is at c.in_ok-gate_after.ensures.gate) revealed pieces known in
    let same : second.files ≡ first.files = c.gate_after.ensures.reads.contents revealed in
    let good : IsGood pieces (second.files c.args.kept.now.source) = subst (λ (d : Files). IsGood pieces (d c.args.kept.now.source)) (sym same) known.good in
    quiet_then 0 (MayBeMended (text_of pieces) (first.files 0)) first second third c.gate_after.ensures.reads.time c.make_ledger.ensures.writes.time c.gate_after.ensures.reads.crash (c.requires.synced revealed) (may_none (text_of pieces) (first.files 0))
    (λ t d from to here. may_missing (text_of pieces) (first.files 0) (d 0) is
    (subst (λ (e : Files). IsOldNoneOrMade (whole_text pieces) (e 0) (d 0)) same (c.make_ledger.ensures.any_moment revealed pieces good known.text t d from to here)))

pub returns-in_err-_made-in-Missing-clause-reads : goal.returns-in_err-_made-in-Missing-clause-reads
returns-in_err-_made-in-Missing-clause-reads g c revealed pieces known =
    let first = g.D.Disk.state c.args.disk.now in
    let second = g.D.Disk.state c.gate_after.new.disk in
    let third = g.D.Disk.state c.make_ledger.new.disk in
    let is : IsGateAfter (text_of pieces) (first.files 0) Missing = (rw c.in-Missing.is at c.in_ok-gate_after.ensures.gate) revealed pieces known in
    let same : second.files ≡ first.files = c.gate_after.ensures.reads.contents revealed in
    let good : IsGood pieces (second.files c.args.kept.now.source) = subst (λ (d : Files). IsGood pieces (d c.args.kept.now.source)) (sym same) known.good in
    may_missing (text_of pieces) (first.files 0) (third.files 0) is
    (subst (λ (e : Files). IsOldNoneOrMade (whole_text pieces) (e 0) (third.files 0)) same (c.make_ledger.ensures.reads revealed pieces good known.text))

pub returns-in_err-_made-in-Missing-clause-idle : goal.returns-in_err-_made-in-Missing-clause-idle
returns-in_err-_made-in-Missing-clause-idle g c revealed pieces known same =
    let first = g.D.Disk.state c.args.disk.now in
    let second = g.D.Disk.state c.gate_after.new.disk in
    let is : IsGateAfter (text_of pieces) (first.files 0) Missing = (rw c.in-Missing.is at c.in_ok-gate_after.ensures.gate) revealed pieces known in
    absurd (not_missing (text_of pieces) (first.files 0) is same)

pub returns-in_err-_made-in-Missing-clause-writes : goal.returns-in_err-_made-in-Missing-clause-writes
returns-in_err-_made-in-Missing-clause-writes g c =
    let reveals = g.D.Disk.reveals in
    let first = g.D.Disk.state c.args.disk.now in
    let second = g.D.Disk.state c.gate_after.new.disk in
    let third = g.D.Disk.state c.make_ledger.new.disk in
    let end = c.args.kept.now.standing.text + 1 in
    only_read_then reveals _ _ (FitsChange first 0 end) (FitsChange second 0 end) (ChangesOnly 0) first second third (ok_fine (c.in_ok-gate_after.was)) (g.met.D.Disk.free_taken c.args.disk.now) (λ d f other. refl) (fits_roomy first 0 end)
    (λ revealed fit same passes. fits_read first second 0 end end refl same passes fit) c.gate_after.ensures.reads (writes_faulted reveals second.free (FitsChange second 0 (c.args.kept.now.standing.text + 1)) _ _ (ChangesOnly 0) second third c.in_err-_made-in-Missing.ensures.writes refl (cc))

pub returns-in_ok-_made-in-Missing-clause-any_moment : goal.returns-in_ok-_made-in-Missing-clause-any_moment
returns-in_ok-_made-in-Missing-clause-any_moment g c revealed pieces known =
    let first = g.D.Disk.state c.args.disk.now in
    let second = g.D.Disk.state c.gate_after.new.disk in
    let third = g.D.Disk.state c.make_ledger.new.disk in
    let is : IsGateAfter (text_of pieces) (first.files 0) Missing = (rw c.in-Missing.is at c.in_ok-gate_after.ensures.gate) revealed pieces known in
    let same : second.files ≡ first.files = c.gate_after.ensures.reads.contents revealed in
    let good : IsGood pieces (second.files c.args.kept.now.source) = subst (λ (d : Files). IsGood pieces (d c.args.kept.now.source)) (sym same) known.good in
    quiet_then 0 (MayBeMended (text_of pieces) (first.files 0)) first second third c.gate_after.ensures.reads.time c.make_ledger.ensures.writes.time c.gate_after.ensures.reads.crash (c.requires.synced revealed) (may_none (text_of pieces) (first.files 0))
    (λ t d from to here. may_missing (text_of pieces) (first.files 0) (d 0) is
    (subst (λ (e : Files). IsOldNoneOrMade (whole_text pieces) (e 0) (d 0)) same (c.make_ledger.ensures.any_moment revealed pieces good known.text t d from to here)))

pub returns-in_ok-_made-in-Missing-clause-reads : goal.returns-in_ok-_made-in-Missing-clause-reads
returns-in_ok-_made-in-Missing-clause-reads g c revealed pieces known =
    let first = g.D.Disk.state c.args.disk.now in
    let second = g.D.Disk.state c.gate_after.new.disk in
    let third = g.D.Disk.state c.make_ledger.new.disk in
    let is : IsGateAfter (text_of pieces) (first.files 0) Missing = (rw c.in-Missing.is at c.in_ok-gate_after.ensures.gate) revealed pieces known in
    let same : second.files ≡ first.files = c.gate_after.ensures.reads.contents revealed in
    let good : IsGood pieces (second.files c.args.kept.now.source) = subst (λ (d : Files). IsGood pieces (d c.args.kept.now.source)) (sym same) known.good in
    may_missing (text_of pieces) (first.files 0) (third.files 0) is
    (subst (λ (e : Files). IsOldNoneOrMade (whole_text pieces) (e 0) (third.files 0)) same (c.make_ledger.ensures.reads revealed pieces good known.text))

pub returns-in_ok-_made-in-Missing-clause-idle : goal.returns-in_ok-_made-in-Missing-clause-idle
returns-in_ok-_made-in-Missing-clause-idle g c revealed pieces known same =
    let first = g.D.Disk.state c.args.disk.now in
    let second = g.D.Disk.state c.gate_after.new.disk in
    let is : IsGateAfter (text_of pieces) (first.files 0) Missing = (rw c.in-Missing.is at c.in_ok-gate_after.ensures.gate) revealed pieces known in
    absurd (not_missing (text_of pieces) (first.files 0) is same)

pub returns-in_ok-_made-in-Missing-clause-writes : goal.returns-in_ok-_made-in-Missing-clause-writes
returns-in_ok-_made-in-Missing-clause-writes g c =
    let reveals = g.D.Disk.reveals in
    let first = g.D.Disk.state c.args.disk.now in
    let second = g.D.Disk.state c.gate_after.new.disk in
    let third = g.D.Disk.state c.make_ledger.new.disk in
    let end = c.args.kept.now.standing.text + 1 in
    only_read_then reveals _ _ (FitsChange first 0 end) (FitsChange second 0 end) (ChangesOnly 0) first second third (ok_fine (c.in_ok-gate_after.was)) (g.met.D.Disk.free_taken c.args.disk.now) (λ d f other. refl) (fits_roomy first 0 end)
    (λ revealed fit same passes. fits_read first second 0 end end refl same passes fit) c.gate_after.ensures.reads c.in_ok-_made-in-Missing.ensures.writes

pub returns-in_ok-_made-in-Missing-clause-mended : goal.returns-in_ok-_made-in-Missing-clause-mended
returns-in_ok-_made-in-Missing-clause-mended g c = λ revealed pieces known.
    let first = g.D.Disk.state c.args.disk.now in
    let second = g.D.Disk.state c.gate_after.new.disk in
    let third = g.D.Disk.state c.make_ledger.new.disk in
    let is : IsGateAfter (text_of pieces) (first.files 0) Missing = (rw c.in-Missing.is at c.in_ok-gate_after.ensures.gate) revealed pieces known in
    let good : IsGood pieces (second.files c.args.kept.now.source) = subst (λ (d : Files). IsGood pieces (d c.args.kept.now.source)) (sym (c.gate_after.ensures.reads.contents revealed)) known.good in
    (c.in_ok-_made-in-Missing.ensures.made revealed pieces good known.text).1 ∙ sym (mended_missing (text_of pieces) (first.files 0) is)

pub returns-in_ok-_made-in-Missing-clause-durable : goal.returns-in_ok-_made-in-Missing-clause-durable
returns-in_ok-_made-in-Missing-clause-durable g c = λ revealed pieces known.
    let first = g.D.Disk.state c.args.disk.now in
    let second = g.D.Disk.state c.gate_after.new.disk in
    let good : IsGood pieces (second.files c.args.kept.now.source) = subst (λ (d : Files). IsGood pieces (d c.args.kept.now.source)) (sym (c.gate_after.ensures.reads.contents revealed)) known.good in
    c.in_ok-_made-in-Missing.ensures.durable (c.in_ok-_made-in-Missing.ensures.made revealed pieces good known.text).0 revealed

pub returns-in-Open-clause-any_moment : goal.returns-in-Open-clause-any_moment
returns-in-Open-clause-any_moment g c revealed pieces known =
    let first = g.D.Disk.state c.args.disk.now in
    let second = g.D.Disk.state c.gate_after.new.disk in
    let third = g.D.Disk.state c.close_gate.new.disk in
    let is : IsGateAfter (text_of pieces) (first.files 0) Open = (rw c.in-Open.is at c.in_ok-gate_after.ensures.gate) revealed pieces known in
    let same : second.files 0 ≡ first.files 0 = ap (λ (d : Files). d 0) (c.gate_after.ensures.reads.contents revealed) in
    quiet_then 0 (MayBeMended (text_of pieces) (first.files 0)) first second third c.gate_after.ensures.reads.time c.close_gate.ensures.writes.time c.gate_after.ensures.reads.crash (c.requires.synced revealed) (may_none (text_of pieces) (first.files 0))
    (during_change 0 (Torn c.args.kept.now.standing.text 1) second third (MayBeMended (text_of pieces) (first.files 0)) c.close_gate.ensures.writes.crash (synced_fixed second 0 (reads_synced g.D.Disk.reveals _ first second revealed c.gate_after.ensures.reads (c.requires.synced revealed)))
    (λ xs torn. may_opened (text_of pieces) (first.files 0) xs is (subst (λ (n : ℕ). Torn n 1 (first.files 0) xs) known.text (subst (λ (l : List ℕ). Torn c.args.kept.now.standing.text 1 l xs) same torn))))

pub returns-in-Open-clause-reads : goal.returns-in-Open-clause-reads
returns-in-Open-clause-reads g c revealed pieces known =
    let first = g.D.Disk.state c.args.disk.now in
    let second = g.D.Disk.state c.gate_after.new.disk in
    let third = g.D.Disk.state c.close_gate.new.disk in
    let is : IsGateAfter (text_of pieces) (first.files 0) Open = (rw c.in-Open.is at c.in_ok-gate_after.ensures.gate) revealed pieces known in
    let same : second.files 0 ≡ first.files 0 = ap (λ (d : Files). d 0) (c.gate_after.ensures.reads.contents revealed) in
    let xs = third.files 0 in
    let torn = (c.close_gate.ensures.writes.contents revealed).here in
    may_opened (text_of pieces) (first.files 0) xs is (subst (λ (n : ℕ). Torn n 1 (first.files 0) xs) known.text (subst (λ (l : List ℕ). Torn c.args.kept.now.standing.text 1 l xs) same torn))

pub returns-in-Open-clause-idle : goal.returns-in-Open-clause-idle
returns-in-Open-clause-idle g c revealed pieces known same =
    let first = g.D.Disk.state c.args.disk.now in
    let second = g.D.Disk.state c.gate_after.new.disk in
    let is : IsGateAfter (text_of pieces) (first.files 0) Open = (rw c.in-Open.is at c.in_ok-gate_after.ensures.gate) revealed pieces known in
    absurd (not_opened (text_of pieces) (first.files 0) is same)

pub returns-in-Open-clause-mended : goal.returns-in-Open-clause-mended
returns-in-Open-clause-mended g c =
    let first = g.D.Disk.state c.args.disk.now in
    let second = g.D.Disk.state c.gate_after.new.disk in
    let third = g.D.Disk.state c.close_gate.new.disk in
    on_ok_weaker c.close_gate.result
    (λ closed revealed pieces known.
    let is : IsGateAfter (text_of pieces) (first.files 0) Open = (rw c.in-Open.is at c.in_ok-gate_after.ensures.gate) revealed pieces known in
    let same : second.files 0 ≡ first.files 0 = ap (λ (d : Files). d 0) (c.gate_after.ensures.reads.contents revealed) in
    closed_made (text_of pieces) (first.files 0) (third.files 0) is (subst (λ (n : ℕ). Holds n (0 ∷ []) (first.files 0) (third.files 0)) known.text (subst (λ (l : List ℕ). Holds c.args.kept.now.standing.text (0 ∷ []) l (third.files 0)) same (closed revealed).here)))
    c.close_gate.ensures.closed

pub returns-in-Open-clause-durable : goal.returns-in-Open-clause-durable
returns-in-Open-clause-durable g c =
    on_ok_weaker c.close_gate.result (λ durable revealed pieces known. durable revealed) c.close_gate.ensures.durable

pub returns-in-Open-clause-writes : goal.returns-in-Open-clause-writes
returns-in-Open-clause-writes g c =
    let reveals = g.D.Disk.reveals in
    let first = g.D.Disk.state c.args.disk.now in
    let second = g.D.Disk.state c.gate_after.new.disk in
    let third = g.D.Disk.state c.close_gate.new.disk in
    let end = c.args.kept.now.standing.text + 1 in
    only_read_then reveals _ _ (FitsChange first 0 end) (FitsChange second 0 end) (ChangesOnly 0) first second third (ok_fine (c.in_ok-gate_after.was)) (g.met.D.Disk.free_taken c.args.disk.now) (λ d f other. refl) (fits_roomy first 0 end)
    (λ revealed fit same passes. fits_read first second 0 end end refl same passes fit) c.gate_after.ensures.reads
    (only_wider reveals _ (FitsChange second 0 end) (FitsChange second 0 end) (ChangesFile 0 (Torn c.args.kept.now.standing.text 1)) (ChangesOnly 0) second third (λ a b changes. changes.others) (λ revealed fit. fit) c.close_gate.ensures.writes)

pub returns-in-Closed-clause-any_moment : goal.returns-in-Closed-clause-any_moment
returns-in-Closed-clause-any_moment g c revealed pieces known =
    let first = g.D.Disk.state c.args.disk.now in
    let second = g.D.Disk.state c.gate_after.new.disk in
    quiet 0 (MayBeMended (text_of pieces) (first.files 0)) first second c.gate_after.ensures.reads.crash (c.requires.synced revealed) (may_none (text_of pieces) (first.files 0))

pub returns-in-Closed-clause-reads : goal.returns-in-Closed-clause-reads
returns-in-Closed-clause-reads g c revealed pieces known =
    let first = g.D.Disk.state c.args.disk.now in
    let second = g.D.Disk.state c.gate_after.new.disk in
    subst (λ (d : Files). MayBeMended (text_of pieces) (first.files 0) (d 0)) (sym (c.gate_after.ensures.reads.contents revealed)) (may_none (text_of pieces) (first.files 0))

pub returns-in-Closed-clause-mended : goal.returns-in-Closed-clause-mended
returns-in-Closed-clause-mended g c = λ revealed pieces known.
    let first = g.D.Disk.state c.args.disk.now in
    let second = g.D.Disk.state c.gate_after.new.disk in
    let is : IsGateAfter (text_of pieces) (first.files 0) Closed = (rw c.in-Closed.is at c.in_ok-gate_after.ensures.gate) revealed pieces known in
    let same : second.files 0 ≡ first.files 0 = ap (λ (d : Files). d 0) (c.gate_after.ensures.reads.contents revealed) in
    same ∙ sym (mended_shut (text_of pieces) (first.files 0) is)

pub returns-in-Closed-clause-durable : goal.returns-in-Closed-clause-durable
returns-in-Closed-clause-durable g c = λ revealed pieces known.
    let first = g.D.Disk.state c.args.disk.now in
    let second = g.D.Disk.state c.gate_after.new.disk in
    reads_synced g.D.Disk.reveals _ first second revealed c.gate_after.ensures.reads (c.requires.synced revealed)

pub returns-in-Closed-clause-writes : goal.returns-in-Closed-clause-writes
returns-in-Closed-clause-writes g c =
    let first = g.D.Disk.state c.args.disk.now in
    let second = g.D.Disk.state c.gate_after.new.disk in
    only_read g.D.Disk.reveals _ (FitsChange first 0 (c.args.kept.now.standing.text + 1)) (ChangesOnly 0) first second (g.met.D.Disk.free_taken c.args.disk.now) (λ d f other. refl) (fits_roomy first 0 (c.args.kept.now.standing.text + 1)) c.in_ok-gate_after.ensures.reads
