use Rattle.std.proofs.Common.{◌≡◌, Err, sym, ◌∙◌, ap, subst}
use Rattle.aea_gauss.specs.declared.fates.Fate.{Fate}
use Rattle.aea_restore.specs.declared.fault.RestoreFault.TheVariants as restore
use Rattle.aea_degraded.specs.Summed.{IsSummed, IsPayloadClash}
use Rattle.aea_degraded.proofs.Summing.{summed_at, clash_at, clash_other}
use Rattle.aea_degraded.proofs.Faulting.{clash_of}
use Rattle.aea_degraded.proofs.computing.payload.Goals as goal

pub returns-in-Ok-clause-sum : goal.returns-in-Ok-clause-sum
returns-in-Ok-clause-sum g c revealed sound =
    let v = c.args.ledger.now in
    let files = (g.D.Disk.state c.args.disk.now).files in
    summed_at g.D.Disk.reveals v files c.args.fate.now c.sum_payload.new.sum revealed c.requires.fate sound
    (subst (λ (f : Fate). IsSummed g.D.Disk.reveals v files f c.sum_payload.new.sum) (sym c.in-Sum.is) c.in-Ok.ensures.judged)

pub returns-in-Err-clause-clash : goal.returns-in-Err-clause-clash
returns-in-Err-clause-clash g c d revealed computed is =
    let v = c.args.ledger.now in
    let files = (g.D.Disk.state c.args.disk.now).files in
    let fault : c.in-Err.fault ≡ restore.Clash d revealed computed = clash_of c.in-Err.fault d revealed computed (sym c.from.ensures ∙ (cc)) in
    clash_other g.D.Disk.reveals v files c.args.fate.now d revealed computed
    (subst (λ (f : Fate). IsPayloadClash g.D.Disk.reveals v files f d revealed computed) (sym c.in-Sum.is) (c.sum_payload.ensures.found d revealed computed (c.in-Err.is ∙ ap Err fault)))

pub returns-in-Err-clause-computed : goal.returns-in-Err-clause-computed
returns-in-Err-clause-computed g c d revealed computed is reveals sound =
    let v = c.args.ledger.now in
    let files = (g.D.Disk.state c.args.disk.now).files in
    let fault : c.in-Err.fault ≡ restore.Clash d revealed computed = clash_of c.in-Err.fault d revealed computed (sym c.from.ensures ∙ (cc)) in
    clash_at g.D.Disk.reveals v files c.args.fate.now d revealed computed reveals c.requires.fate sound
    (subst (λ (f : Fate). IsPayloadClash g.D.Disk.reveals v files f d revealed computed) (sym c.in-Sum.is) (c.sum_payload.ensures.found d revealed computed (c.in-Err.is ∙ ap Err fault)))
