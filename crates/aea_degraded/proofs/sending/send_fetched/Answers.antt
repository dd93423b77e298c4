use Rattle.std.proofs.Common.{◌≡◌, Err, [], sym, ◌∙◌, ap, subst}
use Rattle.std.specs.FinMap.{get}
use Rattle.aea_disk.proofs.Frames.{reads_as}
use Rattle.aea_archive.specs.Objects.{data_under}
use Rattle.aea_fetch.specs.Copies.{IsPayloadFault}
use Rattle.aea_fetch.proofs.Copies.{cut_as}
use Rattle.aea_degraded.specs.declared.fault.PayloadFault.{PayloadFault}
use Rattle.aea_degraded.specs.declared.fault.PayloadFault.TheVariants as payload
use Rattle.aea_degraded.specs.declared.fault.FetchFault.TheVariants.{WriteFault}
use Rattle.aea_degraded.specs.Fetched.{IsFetched}
use Rattle.aea_degraded.specs.Sent.{IsSendFault, IsPlanFault, fetch_fault}
use Rattle.aea_degraded.proofs.Printed.{clash_from, disk_from, no_output, send_fault}
use Rattle.aea_degraded.proofs.sending.send_fetched.Goals as goal

pub send_payloads-requires-clause-ready : goal.send_payloads-requires-clause-ready
send_payloads-requires-clause-ready g c k b below = (c.requires.planned k b below, c.requires.cell, c.requires.sum)

-- ---- a payload was not had

pub returns-in-Err-Payload-clause-cut : goal.returns-in-Err-Payload-clause-cut
returns-in-Err-Payload-clause-cut g c =
    let v = c.args.ledger.now in
    let has = IsFetched g.D.Disk.reveals v (g.D.Disk.state c.args.disk.now).files in
    cut_as has has (λ b p is. is) (data_under (get v.objects c.args.name.now)) c.args.most (g.O.Sink.state c.args.out.now) (g.O.Sink.state c.send_payloads.new.out) [] _ (c.from.result ≡ WriteFault)
    (λ e. absurd (no_output c.in-Err-Payload.fault (sym c.from.ensures ∙ e))) c.in-Err-Payload.ensures.cut

pub returns-in-Err-Payload-clause-faults : goal.returns-in-Err-Payload-clause-faults
returns-in-Err-Payload-clause-faults g c = subst IsSendFault (sym c.from.ensures) (send_fault c.in-Err-Payload.fault)

pub returns-in-Err-Payload-clause-clash : goal.returns-in-Err-Payload-clause-clash
returns-in-Err-Payload-clause-clash g c d revealed computed is =
    let fault : c.in-Err-Payload.fault ≡ payload.Clash d revealed computed = clash_from c.in-Err-Payload.fault d revealed computed (sym c.from.ensures ∙ (let h = is in cc)) in
    let said = c.send_payloads.ensures.why c.in-Err-Payload.fault (c.in-Err-Payload.is ∙ ap Err c.in-Err-Payload.field-0-is) in
    subst (IsPlanFault g.D.Disk.reveals c.args.ledger.now) fault said.2

pub returns-in-Err-Payload-clause-reads : goal.returns-in-Err-Payload-clause-reads
returns-in-Err-Payload-clause-reads g c =
    let kind = λ (f : PayloadFault). f ≡ payload.DiskFault in
    let failed = c.in-Err-Payload.is ∙ ap Err c.in-Err-Payload.field-0-is in
    reads_as g.D.Disk.reveals (IsPayloadFault kind c.send_payloads.result) _ (g.D.Disk.state c.args.disk.now) (g.D.Disk.state c.send_payloads.new.disk)
    (λ is. subst (IsPayloadFault kind) (sym failed) (disk_from c.in-Err-Payload.fault (sym c.from.ensures ∙ (let h = is in cc))))
    (λ is. ap Err (c.from.ensures ∙ ap fetch_fault (subst (IsPayloadFault kind) failed is))) c.send_payloads.ensures.reads
