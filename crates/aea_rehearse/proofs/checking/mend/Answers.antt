use Rattle.std.proofs.Common.{inl, inr, Err, refl, ◌∙◌, ap, subst}
use Rattle.aea_lattice.specs.Data.{IsBytes}
use Rattle.aea_rehearse.proofs.Mending.{mended, report_fits_room}
use Rattle.aea_rehearse.proofs.checking.mend.Goals as goal

pub unreachable-requires : goal.unreachable-requires
unreachable-requires g c =
    let r = c.requires.ready in
    c.repair.ensures.no_clash c.requires.reveals r.records r.datas r.has r.recorded r.honest c.in-Err-Clash.field-0-0 c.in-Err-Clash.field-0-1 c.in-Err-Clash.field-0-2 (c.in-Err-Clash.is ∙ ap Err c.in-Err-Clash.field-0-is)

pub unreachable-requires-in-Err-WriteFault : goal.unreachable-requires-in-Err-WriteFault
unreachable-requires-in-Err-WriteFault g c =
    let v = c.args.ledger.now in
    let ready = c.requires.ready in
    let revealed = c.requires.reveals in
    let seal : IsBytes 32 v.seal = subst (IsBytes 32) c.seal-seal.ensures c.is_seal.ensures in
    let is = c.in-Err-WriteFault.is ∙ ap Err c.in-Err-WriteFault.field-0-is in
    let r = c.repair.ensures.reports (inr is) in
    let room = report_fits_room c.printed_are_reports.ensures g.D.Disk.reveals v (g.D.Disk.state c.args.disk.now) (g.D.Disk.state c.repair.new.disk) c.args.report.now c.repair.new.out c.repair.result revealed seal c.requires.empty ready r in
    (c.repair.ensures.in_room revealed _ ready.known r.head r.lines refl ready.survivors (r.report.each revealed ready.known ready.survivors) room).0 is

pub returns-in-Ok-clause-mended : goal.returns-in-Ok-clause-mended
returns-in-Ok-clause-mended g c =
    let v = c.args.ledger.now in
    let seal : IsBytes 32 v.seal = subst (IsBytes 32) c.seal-seal.ensures c.is_seal.ensures in
    mended c.printed_are_reports.ensures g.D.Disk.reveals v (g.D.Disk.state c.args.disk.now) (g.D.Disk.state c.repair.new.disk) c.args.report.now.room c.args.report.now c.repair.new.out c.in-Ok.outcome
    c.requires.reveals seal c.requires.empty c.requires.ready
    (λ known reveal. c.in-Ok.ensures.repairs c.requires.reveals known reveal) (c.in-Ok.ensures.reports (inl refl))
