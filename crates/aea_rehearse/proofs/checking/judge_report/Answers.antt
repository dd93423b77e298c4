use Rattle.std.proofs.Common.{Some, Err, refl, sym, ◌∙◌, ap, subst}
use Rattle.std.specs.Prelude.{IsOk}
use Rattle.aea_rehearse.proofs.Homes.{willing_ready, willing_roomy}
use Rattle.aea_rehearse.proofs.Tests.{not_bad, not_long, fits_as}
use Rattle.aea_rehearse.proofs.checking.judge_report.Goals as goal

pub unreachable-requires : goal.unreachable-requires
unreachable-requires g c =
    not_bad c.verify.result c.in-Err-BadLine.field-0-0 ((c.verify.ensures.read c.args.report.now (ap Some c.new-source.ensures)).report c.requires.report.0 c.requires.report.1 c.requires.report.2)
    (c.in-Err-BadLine.is ∙ ap Err c.in-Err-BadLine.field-0-is)

pub unreachable-requires-in-Err-LineTooLong : goal.unreachable-requires-in-Err-LineTooLong
unreachable-requires-in-Err-LineTooLong g c =
    not_long c.verify.result c.in-Err-LineTooLong.field-0-0 ((c.verify.ensures.read c.args.report.now (ap Some c.new-source.ensures)).report c.requires.report.0 c.requires.report.1 c.requires.report.2)
    (c.in-Err-LineTooLong.is ∙ ap Err c.in-Err-LineTooLong.field-0-is)

pub unreachable-requires-in-Err-DiskFault : goal.unreachable-requires-in-Err-DiskFault
unreachable-requires-in-Err-DiskFault g c =
    let old = g.D.Disk.state c.args.disk.now in
    (c.verify.ensures.reads.sure c.requires.reveals (willing_ready old (g.met.D.Disk.free_taken c.args.disk.now) c.requires.willing) (willing_roomy old c.requires.willing)).0
    (c.in-Err-DiskFault.is ∙ ap Err c.in-Err-DiskFault.field-0-is)

pub returns-in-Ok-clause-accepted : goal.returns-in-Ok-clause-accepted
returns-in-Ok-clause-accepted g c intact h lines reveals report =
    fits_as c.verify.result c.in-Ok.verdict _ c.in-Ok.is
    ((c.verify.ensures.exactly c.requires.reveals c.args.report.now (ap Some c.new-source.ensures)).fits intact h lines reveals report (subst IsOk (sym c.in-Ok.is) refl))
