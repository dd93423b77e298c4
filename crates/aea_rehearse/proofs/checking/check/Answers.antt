use Rattle.aea_rehearse.proofs.Tests.{intact_test, test_reveals, never_rejected}
use Rattle.aea_rehearse.proofs.checking.check.Goals as goal

pub unreachable-requires : goal.unreachable-requires
unreachable-requires g c =
    let v = c.args.ledger.now in
    let files = (g.D.Disk.state c.args.disk.now).files in
    let test = intact_test v files in
    let reveals = test_reveals c.cells_have_lengths.ensures c.cells_have_parts.ensures v files in
    let f = c.requires.fits in
    never_rejected c.in_ok-verdict.verdict _ _ ((c.in_ok-verdict.ensures.accepted test f.head f.lines reveals f.report).1 (f.fits test reveals)) c.in-Rejected.is
