use Rattle.std.proofs.Common.{Err, inl, inr, refl, subst, sym}
use Rattle.aea_view.specs.Marked.{is_marked}
use Rattle.aea_verify.specs.declared.verdict.VerifyFault.{VerifyFault}
use Rattle.aea_verify.specs.declared.verdict.VerifyFault.TheVariants.{DiskFault, NoMemory}
use Rattle.aea_verify.specs.Answers.{IsReadAs}
use Rattle.aea_verify.proofs.Verified.{are-inside, judged, verdict-here, answered-ok, answered-err, read-free, read-err, read-ok}
use Rattle.aea_verify.proofs.verifying.verify.Goals as goal

-- ---- the archive was not scanned

pub returns-in-Err-DiskFault-clause-exactly : goal.returns-in-Err-DiskFault-clause-exactly
returns-in-Err-DiskFault-clause-exactly g c revealed input left = answered-err c.args.ledger.now (g.D.Disk.state c.args.disk.now).files input DiskFault

pub returns-in-Err-DiskFault-clause-read : goal.returns-in-Err-DiskFault-clause-read
returns-in-Err-DiskFault-clause-read g c input left = read-free input DiskFault (inr (inl refl))

pub returns-in-Err-NoMemory-clause-exactly : goal.returns-in-Err-NoMemory-clause-exactly
returns-in-Err-NoMemory-clause-exactly g c revealed input left = answered-err c.args.ledger.now (g.D.Disk.state c.args.disk.now).files input NoMemory

pub returns-in-Err-NoMemory-clause-read : goal.returns-in-Err-NoMemory-clause-read
returns-in-Err-NoMemory-clause-read g c input left = read-free input NoMemory (inr (inr refl))

-- ---- there was no memory for the table

pub returns-in-Err-clause-exactly : goal.returns-in-Err-clause-exactly
returns-in-Err-clause-exactly g c revealed input left = answered-err c.args.ledger.now (g.D.Disk.state c.args.disk.now).files input NoMemory

pub returns-in-Err-clause-read : goal.returns-in-Err-clause-read
returns-in-Err-clause-read g c input left = read-free input NoMemory (inr (inr refl))

-- ---- the report was not read to its end

pub returns-clause-exactly : goal.returns-clause-exactly
returns-clause-exactly g c revealed input left = answered-err c.args.ledger.now (g.D.Disk.state c.args.disk.now).files input c.verify_fault.result

pub returns-clause-read : goal.returns-clause-read
returns-clause-read g c input left =
    subst (λ (fault : VerifyFault). IsReadAs input (Err fault)) (sym c.verify_fault.ensures)
    (read-err c.reports_are_not_bad.ensures c.reports_are_bad_at_one_line.ensures input c.in-Err-judge_report.fault (c.in-Err-judge_report.ensures.says input left))

-- ---- a verdict

pub returns-in-Ok-judge_report-clause-answers : goal.returns-in-Ok-judge_report-clause-answers
returns-in-Ok-judge_report-clause-answers g c revealed input left =
    let v = c.args.ledger.now in
    judged v (g.D.Disk.state c.args.disk.now).files (is_marked c.in-Ok.marks) input c.in-Ok-judge_report.verdict
    (are-inside v c.lattice-lattice.result c.lattice-lattice.ensures.value c.lattice-lattice.ensures.of_shape)
    (c.in-Ok.ensures.survivors revealed)
    (verdict-here v c.in-Ok.marks.lattice c.seal.result (is_marked c.in-Ok.marks) input c.in-Ok-judge_report.verdict c.in-Ok.ensures.lattice c.seal.ensures (c.in-Ok-judge_report.ensures.says input left))

pub returns-in-Ok-judge_report-clause-exactly : goal.returns-in-Ok-judge_report-clause-exactly
returns-in-Ok-judge_report-clause-exactly g c revealed input left =
    answered-ok c.reports_have_one_reading.ensures c.accepted_are_fitting.ensures c.lost_are_open.ensures
    c.args.ledger.now (g.D.Disk.state c.args.disk.now).files input c.in-Ok-judge_report.verdict (returns-in-Ok-judge_report-clause-answers g c revealed input left)

pub returns-in-Ok-judge_report-clause-read : goal.returns-in-Ok-judge_report-clause-read
returns-in-Ok-judge_report-clause-read g c input left =
    let has = c.in-Ok-judge_report.ensures.says input left in
    read-ok c.reports_are_not_bad.ensures c.reports_are_bad_at_one_line.ensures input c.in-Ok-judge_report.verdict has.head has.lines has.report
