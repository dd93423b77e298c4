use Rattle.std.proofs.Common.{◌≡◌, ◌≤◌, Err, Ok, Some, List, ℕ, length, inl, inr, refl, sym, ◌∙◌, ap, subst}
use Rattle.std.proofs.lemmas.Bool.{false≢true}
use Rattle.aea_io.proofs.Printing.{prints_failed, prints_as}
use Rattle.aea_lattice.specs.Blocks.{HasBlock}
use Rattle.aea_disk.specs.State.{IsReady}
use Rattle.aea_archive.specs.Cells.{IsNoSite, FitsRows}
use Rattle.aea_archive.proofs.Cells.{file_kept}
use Rattle.aea_plan.specs.Plans.{head_by}
use Rattle.aea_plan.specs.Verdicts.{lines_by}
use Rattle.aea_restore.specs.Repairs.{IsLeft}
use Rattle.aea_repair.specs.declared.fault.RepairFault.TheVariants.{DiskFault}
use Rattle.aea_repair.proofs.Survivors.{AreInside, block_in_archive}
use Rattle.aea_archive.proofs.Writes.{cells_as}
use Rattle.aea_repair.proofs.Ends.{not_written, repairs_ok, repairs_unprinted, repairs_err, err_as, only_memory}
use Rattle.aea_repair.proofs.Reporting.{report_fits, same_bytes}
use Rattle.aea_repair.proofs.repairing.repair.Goals as goal

-- ---- the archive was not restored

pub returns-in-Err-clause-repairs : goal.returns-in-Err-clause-repairs
returns-in-Err-clause-repairs g c revealed known reveal =
    repairs_err g.D.Disk.reveals c.args.ledger.now known (g.D.Disk.state c.args.disk.now) (g.D.Disk.state c.restore_archive.new.disk) c.in-Err.fault (c.in-Err.ensures.repairs revealed known reveal)

pub returns-in-Err-clause-durable : goal.returns-in-Err-clause-durable
returns-in-Err-clause-durable g c written = absurd (not_written c.in-Err.fault c.in-Err.ensures.faults written)

pub returns-in-Err-clause-ledger : goal.returns-in-Err-clause-ledger
returns-in-Err-clause-ledger g c fixed =
    let v = c.args.ledger.now in
    file_kept g.D.Disk.reveals (IsReady (g.D.Disk.state c.args.disk.now)) (FitsRows v.shape v.lattice.n (g.D.Disk.state c.args.disk.now)) _ v.shape v.lattice.n (IsLeft (HasBlock v.lattice)) (IsNoSite v.shape) (g.D.Disk.state c.args.disk.now) (g.D.Disk.state c.restore_archive.new.disk) 0 (inl refl) c.restore_archive.ensures.writes fixed

pub returns-in-Err-clause-reports : goal.returns-in-Err-clause-reports
returns-in-Err-clause-reports g c written = absurd (not_written c.in-Err.fault c.in-Err.ensures.faults written)

pub returns-in-Err-clause-clash : goal.returns-in-Err-clause-clash
returns-in-Err-clause-clash g c b t k e = c.restore_archive.ensures.clash b t k (c.in-Err.is ∙ ap Err (let h = e in cc))

pub returns-in-Err-clause-no_clash : goal.returns-in-Err-clause-no_clash
returns-in-Err-clause-no_clash g c revealed records datas has are own b t k e =
    c.restore_archive.ensures.no_clash revealed records datas has are own b t k (c.in-Err.is ∙ ap Err (let h = e in cc))

pub returns-in-Err-clause-complete : goal.returns-in-Err-clause-complete
returns-in-Err-clause-complete g c revealed records datas has are own disk output =
    inr (ap Err (only_memory c.in-Err.fault c.in-Err.ensures.faults
    (λ e. disk (c.restore_archive.ensures.writes.cause (c.in-Err.is ∙ ap Err e)))
    (λ b t k e. c.restore_archive.ensures.no_clash revealed records datas has are own b t k (c.in-Err.is ∙ ap Err e))))

pub returns-in-Err-clause-memory : goal.returns-in-Err-clause-memory
returns-in-Err-clause-memory g c e = c.restore_archive.ensures.memory (c.in-Err.is ∙ ap Err (let h = e in cc))

pub returns-in-Err-clause-writes : goal.returns-in-Err-clause-writes
returns-in-Err-clause-writes g c =
    cells_as g.D.Disk.reveals (c.restore_archive.result ≡ Err DiskFault) _ c.args.ledger.now.shape c.args.ledger.now.lattice.n (IsLeft (HasBlock c.args.ledger.now.lattice)) (g.D.Disk.state c.args.disk.now) (g.D.Disk.state c.restore_archive.new.disk)
    (λ e. c.in-Err.is ∙ ap Err (let h = e in cc)) (λ e. err_as (sym c.in-Err.is ∙ e)) c.restore_archive.ensures.writes

pub returns-in-Err-clause-out_cause : goal.returns-in-Err-clause-out_cause
returns-in-Err-clause-out_cause g c e = absurd (c.in-Err.ensures.faults (let h = e in cc))

pub returns-in-Err-clause-out_still : goal.returns-in-Err-clause-out_still
returns-in-Err-clause-out_still g c fine = refl

pub returns-in-Err-clause-in_room : goal.returns-in-Err-clause-in_room
returns-in-Err-clause-in_room g c revealed room known h lines is reveal printed enough = (λ e. c.in-Err.ensures.faults (let same = e in cc), refl)

-- ---- the report was printed

pub returns-in-Ok-print_plan-clause-repairs : goal.returns-in-Ok-print_plan-clause-repairs
returns-in-Ok-print_plan-clause-repairs g c revealed known reveal =
    repairs_ok g.D.Disk.reveals c.args.ledger.now known (g.D.Disk.state c.args.disk.now) (g.D.Disk.state c.restore_archive.new.disk) c.in-Ok.done _ (c.in-Ok.ensures.repairs revealed known reveal)

pub returns-in-Ok-print_plan-clause-durable : goal.returns-in-Ok-print_plan-clause-durable
returns-in-Ok-print_plan-clause-durable g c written = c.in-Ok.ensures.durable

pub returns-in-Ok-print_plan-clause-ledger : goal.returns-in-Ok-print_plan-clause-ledger
returns-in-Ok-print_plan-clause-ledger g c fixed =
    let v = c.args.ledger.now in
    file_kept g.D.Disk.reveals (IsReady (g.D.Disk.state c.args.disk.now)) (FitsRows v.shape v.lattice.n (g.D.Disk.state c.args.disk.now)) _ v.shape v.lattice.n (IsLeft (HasBlock v.lattice)) (IsNoSite v.shape) (g.D.Disk.state c.args.disk.now) (g.D.Disk.state c.restore_archive.new.disk) 0 (inl refl) c.restore_archive.ensures.writes fixed

pub returns-in-Ok-print_plan-clause-reports : goal.returns-in-Ok-print_plan-clause-reports
returns-in-Ok-print_plan-clause-reports g c written =
    let v = c.args.ledger.now in
    let old = g.D.Disk.state c.args.disk.now in
    let new = g.D.Disk.state c.restore_archive.new.disk in
    let plan = c.in-Ok.done.plan in
    let report = c.in-Ok.ensures.report in
    let inside : AreInside v = λ b has. block_in_archive v c.lattice-lattice.result b c.lattice-lattice.ensures.value c.lattice-lattice.ensures.of_shape has in
    record {
      head = head_by (Some v.seal) plan;
      lines = lines_by plan.verdicts;
      report = report;
      prints = prints_as _ c.in-Ok-print_plan.ensures.prints;
      numbers = record { peeled = c.outcome_of-outcome.ensures.peeled; solved = c.outcome_of-outcome.ensures.solved; lost = c.outcome_of-outcome.ensures.lost };
      fits = λ revealed. report_fits c.printed_reports_fit.ensures g.D.Disk.reveals v old new (Ok c.in-Ok.done) (head_by (Some v.seal) plan) (lines_by plan.verdicts) inside report (c.in-Ok.ensures.repairs revealed report.known (report.survivors revealed)) (inl refl);
    }

pub returns-in-Ok-print_plan-clause-writes : goal.returns-in-Ok-print_plan-clause-writes
returns-in-Ok-print_plan-clause-writes g c =
    cells_as g.D.Disk.reveals (c.restore_archive.result ≡ Err DiskFault) _ c.args.ledger.now.shape c.args.ledger.now.lattice.n (IsLeft (HasBlock c.args.ledger.now.lattice)) (g.D.Disk.state c.args.disk.now) (g.D.Disk.state c.restore_archive.new.disk)
    (λ e. absurd (let h = e in cc)) (λ e. absurd (let h = sym c.in-Ok.is ∙ e in cc)) c.restore_archive.ensures.writes

pub returns-in-Ok-print_plan-clause-out_kept : goal.returns-in-Ok-print_plan-clause-out_kept
returns-in-Ok-print_plan-clause-out_kept g c = c.in-Ok-print_plan.ensures.prints.cause.kept

pub returns-in-Ok-print_plan-clause-out_still : goal.returns-in-Ok-print_plan-clause-out_still
returns-in-Ok-print_plan-clause-out_still g c fine = c.in-Ok-print_plan.ensures.prints.cause.still

pub returns-in-Ok-print_plan-clause-in_room : goal.returns-in-Ok-print_plan-clause-in_room
returns-in-Ok-print_plan-clause-in_room g c revealed room known h lines is reveal printed enough =
    let v = c.args.ledger.now in
    let plan = c.in-Ok.done.plan in
    let same = same_bytes c.printed_are_one.ensures g.D.Disk.reveals v (g.D.Disk.state c.args.disk.now).files known h (head_by (Some v.seal) plan) lines (lines_by plan.verdicts) revealed c.in-Ok.ensures.report reveal printed in
    (λ e. let differs = e in cc, c.in-Ok-print_plan.ensures.prints.steady room is (subst (λ (bytes : List ℕ). length bytes ≤ room) (sym same) enough))

-- ---- the output failed

pub returns-clause-repairs : goal.returns-clause-repairs
returns-clause-repairs g c revealed known reveal =
    repairs_unprinted g.D.Disk.reveals c.args.ledger.now known (g.D.Disk.state c.args.disk.now) (g.D.Disk.state c.restore_archive.new.disk) c.in-Ok.done (c.in-Ok.ensures.repairs revealed known reveal)

pub returns-clause-durable : goal.returns-clause-durable
returns-clause-durable g c written = c.in-Ok.ensures.durable

pub returns-clause-ledger : goal.returns-clause-ledger
returns-clause-ledger g c fixed =
    let v = c.args.ledger.now in
    file_kept g.D.Disk.reveals (IsReady (g.D.Disk.state c.args.disk.now)) (FitsRows v.shape v.lattice.n (g.D.Disk.state c.args.disk.now)) _ v.shape v.lattice.n (IsLeft (HasBlock v.lattice)) (IsNoSite v.shape) (g.D.Disk.state c.args.disk.now) (g.D.Disk.state c.restore_archive.new.disk) 0 (inl refl) c.restore_archive.ensures.writes fixed

pub returns-clause-reports : goal.returns-clause-reports
returns-clause-reports g c written =
    let v = c.args.ledger.now in
    let old = g.D.Disk.state c.args.disk.now in
    let new = g.D.Disk.state c.restore_archive.new.disk in
    let plan = c.in-Ok.done.plan in
    let report = c.in-Ok.ensures.report in
    let inside : AreInside v = λ b has. block_in_archive v c.lattice-lattice.result b c.lattice-lattice.ensures.value c.lattice-lattice.ensures.of_shape has in
    record {
      head = head_by (Some v.seal) plan;
      lines = lines_by plan.verdicts;
      report = report;
      prints = prints_failed {T = Unit {0}} refl c.in-Err-print_plan.ensures.prints;
      numbers = tt;
      fits = λ revealed. report_fits c.printed_reports_fit.ensures g.D.Disk.reveals v old new (Ok c.in-Ok.done) (head_by (Some v.seal) plan) (lines_by plan.verdicts) inside report (c.in-Ok.ensures.repairs revealed report.known (report.survivors revealed)) (inl refl);
    }

pub returns-clause-complete : goal.returns-clause-complete
returns-clause-complete g c revealed records datas has are own disk output = absurd (output c.in-Err-print_plan.ensures.prints.cause.rose)

pub returns-clause-writes : goal.returns-clause-writes
returns-clause-writes g c =
    cells_as g.D.Disk.reveals (c.restore_archive.result ≡ Err DiskFault) _ c.args.ledger.now.shape c.args.ledger.now.lattice.n (IsLeft (HasBlock c.args.ledger.now.lattice)) (g.D.Disk.state c.args.disk.now) (g.D.Disk.state c.restore_archive.new.disk)
    (λ e. absurd (let h = e in cc)) (λ e. absurd (let h = sym c.in-Ok.is ∙ e in cc)) c.restore_archive.ensures.writes

pub returns-clause-out_kept : goal.returns-clause-out_kept
returns-clause-out_kept g c = c.in-Err-print_plan.ensures.prints.cause.kept

pub returns-clause-out_cause : goal.returns-clause-out_cause
returns-clause-out_cause g c e = c.in-Err-print_plan.ensures.prints.cause.rose

pub returns-clause-out_still : goal.returns-clause-out_still
returns-clause-out_still g c fine = absurd (fine refl)

pub returns-clause-in_room : goal.returns-clause-in_room
returns-clause-in_room g c revealed room known h lines is reveal printed enough =
    let v = c.args.ledger.now in
    let plan = c.in-Ok.done.plan in
    let same = same_bytes c.printed_are_one.ensures g.D.Disk.reveals v (g.D.Disk.state c.args.disk.now).files known h (head_by (Some v.seal) plan) lines (lines_by plan.verdicts) revealed c.in-Ok.ensures.report reveal printed in
    absurd (false≢true (c.in-Err-print_plan.ensures.prints.fits room is (subst (λ (bytes : List ℕ). length bytes ≤ room) (sym same) enough)))
