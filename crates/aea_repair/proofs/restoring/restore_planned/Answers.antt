use Rattle.std.proofs.Common.{◌≡◌, Err, refl, sym, ◌∙◌, ap, subst}
use Rattle.aea_lattice.specs.Blocks.{HasBlock}
use Rattle.aea_view.specs.Marked.{is_marked}
use Rattle.aea_restore.specs.declared.fault.RestoreFault.TheVariants as stage
use Rattle.aea_restore.specs.Given.{is_given, IsGiven}
use Rattle.aea_restore.specs.Laws.{IsRestorable}
use Rattle.aea_restore.specs.Repairs.{IsLeft}
use Rattle.aea_restore.proofs.Same.{leaves_same}
use Rattle.aea_repair.specs.declared.fault.RepairFault.{RepairFault}
use Rattle.aea_repair.specs.declared.fault.RepairFault.TheVariants.{Clash, DiskFault}
use Rattle.aea_repair.specs.Repairs.{fault_of, Repairs}
use Rattle.aea_repair.proofs.Survivors.{AreInside, block_of_shape, block_in_archive, tests_agree, marks_agree, clash_as}
use Rattle.aea_archive.proofs.Writes.{cells_less_as}
use Rattle.aea_repair.proofs.Ends.{left_as, was_clash, was_disk, is_of_stage, all_ready, repairs_failed, repairs_done}
use Rattle.aea_repair.proofs.restoring.restore_planned.Goals as goal

pub returns-in-Ok-clause-repairs : goal.returns-in-Ok-clause-repairs
returns-in-Ok-clause-repairs g c revealed marked known reveal =
    let v = c.args.ledger.now in
    let old = g.D.Disk.state c.args.disk.now in
    let new = g.D.Disk.state c.restore.new.disk in
    let steps = c.args.plan.now.steps in
    let fates = c.args.fates.now in
    let inside : AreInside v = λ b has. block_in_archive v c.lattice-lattice.result b c.lattice-lattice.ensures.value c.lattice-lattice.ensures.of_shape has in
    let mends = c.requires.mends known (marks_agree v old.files c.args.marks.now known c.requires.lattice inside marked reveal) in
    repairs_done {T = Unit {0}} g.D.Disk.reveals (c.restore.result ≡ Err stage.DiskFault) v known (is_given steps fates) (is_marked c.restore.new.marks) old new tt c.plain_damage_stays.ensures inside
    (λ b has. block_of_shape v c.lattice-lattice.result b c.lattice-lattice.ensures.value c.lattice-lattice.ensures.of_shape has)
    reveal mends (c.in-Ok.ensures.left revealed) (λ is. absurd (let h = sym c.in-Ok.is ∙ is in cc)) c.restore.ensures.writes
    (all_ready v known c.args.marks.now c.restore.new.marks (IsGiven steps fates) (tests_agree v old.files (is_marked c.args.marks.now) known inside marked reveal) mends c.in-Ok.ensures.marks)
    (c.restore.ensures.marked revealed marked)
    (c.restore.ensures.honest revealed marked)

pub returns-in-Ok-clause-writes : goal.returns-in-Ok-clause-writes
returns-in-Ok-clause-writes g c =
    let v = c.args.ledger.now in
    let given = IsGiven c.args.plan.now.steps c.args.fates.now in
    cells_less_as g.D.Disk.reveals (c.restore.result ≡ Err stage.DiskFault) _ v.shape v.lattice.n (IsLeft given) (IsLeft (HasBlock v.lattice)) (g.D.Disk.state c.args.disk.now) (g.D.Disk.state c.restore.new.disk)
    (λ a left one. left ((c.requires.mends (is_marked c.args.marks.now) (λ b has. refl) a).0 one).block)
    (λ e. absurd (let h = e in cc)) (λ e. absurd (let h = sym c.in-Ok.is ∙ e in cc)) c.restore.ensures.writes

pub returns-in-Err-clause-repairs : goal.returns-in-Err-clause-repairs
returns-in-Err-clause-repairs g c revealed marked known reveal =
    let v = c.args.ledger.now in
    let old = g.D.Disk.state c.args.disk.now in
    let new = g.D.Disk.state c.restore.new.disk in
    let given = IsGiven c.args.plan.now.steps c.args.fates.now in
    let fault = c.in-Err.fault in
    let inside : AreInside v = λ b has. block_in_archive v c.lattice-lattice.result b c.lattice-lattice.ensures.value c.lattice-lattice.ensures.of_shape has in
    let mends = c.requires.mends known (marks_agree v old.files c.args.marks.now known c.requires.lattice inside marked reveal) in
    let left = leaves_same given (IsRestorable v.lattice known) (λ b. (mends b).0) (λ b. (mends b).1) v old.files new.files (Err fault) (c.in-Err.ensures.left revealed) in
    subst (λ (f : RepairFault). Repairs {T = Unit {0}} g.D.Disk.reveals v known old new (Err f)) (sym c.repair_fault.ensures)
    (repairs_failed {T = Unit {0}} g.D.Disk.reveals v known old new (fault_of fault) (is_of_stage fault).1
    (left_as v (IsRestorable v.lattice known) old.files new.files fault left)
    (cells_less_as g.D.Disk.reveals (c.restore.result ≡ Err stage.DiskFault) (fault_of fault ≡ DiskFault) v.shape v.lattice.n (IsLeft given) (IsLeft (IsRestorable v.lattice known)) old new
    (λ a left one. left ((mends a).0 one)) (λ e. c.in-Err.is ∙ ap Err (was_disk fault e)) (λ e. let is_disk : c.in-Err.fault ≡ stage.DiskFault = (let h = sym c.in-Err.is ∙ e in cc) in ap fault_of is_disk) c.restore.ensures.writes)
    (λ b t k e.
    let one = c.restore.ensures.computed revealed marked b t k (c.in-Err.is ∙ ap Err (was_clash fault b t k e)) in
    ((mends b).0 one.0, clash_as v (is_marked c.args.marks.now) known old.files b t k (tests_agree v old.files (is_marked c.args.marks.now) known inside marked reveal) one.1)))

pub returns-in-Err-clause-clash : goal.returns-in-Err-clause-clash
returns-in-Err-clause-clash g c b t k e =
    let is : c.repair_fault.result ≡ Clash b t k = (let h = e in cc) in
    c.restore.ensures.clash b t k (c.in-Err.is ∙ ap Err (was_clash c.in-Err.fault b t k (sym c.repair_fault.ensures ∙ is)))

pub returns-in-Err-clause-no_clash : goal.returns-in-Err-clause-no_clash
returns-in-Err-clause-no_clash g c revealed marked records datas has are honest b t k e =
    let is : c.repair_fault.result ≡ Clash b t k = (let h = e in cc) in
    c.restore.ensures.no_clash revealed marked records datas has are honest b t k (c.in-Err.is ∙ ap Err (was_clash c.in-Err.fault b t k (sym c.repair_fault.ensures ∙ is)))

pub returns-in-Err-clause-writes : goal.returns-in-Err-clause-writes
returns-in-Err-clause-writes g c =
    let v = c.args.ledger.now in
    let given = IsGiven c.args.plan.now.steps c.args.fates.now in
    cells_less_as g.D.Disk.reveals (c.restore.result ≡ Err stage.DiskFault) _ v.shape v.lattice.n (IsLeft given) (IsLeft (HasBlock v.lattice)) (g.D.Disk.state c.args.disk.now) (g.D.Disk.state c.restore.new.disk)
    (λ a left one. left ((c.requires.mends (is_marked c.args.marks.now) (λ b has. refl) a).0 one).block)
    (λ e. let is : c.repair_fault.result ≡ DiskFault = (let h = e in cc) in c.in-Err.is ∙ ap Err (was_disk c.in-Err.fault (sym c.repair_fault.ensures ∙ is))) (λ e. let is_disk : c.in-Err.fault ≡ stage.DiskFault = (let h = sym c.in-Err.is ∙ e in cc) in ap Err (c.repair_fault.ensures ∙ ap fault_of is_disk)) c.restore.ensures.writes
