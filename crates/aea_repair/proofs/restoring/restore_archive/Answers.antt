use Rattle.std.proofs.Common.{◌≡◌, Err, Ok, Some, refl, sym, ◌∙◌, ap, subst}
use Rattle.std.specs.Prelude.{◌↔◌}
use Rattle.aea_lattice.specs.declared.grid.Lattice.{Lattice}
use Rattle.aea_lattice.specs.Blocks.{HasBlock}
use Rattle.aea_disk.specs.Files.{Files}
use Rattle.aea_disk.proofs.Frames.{reads_as}
use Rattle.aea_view.specs.Marked.{is_marked}
use Rattle.aea_archive.specs.Blocks.{RevealsSurvivors}
use Rattle.aea_archive.specs.Data.{AreSurvivorsHonest}
use Rattle.aea_report.specs.Printed.{IsPrinted}
use Rattle.aea_plan.specs.Plans.{head_by}
use Rattle.aea_plan.specs.Verdicts.{lines_by}
use Rattle.aea_scrub.specs.declared.marking.ScanFault.TheVariants as scanning
use Rattle.aea_restore.specs.Given.{IsGiven, CanBeRestored}
use Rattle.aea_restore.specs.Laws.{IsRestorable}
use Rattle.aea_restore.specs.Repairs.{IsLeft}
use Rattle.aea_repair.specs.declared.fault.RepairFault.TheVariants.{DiskFault}
use Rattle.aea_repair.proofs.Survivors.{AreInside, block_of_shape, block_in_archive, marks_agree, held_left}
use Rattle.aea_archive.proofs.Writes.{cells_read, read_then_cells, cells_as, cells_held}
use Rattle.aea_repair.proofs.Frames.{held_read}
use Rattle.aea_repair.proofs.Ends.{repairs_broken, repairs_unwritten, repairs_later, repairs_ok, repairs_err, err_as}
use Rattle.aea_repair.proofs.restoring.restore_archive.Goals as goal

-- ---- the scan failed

pub returns-in-Err-DiskFault-clause-repairs : goal.returns-in-Err-DiskFault-clause-repairs
returns-in-Err-DiskFault-clause-repairs g c revealed known reveal =
    repairs_broken c.homes_are_on_its_sites.ensures g.D.Disk.reveals (c.scan.result ≡ Err scanning.DiskFault) c.args.ledger.now known (g.D.Disk.state c.args.disk.now) (g.D.Disk.state c.scan.new.disk) revealed
    (c.in-Err-DiskFault.is ∙ ap Err c.in-Err-DiskFault.field-0-is) c.scan.ensures.reads

pub returns-in-Err-DiskFault-clause-held : goal.returns-in-Err-DiskFault-clause-held
returns-in-Err-DiskFault-clause-held g c revealed b has =
    held_read c.homes_are_on_its_sites.ensures g.D.Disk.reveals (c.scan.result ≡ Err scanning.DiskFault) c.args.ledger.now (g.D.Disk.state c.args.disk.now) (g.D.Disk.state c.scan.new.disk) b revealed
    (block_of_shape c.args.ledger.now c.lattice-lattice.result b c.lattice-lattice.ensures.value c.lattice-lattice.ensures.of_shape has) c.scan.ensures.reads

pub returns-in-Err-DiskFault-clause-writes : goal.returns-in-Err-DiskFault-clause-writes
returns-in-Err-DiskFault-clause-writes g c =
    cells_read c.homes_are_on_its_sites.ensures g.D.Disk.reveals (c.scan.result ≡ Err scanning.DiskFault) _ c.args.ledger.now.shape c.args.ledger.now.lattice.n (IsLeft (HasBlock c.args.ledger.now.lattice)) (g.D.Disk.state c.args.disk.now) (g.D.Disk.state c.scan.new.disk)
    (λ e. c.in-Err-DiskFault.is ∙ ap Err c.in-Err-DiskFault.field-0-is) (λ e. cc) c.scan.ensures.reads

pub returns-in-Err-NoMemory-clause-repairs : goal.returns-in-Err-NoMemory-clause-repairs
returns-in-Err-NoMemory-clause-repairs g c revealed known reveal =
    repairs_unwritten c.homes_are_on_its_sites.ensures g.D.Disk.reveals (c.scan.result ≡ Err scanning.DiskFault) c.args.ledger.now known (g.D.Disk.state c.args.disk.now) (g.D.Disk.state c.scan.new.disk) revealed (λ is. absurd (let h = sym (c.in-Err-NoMemory.is ∙ ap Err c.in-Err-NoMemory.field-0-is) ∙ is in cc)) c.scan.ensures.reads

pub returns-in-Err-NoMemory-clause-held : goal.returns-in-Err-NoMemory-clause-held
returns-in-Err-NoMemory-clause-held g c revealed b has =
    held_read c.homes_are_on_its_sites.ensures g.D.Disk.reveals (c.scan.result ≡ Err scanning.DiskFault) c.args.ledger.now (g.D.Disk.state c.args.disk.now) (g.D.Disk.state c.scan.new.disk) b revealed
    (block_of_shape c.args.ledger.now c.lattice-lattice.result b c.lattice-lattice.ensures.value c.lattice-lattice.ensures.of_shape has) c.scan.ensures.reads

pub returns-in-Err-NoMemory-clause-memory : goal.returns-in-Err-NoMemory-clause-memory
returns-in-Err-NoMemory-clause-memory g c e =
    reads_as g.D.Disk.reveals (c.scan.result ≡ Err scanning.DiskFault) ⊥ (g.D.Disk.state c.args.disk.now) (g.D.Disk.state c.scan.new.disk) (λ none. absurd none) (λ is. absurd (let h = sym (c.in-Err-NoMemory.is ∙ ap Err c.in-Err-NoMemory.field-0-is) ∙ is in cc)) c.scan.ensures.reads

pub returns-in-Err-NoMemory-clause-writes : goal.returns-in-Err-NoMemory-clause-writes
returns-in-Err-NoMemory-clause-writes g c =
    cells_read c.homes_are_on_its_sites.ensures g.D.Disk.reveals (c.scan.result ≡ Err scanning.DiskFault) _ c.args.ledger.now.shape c.args.ledger.now.lattice.n (IsLeft (HasBlock c.args.ledger.now.lattice)) (g.D.Disk.state c.args.disk.now) (g.D.Disk.state c.scan.new.disk)
    (λ e. absurd (let h = e in cc)) (λ is. absurd (let h = sym (c.in-Err-NoMemory.is ∙ ap Err c.in-Err-NoMemory.field-0-is) ∙ is in cc)) c.scan.ensures.reads

-- ---- there was no memory for the plan

pub returns-in_default-clause-repairs : goal.returns-in_default-clause-repairs
returns-in_default-clause-repairs g c revealed known reveal =
    repairs_unwritten c.homes_are_on_its_sites.ensures g.D.Disk.reveals (c.scan.result ≡ Err scanning.DiskFault) c.args.ledger.now known (g.D.Disk.state c.args.disk.now) (g.D.Disk.state c.scan.new.disk) revealed (λ is. absurd (let h = sym c.in-Ok.is ∙ is in cc)) c.scan.ensures.reads

pub returns-in_default-clause-held : goal.returns-in_default-clause-held
returns-in_default-clause-held g c revealed b has =
    held_read c.homes_are_on_its_sites.ensures g.D.Disk.reveals (c.scan.result ≡ Err scanning.DiskFault) c.args.ledger.now (g.D.Disk.state c.args.disk.now) (g.D.Disk.state c.scan.new.disk) b revealed
    (block_of_shape c.args.ledger.now c.lattice-lattice.result b c.lattice-lattice.ensures.value c.lattice-lattice.ensures.of_shape has) c.scan.ensures.reads

pub returns-in_default-clause-memory : goal.returns-in_default-clause-memory
returns-in_default-clause-memory g c e =
    reads_as g.D.Disk.reveals (c.scan.result ≡ Err scanning.DiskFault) ⊥ (g.D.Disk.state c.args.disk.now) (g.D.Disk.state c.scan.new.disk) (λ none. absurd none) (λ is. absurd (let h = sym c.in-Ok.is ∙ is in cc)) c.scan.ensures.reads

pub returns-in_default-clause-writes : goal.returns-in_default-clause-writes
returns-in_default-clause-writes g c =
    cells_read c.homes_are_on_its_sites.ensures g.D.Disk.reveals (c.scan.result ≡ Err scanning.DiskFault) _ c.args.ledger.now.shape c.args.ledger.now.lattice.n (IsLeft (HasBlock c.args.ledger.now.lattice)) (g.D.Disk.state c.args.disk.now) (g.D.Disk.state c.scan.new.disk)
    (λ e. absurd (let h = e in cc)) (λ is. absurd (let h = sym c.in-Ok.is ∙ is in cc)) c.scan.ensures.reads

-- ---- the plan is carried out

pub restore_planned-requires-clause-can : goal.restore_planned-requires-clause-can
restore_planned-requires-clause-can g c =
    subst (λ (l : Lattice). CanBeRestored l (is_marked c.in-Ok.marks) c.in-Ok-prepare.prepared.plan.steps c.in-Ok-prepare.prepared.fates) c.in-Ok.ensures.lattice c.in-Ok-prepare.ensures.can

pub restore_planned-requires-clause-mends : goal.restore_planned-requires-clause-mends
restore_planned-requires-clause-mends g c test are b =
    subst (λ (l : Lattice). IsGiven c.in-Ok-prepare.prepared.plan.steps c.in-Ok-prepare.prepared.fates b ↔ IsRestorable l test b) c.in-Ok.ensures.lattice (c.in-Ok-prepare.ensures.mends test are b)

pub returns-in-Ok-restore_planned-clause-repairs : goal.returns-in-Ok-restore_planned-clause-repairs
returns-in-Ok-restore_planned-clause-repairs g c revealed known reveal =
    let v = c.args.ledger.now in
    let old = g.D.Disk.state c.args.disk.now in
    let mid = g.D.Disk.state c.scan.new.disk in
    let new = g.D.Disk.state c.restore_planned.new.disk in
    let same = sym (c.scan.ensures.reads.contents revealed) in
    let marked = subst (λ (f : Files). RevealsSurvivors v.shape v.lattice.n v.digests f (is_marked c.in-Ok.marks)) same (c.in-Ok.ensures.survivors revealed) in
    let reveals = subst (λ (f : Files). RevealsSurvivors v.shape v.lattice.n v.digests f known) same reveal in
    repairs_ok g.D.Disk.reveals v known old new tt _
    (repairs_later c.homes_are_on_its_sites.ensures g.D.Disk.reveals (c.scan.result ≡ Err scanning.DiskFault) v known old mid new (Ok tt) revealed (λ is. absurd (let h = sym c.in-Ok.is ∙ is in cc)) c.scan.ensures.reads (c.in-Ok-restore_planned.ensures.repairs revealed marked known reveals))

pub returns-in-Ok-restore_planned-clause-held : goal.returns-in-Ok-restore_planned-clause-held
returns-in-Ok-restore_planned-clause-held g c revealed b has held =
    let v = c.args.ledger.now in
    let old = g.D.Disk.state c.args.disk.now in
    let new = g.D.Disk.state c.restore_planned.new.disk in
    let known = is_marked c.in-Ok.marks in
    let inside : AreInside v = λ d d_has. block_in_archive v c.lattice-lattice.result d c.lattice-lattice.ensures.value c.lattice-lattice.ensures.of_shape d_has in
    cells_held g.D.Disk.reveals _ v (IsLeft (IsRestorable v.lattice known)) old new b revealed
    (block_of_shape v c.lattice-lattice.result b c.lattice-lattice.ensures.value c.lattice-lattice.ensures.of_shape has)
    (held_left v known old b inside (c.in-Ok.ensures.survivors revealed) has held)
    (returns-in-Ok-restore_planned-clause-repairs g c revealed known (c.in-Ok.ensures.survivors revealed)).alone held

pub returns-in-Ok-restore_planned-clause-writes : goal.returns-in-Ok-restore_planned-clause-writes
returns-in-Ok-restore_planned-clause-writes g c =
    let v = c.args.ledger.now in
    let keep = IsLeft (HasBlock v.lattice) in
    let old = g.D.Disk.state c.args.disk.now in
    let new = g.D.Disk.state c.restore_planned.new.disk in
    cells_as g.D.Disk.reveals (c.restore_planned.result ≡ Err DiskFault) _ v.shape v.lattice.n keep old new (λ e. absurd (let h = e in cc)) (λ e. absurd (let h = sym c.in-Ok-restore_planned.is ∙ e in cc))
    (read_then_cells c.homes_are_on_its_sites.ensures g.D.Disk.reveals (c.scan.result ≡ Err scanning.DiskFault) (c.restore_planned.result ≡ Err DiskFault) v.shape v.lattice.n keep old (g.D.Disk.state c.scan.new.disk) new (λ is. absurd (let h = sym c.in-Ok.is ∙ is in cc)) c.scan.ensures.reads c.restore_planned.ensures.writes)

pub returns-in-Ok-restore_planned-clause-report : goal.returns-in-Ok-restore_planned-clause-report
returns-in-Ok-restore_planned-clause-report g c =
    let v = c.args.ledger.now in
    let old = g.D.Disk.state c.args.disk.now in
    let plan = c.in-Ok-prepare.prepared.plan in
    let inside : AreInside v = λ d d_has. block_in_archive v c.lattice-lattice.result d c.lattice-lattice.ensures.value c.lattice-lattice.ensures.of_shape d_has in
    record {
      known = is_marked c.in-Ok.marks;
      survivors = λ revealed. c.in-Ok.ensures.survivors revealed;
      printed = subst (λ (l : Lattice). IsPrinted l (is_marked c.in-Ok.marks) (Some v.seal) (head_by (Some v.seal) plan) (lines_by plan.verdicts)) c.in-Ok.ensures.lattice
          (c.in-Ok-prepare.ensures.printed (is_marked c.in-Ok.marks) (Some v.seal) (λ b has. refl));
      each = λ revealed test reveal. subst (λ (l : Lattice). IsPrinted l test (Some v.seal) (head_by (Some v.seal) plan) (lines_by plan.verdicts)) c.in-Ok.ensures.lattice
          (c.in-Ok-prepare.ensures.printed test (Some v.seal) (marks_agree v old.files c.in-Ok.marks test c.in-Ok.ensures.lattice inside (c.in-Ok.ensures.survivors revealed) reveal));
    }

-- ---- the plan was not carried out

pub returns-clause-repairs : goal.returns-clause-repairs
returns-clause-repairs g c revealed known reveal =
    let v = c.args.ledger.now in
    let old = g.D.Disk.state c.args.disk.now in
    let mid = g.D.Disk.state c.scan.new.disk in
    let new = g.D.Disk.state c.restore_planned.new.disk in
    let same = sym (c.scan.ensures.reads.contents revealed) in
    let marked = subst (λ (f : Files). RevealsSurvivors v.shape v.lattice.n v.digests f (is_marked c.in-Ok.marks)) same (c.in-Ok.ensures.survivors revealed) in
    let reveals = subst (λ (f : Files). RevealsSurvivors v.shape v.lattice.n v.digests f known) same reveal in
    repairs_err {T = Unit {0}} g.D.Disk.reveals v known old new c.in-Err.fault
    (repairs_later c.homes_are_on_its_sites.ensures g.D.Disk.reveals (c.scan.result ≡ Err scanning.DiskFault) v known old mid new (Err c.in-Err.fault) revealed (λ is. absurd (let h = sym c.in-Ok.is ∙ is in cc)) c.scan.ensures.reads (c.in-Err.ensures.repairs revealed marked known reveals))

pub returns-clause-held : goal.returns-clause-held
returns-clause-held g c revealed b has held =
    let v = c.args.ledger.now in
    let old = g.D.Disk.state c.args.disk.now in
    let new = g.D.Disk.state c.restore_planned.new.disk in
    let known = is_marked c.in-Ok.marks in
    let inside : AreInside v = λ d d_has. block_in_archive v c.lattice-lattice.result d c.lattice-lattice.ensures.value c.lattice-lattice.ensures.of_shape d_has in
    cells_held g.D.Disk.reveals _ v (IsLeft (IsRestorable v.lattice known)) old new b revealed
    (block_of_shape v c.lattice-lattice.result b c.lattice-lattice.ensures.value c.lattice-lattice.ensures.of_shape has)
    (held_left v known old b inside (c.in-Ok.ensures.survivors revealed) has held)
    (returns-clause-repairs g c revealed known (c.in-Ok.ensures.survivors revealed)).alone held

pub returns-clause-clash : goal.returns-clause-clash
returns-clause-clash g c b t k e = c.restore_planned.ensures.clash b t k (c.in-Err.is ∙ ap Err (let h = e in cc))

pub returns-clause-no_clash : goal.returns-clause-no_clash
returns-clause-no_clash g c revealed records datas has are own b t k e =
    let v = c.args.ledger.now in
    let same = sym (c.scan.ensures.reads.contents revealed) in
    let marked = subst (λ (f : Files). RevealsSurvivors v.shape v.lattice.n v.digests f (is_marked c.in-Ok.marks)) same (c.in-Ok.ensures.survivors revealed) in
    c.restore_planned.ensures.no_clash revealed marked records datas has are (subst (AreSurvivorsHonest v.shape v.lattice v.digests datas) same own) b t k (c.in-Err.is ∙ ap Err (let h = e in cc))

pub returns-clause-faults : goal.returns-clause-faults
returns-clause-faults g c = c.in-Err.ensures.faults.1

pub returns-clause-memory : goal.returns-clause-memory
returns-clause-memory g c e = absurd (c.in-Err.ensures.faults.0 (let h = e in cc))

pub returns-clause-writes : goal.returns-clause-writes
returns-clause-writes g c =
    let v = c.args.ledger.now in
    let keep = IsLeft (HasBlock v.lattice) in
    let old = g.D.Disk.state c.args.disk.now in
    let new = g.D.Disk.state c.restore_planned.new.disk in
    cells_as g.D.Disk.reveals (c.restore_planned.result ≡ Err DiskFault) _ v.shape v.lattice.n keep old new (λ e. c.in-Err.is ∙ ap Err (let h = e in cc)) (λ e. err_as (sym c.in-Err.is ∙ e))
    (read_then_cells c.homes_are_on_its_sites.ensures g.D.Disk.reveals (c.scan.result ≡ Err scanning.DiskFault) (c.restore_planned.result ≡ Err DiskFault) v.shape v.lattice.n keep old (g.D.Disk.state c.scan.new.disk) new (λ is. absurd (let h = sym c.in-Ok.is ∙ is in cc)) c.scan.ensures.reads c.restore_planned.ensures.writes)
