-- The report of a repair, and the disk that it leaves.
use Rattle.std.proofs.Common.{◌≡◌, List, Bool, Some, ap, ◌∙◌}
use Rattle.std.specs.Prelude.{Result}
use Rattle.aea_lattice.specs.declared.blocks.BlockId.{BlockId}
use Rattle.aea_disk.specs.State.{State}
use Rattle.aea_report.specs.declared.head.Head.{Head}
use Rattle.aea_report.specs.declared.line.Line.{Line}
use Rattle.aea_report.specs.Format.{report_bytes}
use Rattle.aea_report.specs.Printed.{IsPrinted}
use Rattle.aea_report.specs.Fits.{Fits}
use Rattle.aea_report.specs.Laws.{PrintedReportsFit}
use Rattle.aea_report.specs.Laws.{PrintedAreOne}
use Rattle.aea_disk.specs.Files.{Files}
use Rattle.aea_ledger.specs.Values.{Opened}
use Rattle.aea_archive.specs.Blocks.{RevealsSurvivors}
use Rattle.aea_archive.specs.Data.{IsDamagePlain}
use Rattle.aea_repair.specs.declared.fault.RepairFault.{RepairFault}
use Rattle.aea_repair.specs.Repairs.{IsWritten, Repairs}
use Rattle.aea_repair.specs.Reports.{IsReportOf}
use Rattle.aea_repair.proofs.Survivors.{AreInside}

-- Where the damage was plain, the report fits the disk once all is written.
pub report_fits : {T : Type 0} → PrintedReportsFit → (reveals : Type 0) (v : Opened) (old new : State) (result : Result T RepairFault) (h : Head) (lines : List Line) → AreInside v
    → (report : IsReportOf reveals v old.files h lines) → Repairs reveals v report.known old new result → IsWritten result → IsDamagePlain v.shape v.lattice v.digests old.files
    → (intact : BlockId → Bool) → RevealsSurvivors v.shape v.lattice.n v.digests new.files intact → Fits v.lattice v.seal intact h lines
report_fits law reveals v old new result h lines inside report repairs written plain intact reveal =
    law v.lattice report.known intact v.seal h lines report.printed
    (λ b has. (
      λ is. repairs.restores.plain written plain b has ((reveal b (inside b has)).0 is),
      λ is. (reveal b (inside b has)).1 (repairs.restores.determined written b has is),
    ))

-- there is one report, and so one number of its bytes
pub same_bytes : PrintedAreOne → (reveals : Type 0) (v : Opened) (c : Files) (test : BlockId → Bool) (h g : Head) (lines others : List Line) → reveals → IsReportOf reveals v c g others
    → RevealsSurvivors v.shape v.lattice.n v.digests c test → IsPrinted v.lattice test (Some v.seal) h lines → report_bytes g others ≡ report_bytes h lines
same_bytes law reveals v c test h g lines others revealed report reveal printed =
    let one = law v.lattice test (Some v.seal) g h others lines (report.each revealed test reveal) printed in
    ap (λ (x : Head). report_bytes x others) one.0 ∙ ap (λ (xs : List Line). report_bytes h xs) one.1
