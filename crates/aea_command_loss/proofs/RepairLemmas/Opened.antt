-- A repair after the opening, as a part of the whole run.
use Rattle.std.proofs.Common.{◌≡◌, ◌≢◌, inl, inr, ℕ, zero, suc, ◌≤◌, List, length, refl, sym, ap, subst, arith, Bool, Some, Result, Ok, Err}
use Rattle.std.specs.Prelude.{IsErr}
use Rattle.std.proofs.lemmas.Bool.{cases_lt}
use Rattle.std.proofs.lemmas.Bool.Decides.{nat_tests}
use Rattle.aea_io.specs.Streams.{SinkState}
use Rattle.aea_lattice.specs.declared.blocks.BlockId.{BlockId}
use Rattle.aea_lattice.specs.declared.shape.Shape.{Shape}
use Rattle.aea_lattice.specs.Blocks.{HasBlock}
use Rattle.aea_disk.specs.Files.{Files, KeepsFiles}
use Rattle.aea_disk.specs.Frames.{OnlyReads, OnlyWrites}
use Rattle.aea_disk.specs.State.{State, Passes, During, AtEachMoment, IsSynced, IsReady, IsRoomy}
use Rattle.aea_disk.proofs.Frames.{reads_as, ready_later, reads_then_writes, writes_where}
use Rattle.aea_disk.proofs.Moments.{passes_none, where_none, where_kept}
use Rattle.aea_shelf.specs.Intact.{IsHeldIn}
use Rattle.aea_shelf.proofs.Runs.{synced_held}
use Rattle.aea_records.specs.Format.{Record}
use Rattle.aea_records.specs.Laws.{HasOneReading}
use Rattle.aea_ledger.specs.Recorded.{AreRecordsOf}
use Rattle.aea_ledger.specs.Values.{Opened, HasRecords}
use Rattle.aea_archive.specs.Blocks.{recorded_in, IsIntactBy, IsHeldBy, RevealsSurvivors}
use Rattle.aea_archive.specs.Cells.{IsNoSite, ChangesArchive, FitsRows}
use Rattle.aea_archive.proofs.Cells.{changes_none, rows_later}
use Rattle.aea_archive.specs.Data.{AreSurvivorsHonest, IsDamagePlain}
use Rattle.aea_report.specs.declared.head.Head.{Head}
use Rattle.aea_report.specs.declared.line.Line.{Line}
use Rattle.aea_report.specs.Format.{report_bytes}
use Rattle.aea_report.specs.Printed.{IsPrinted}
use Rattle.aea_restore.specs.Drawn.{IsOtherDigest}
use Rattle.aea_restore.specs.Laws.{IsRestorable}
use Rattle.aea_restore.specs.Repairs.{IsLeft, WritesBlocks}
use Rattle.aea_repair.specs.declared.fault.RepairFault.{RepairFault}
use Rattle.aea_repair.specs.declared.fault.RepairFault.TheVariants as repair
use Rattle.aea_repair.specs.declared.outcome.Outcome.{Outcome}
use Rattle.aea_repair.specs.Repairs.{IsWritten, Restores}
use Rattle.aea_repair.specs.Reports.{IsReportOf, HasReported}
use Rattle.aea_command.specs.declared.refusal.Failure.{Failure}
use Rattle.aea_command.specs.declared.refusal.Failure.TheVariants as failure
use Rattle.aea_command.specs.Failures.{Answer}
use Rattle.aea_command.specs.Openings.{Opens, KeepsAllBut}
use Rattle.aea_command_loss.specs.Repair.{repair_answer, RepairsOpened, FitsRepair, IsSiteFile, RepairsArchive}
use Rattle.aea_command.proofs.OpeningCases.{opening_more, opened_never, untouched}
use Rattle.aea_command.proofs.Opened.{opening_synced, image_is, opens_then, opening_then, untouched_by}
use Rattle.aea_command.proofs.Reading.{has_ledger_of}
use Rattle.aea_command_loss.proofs.RepairLemmas.Answering.{from_disk}
use Rattle.aea_ledger.specs.Stops.{StaysAll}

-- what the call that repairs gave, over these states of the disk and of the output
pub record HasRepaired (reveals : Type 0) (v : Opened) (mid new : State) (before after : SinkState) (result : Result Outcome RepairFault) : Type 0 where
  pub restores : reveals → (known : BlockId → Bool) → RevealsSurvivors v.shape v.lattice.n v.digests mid.files known → Restores v known mid.files new.files result
  pub durable : IsWritten result → reveals → IsSynced new
  pub alone : reveals → (known : BlockId → Bool) → RevealsSurvivors v.shape v.lattice.n v.digests mid.files known
      → WritesBlocks reveals v (IsLeft (IsRestorable v.lattice known)) (result ≡ Err repair.DiskFault) mid new
  pub held : reveals → (b : BlockId) → HasBlock v.lattice b → IsHeldBy v.shape v.digests mid b
      → AtEachMoment mid new (IsHeldIn v.shape b (recorded_in v.shape v.digests b)) × IsHeldBy v.shape v.digests new b
  pub reports : IsWritten result → HasReported reveals v mid.files new.files before after result
  pub unused : IsErr result → result ≢ Err repair.WriteFault → after ≡ before
  pub clash : (b : BlockId) (revealed computed : List ℕ) → result ≡ Err (repair.Clash b revealed computed) → IsOtherDigest v b revealed computed
  pub no_clash : reveals → (records : List Record) (datas : List (List ℕ)) → HasRecords v records → AreRecordsOf v.shape records datas
      → AreSurvivorsHonest v.shape v.lattice v.digests datas mid.files → (b : BlockId) (revealed computed : List ℕ) → result ≢ Err (repair.Clash b revealed computed)
  pub memory : result ≡ Err repair.NoMemory → OnlyReads reveals ⊥ mid new
  pub writes : WritesBlocks reveals v (IsLeft (HasBlock v.lattice)) (result ≡ Err repair.DiskFault) mid new
  pub in_room : reveals → (room : ℕ) (known : BlockId → Bool) (h : Head) (lines : List Line) → before.room ≡ Some room
      → RevealsSurvivors v.shape v.lattice.n v.digests mid.files known → IsPrinted v.lattice known (Some v.seal) h lines → length (report_bytes h lines) ≤ room
      → (result ≢ Err repair.WriteFault) × (after.faults ≡ before.faults)

-- a file of no site is the ledger, or besides the archive
no_site : (shape : Shape) (f : ℕ) → (IsSiteFile f → ⊥) → IsNoSite shape f
no_site shape zero past = inl refl
no_site shape (suc f) past = elim (cases_lt shape.sites (suc f)) [
  | inl less ↦ inr less
  | inr few ↦ absurd (past (omega arith, (let h = shape.in_profile in grind (arith, nat_tests))))
]

module _ (reveals : Type 0) (v : Opened) (old mid new : State) (opens : Opens reveals old mid (Ok v)) where
  -- the images after the opening are of changes of the files as they read before
  changed : (keep : BlockId → Type 0) (fault : Type 0) → WritesBlocks reveals v keep fault mid new → reveals → During mid new (ChangesArchive v.shape v.lattice.n keep (IsNoSite v.shape) old.files)
  changed keep fault writes revealed t c from to here =
      let was = writes.crash t c from to here in
      subst (λ (d : Files). ChangesArchive v.shape v.lattice.n keep (IsNoSite v.shape) d c) (image_is reveals v old mid new opens revealed was.0 was.1) was.2

  -- the whole run changes what the repair changes, where the disk is ready and fits the rows of the opened archive
  repairing : (result : Result Outcome RepairFault) → WritesBlocks reveals v (IsLeft (HasBlock v.lattice)) (result ≡ Err repair.DiskFault) mid new
      → OnlyWrites reveals (IsReady old) (IsRoomy old × FitsRows v.shape v.lattice.n old) (result ≡ Err repair.DiskFault) (ChangesArchive v.shape v.lattice.n (IsLeft (HasBlock v.lattice)) (IsNoSite v.shape)) old new
  repairing result writes =
      reads_then_writes reveals (IsReady old) (IsReady mid) (IsRoomy old × FitsRows v.shape v.lattice.n old) (FitsRows v.shape v.lattice.n mid)
      (let opening : Result Opened Failure = Ok v in opening ≡ Err failure.Disk) (result ≡ Err repair.DiskFault) (ChangesArchive v.shape v.lattice.n (IsLeft (HasBlock v.lattice)) (IsNoSite v.shape)) old mid new
      (λ e. opened_never v failure.Disk e) (changes_none v.shape v.lattice.n (IsLeft (HasBlock v.lattice)) (IsNoSite v.shape))
      (λ ready. ready) (λ revealed ready same goes. ready_later old mid same goes ready)
      (λ fits. fits.0) (λ revealed fits same time. rows_later v.shape v.lattice.n old mid (ap (λ (c : Files). c 0) same) time fits.1)
      opens.reads writes

module _ (reading : HasOneReading) (reveals : Type 0) (v : Opened) (old mid new : State) (before after : SinkState) (result : Result Outcome RepairFault) (opens : Opens reveals old mid (Ok v)) (gave : HasRepaired reveals v mid new before after result) where
  same : reveals → mid.files ≡ old.files
  same revealed = opens.reads.contents revealed

  survivors : reveals → (known : BlockId → Bool) → RevealsSurvivors v.shape v.lattice.n v.digests old.files known → RevealsSurvivors v.shape v.lattice.n v.digests mid.files known
  survivors revealed known is = subst (λ (c : Files). RevealsSurvivors v.shape v.lattice.n v.digests c known) (sym (same revealed)) is

  late : Passes mid new
  late = gave.writes.time

  report_of : (h : Head) (lines : List Line) → IsReportOf reveals v mid.files h lines → IsReportOf reveals v old.files h lines
  report_of h lines report = record {
    known = report.known;
    survivors = λ revealed. subst (λ (c : Files). RevealsSurvivors v.shape v.lattice.n v.digests c report.known) (same revealed) (report.survivors revealed);
    printed = report.printed;
    each = λ revealed test is. report.each revealed test (survivors revealed test is);
  }

  reported : HasReported reveals v mid.files new.files before after result → HasReported reveals v old.files new.files before after result
  reported has = record {
    head = has.head;
    lines = has.lines;
    report = report_of has.head has.lines has.report;
    prints = has.prints;
    numbers = has.numbers;
    fits = λ revealed plain. has.fits revealed (subst (λ (c : Files). IsDamagePlain v.shape v.lattice v.digests c) (sym (same revealed)) plain);
  }

  repairs_opened : RepairsOpened reveals v old new before after result
  repairs_opened = record {
    restores = λ revealed known is. subst (λ (c : Files). Restores v known c new.files result) (same revealed) (gave.restores revealed known (survivors revealed known is));
    alone = λ revealed known is.
        opens_then reveals v old mid new opens revealed (λ opened end. During opened end (ChangesArchive v.shape v.lattice.n (IsLeft (IsRestorable v.lattice known)) (IsNoSite v.shape) old.files)) late
        (changed reveals v old mid new opens (IsLeft (IsRestorable v.lattice known)) (result ≡ Err repair.DiskFault) (gave.alone revealed known (survivors revealed known is)) revealed);
    reads = λ revealed known is.
        subst (λ (c : Files). ChangesArchive v.shape v.lattice.n (IsLeft (IsRestorable v.lattice known)) (IsNoSite v.shape) c new.files) (same revealed)
        ((gave.alone revealed known (survivors revealed known is)).contents revealed);
    held = λ revealed b inside intact.
        let here : IsIntactBy v.shape v.digests mid.files b = subst (λ (c : Files). IsIntactBy v.shape v.digests c b) (sym (same revealed)) intact in
        opens_then reveals v old mid new opens revealed (λ opened end. AtEachMoment opened end (IsHeldIn v.shape b (recorded_in v.shape v.digests b))) late
        ((gave.held revealed b inside (synced_held v.shape b (recorded_in v.shape v.digests b) mid (opening_synced reveals v old mid new opens revealed) here)).0);
    durable = gave.durable;
    reports = λ written. reported (gave.reports written);
    unused = gave.unused;
    clash = gave.clash;
    no_clash = λ revealed records datas has are honest.
        gave.no_clash revealed records datas has are (subst (λ (c : Files). AreSurvivorsHonest v.shape v.lattice v.digests datas c) (sym (same revealed)) honest);
    out_of_memory = λ e. untouched_by reveals v old mid new opens (gave.memory e);
    in_room = λ revealed room known h lines fits is. gave.in_room revealed room known h lines fits (survivors revealed known is);
  }

  -- the space that the run asks for is that of the rows of the opened archive
  rows : FitsRepair reveals old → FitsRows v.shape v.lattice.n old
  rows fits = record {
    sites = fits.sites v.shape v.lattice.n (λ revealed.
        let one = opens.this_one revealed in
        record {
          records = one.records;
          ledger = has_ledger_of reading v (old.files 0) one;
          is = one.has.lattice.n;
        });
    sync = fits.some.sync;
  }

  pub repairs_done : RepairsArchive reveals old new before after (repair_answer result)
  repairs_done = record {
    opening = Ok v;
    records = opens.records;
    this_one = opens.this_one;
    unopened = tt;
    opened = (result, refl, repairs_opened);
    in_room = λ revealed ready fits.
        let sure = (repairing reveals v old mid new opens result gave.writes).sure revealed ready (fits.some, rows fits) in
        (λ e. sure.0 (from_disk result e), sure.1);
  }

-- the files that a repair may not change, by its frame alone
module _ (reveals : Type 0) (v : Opened) (old mid new : State) (before after : SinkState) (result : Result Outcome RepairFault) (opens : Opens reveals old mid (Ok v))
    (writes : WritesBlocks reveals v (IsLeft (HasBlock v.lattice)) (result ≡ Err repair.DiskFault) mid new) where
  pub repairing_rest : KeepsAllBut IsSiteFile reveals (repair_answer result ≡ Err failure.Disk) old new
  repairing_rest =
      let all = repairing reveals v old mid new opens result writes in
      record {
        others = writes_where reveals (IsReady old) (IsRoomy old × FitsRows v.shape v.lattice.n old) (result ≡ Err repair.DiskFault) (ChangesArchive v.shape v.lattice.n (IsLeft (HasBlock v.lattice)) (IsNoSite v.shape))
            (λ f. IsSiteFile f → ⊥) old new (λ c d step f past. step.stay f (no_site v.shape f past)) all;
        opens = λ revealed.
            opening_then reveals v old mid new opens revealed (KeepsFiles (λ f. IsSiteFile f → ⊥) old.files) (λ c stays f past. stays f) writes.time
            (λ t c from to here f past. (changed reveals v old mid new opens (IsLeft (HasBlock v.lattice)) (result ≡ Err repair.DiskFault) writes revealed t c from to here).stay f (no_site v.shape f past));
        time = all.time;
        kept = all.kept;
        cause = λ is. all.cause (from_disk result is);
        still = λ fine. all.still (λ is. fine (ap repair_answer is));
        beneath = λ revealed ready is. all.beneath revealed ready (from_disk result is);
      }

-- the archive was not opened
module _ (reveals : Type 0) (old new : State) (out : SinkState) (f : Failure) (opens : Opens reveals old new (Err f)) where
  pub repairs_unopened : RepairsArchive reveals old new out out (Err f)
  repairs_unopened = record {
    opening = Err f;
    records = tt;
    this_one = tt;
    unopened = record {
      is = refl;
      why = opens.kinds;
      unused = refl;
      reads = reads_as reveals _ _ old new (λ e. ap Err e) (λ is. cc) opens.reads;
      untouched = λ differs. untouched reveals old new (Err f) opens (λ e. differs (let h : (let opening : Result Opened Failure = Err f in opening ≡ Err failure.Disk) = e in cc));
    };
    opened = tt;
    in_room = λ revealed ready fits. let sure = opens.reads.sure revealed ready fits.some in (λ e. sure.0 (let h : (let answer : Answer = Err f in answer ≡ Err failure.Disk) = e in cc), sure.1);
  }

  pub unopened_repair : KeepsAllBut IsSiteFile reveals (let answer : Answer = Err f in answer ≡ Err failure.Disk) old new
  unopened_repair = record {
    others = where_kept reveals _ old old new (passes_none old) opens.reads.time opens.reads.crash opens.reads.contents (where_none reveals _ old);
    opens = λ revealed. opening_more old new (StaysAll old.files) (KeepsFiles (λ g. IsSiteFile g → ⊥) old.files) (λ c stays g past. stays g) (opens.stops revealed);
    time = opens.reads.time;
    kept = opens.reads.kept;
    cause = λ is. opens.reads.cause (let h : (let answer : Answer = Err f in answer ≡ Err failure.Disk) = is in cc);
    still = λ fine. opens.reads.still (λ is. let h : (let opening : Result Opened Failure = Err f in opening ≡ Err failure.Disk) = is in let same : f ≡ failure.Disk = cc in fine (ap Err same));
    beneath = λ revealed ready is. opens.reads.beneath revealed ready (let h : (let answer : Answer = Err f in answer ≡ Err failure.Disk) = is in cc);
  }
