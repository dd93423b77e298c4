-- The table of the commands: what each touches, why it is refused, and what a run of it does.
use Rattle.std.specs.Prelude.{◌≡◌, ◌≢◌, ◌≤◌, ℕ, Bool, List, [], Err, IsSome, unwrap_or}
use Rattle.aea_disk.specs.Files.{KeepsFiles}
use Rattle.aea_disk.specs.State.{IsReady, IsRoomy, KeepsWhere}
use Rattle.aea_lattice.specs.declared.blocks.BlockId.{BlockId}
use Rattle.aea_lattice.specs.declared.grid.Lattice.{Lattice}
use Rattle.aea_lattice.specs.declared.shape.Shape.{Shape}
use Rattle.aea_records.specs.Format.{Record, nodes_of}
use Rattle.aea_ledger.specs.Taking.{FitsMaking}
use Rattle.aea_ledger.specs.Stops.{HasOpening, HasLedger}
use Rattle.aea_dispatch.specs.declared.command.Command.{Command}
use Rattle.aea_dispatch.specs.declared.command.Command.TheVariants as command
use Rattle.aea_dispatch.specs.declared.command.Command.TheVariants.{Drill, Create, Stat, Put, Ingest, Get, Fetch, Fence, Upgrade, Scrub, Repair, Explain, Verify, Rehearse, Sites, Session, Copies}
use Rattle.aea_command.specs.declared.refusal.Refusal.{Refusal}
use Rattle.aea_command.specs.declared.refusal.Failure.TheVariants as failure
use Rattle.aea_command.specs.declared.status.Status.{Status}
use Rattle.aea_command_store.specs.Create.{CreateCauses, Creates, created_line}
use Rattle.aea_command_loss.specs.Drill.{DamageCauses, Drills, IsOutcome}
use Rattle.aea_command_read.specs.Stat.{Stats, IsStatOf}
use Rattle.aea_command_read.specs.Scrub.{Scrubs, RevealsIntact, scrub_text}
use Rattle.aea_command_store.specs.Adding.{FitsRecord}
use Rattle.aea_command_store.specs.Fence.{Fences, FenceCauses, next_fence, fence_line}
use Rattle.aea_command_store.specs.Upgrade.{Upgrades, UpgradeCauses, next_raise, upgraded_line}
use Rattle.aea_command.specs.Openings.{greatest_sites, OpeningCauses, IsAfterOpening}
use Rattle.aea_command_store.specs.Put as put
use Rattle.aea_command_store.specs.Put.{Puts, PutCauses, FitsPutUnlessRefused, stored_line, object_of}
use Rattle.aea_command_store.specs.Ingest.{Ingests, IngestCauses, FitsIngest, FitsLines}
use Rattle.aea_catalog.specs.Catalogs.{Placed}
use Rattle.aea_command_read.specs.Get.{GetsNamed, GetCauses, HasObject, FitsBytes}
use Rattle.aea_command_read.specs.Fetch.{FetchesNamed, FetchCauses}
use Rattle.aea_command_read.specs.List.{ListsObjects, IsListOf}
use Rattle.aea_command_loss.specs.Repair.{RepairsArchive, FitsRepair, IsSiteFile, IsRepairText}
use Rattle.aea_command_loss.specs.Explain.{ExplainsOrNot, ExplainCauses, IsExplanationText}
use Rattle.aea_command_loss.specs.Verify.{Verifies, VerifyCauses, IsVerdictText}
use Rattle.aea_rehearse.specs.declared.rehearsal.Rehearsal.{Rehearsal}
use Rattle.aea_command_loss.specs.Rehearse.{Rehearses, IsRehearsalOf, rehearsal_line}
use Rattle.aea_command_loss.specs.Sites.{SumsUpSites, AreFirstLines}
use Rattle.aea_command_session.specs.Causes as session
use Rattle.aea_command_session.specs.Causes.{SessionCauses}
use Rattle.aea_command_session.specs.Session.{Sessions}
use Rattle.aea_command_session.specs.Space.{FitsSession, FitsReplies}
use Rattle.aea_command_copies.specs.Copies.{copies_line, CopiesCauses, FitsBeginning, Begins}
use Rattle.aea_command.specs.Causes.{RefusesBy, IsDecided}
use Rattle.aea_command.specs.Failures.{Answer, NeverClashes}
use Rattle.aea_command.specs.Honest.{HasHonestSurvivors}
use Rattle.aea_command.specs.Printed.{FitsText}
use Rattle.aea_command.specs.Worlds.{World}

-- the command reads the input
abbrev pub ReadsInput : Command → Type 0
ReadsInput (Drill l) = Unit {0}
ReadsInput (Create shape) = ⊥
ReadsInput Stat = ⊥
ReadsInput command.List = ⊥
ReadsInput (Put name) = Unit {0}
ReadsInput Ingest = Unit {0}
ReadsInput (Get name) = ⊥
ReadsInput (Fetch name) = ⊥
ReadsInput Fence = ⊥
ReadsInput Upgrade = ⊥
ReadsInput Scrub = ⊥
ReadsInput Repair = ⊥
ReadsInput (Explain word) = ⊥
ReadsInput Verify = Unit {0}
ReadsInput (Rehearse number nodes permille) = ⊥
ReadsInput Sites = ⊥
ReadsInput Session = Unit {0}
ReadsInput Copies = ⊥

-- the command makes calls of the disk
abbrev pub UsesDisk : Command → Type 0
UsesDisk (Drill l) = ⊥
UsesDisk (Create shape) = Unit {0}
UsesDisk Stat = Unit {0}
UsesDisk command.List = Unit {0}
UsesDisk (Put name) = Unit {0}
UsesDisk Ingest = Unit {0}
UsesDisk (Get name) = Unit {0}
UsesDisk (Fetch name) = Unit {0}
UsesDisk Fence = Unit {0}
UsesDisk Upgrade = Unit {0}
UsesDisk Scrub = Unit {0}
UsesDisk Repair = Unit {0}
UsesDisk (Explain word) = Unit {0}
UsesDisk Verify = Unit {0}
UsesDisk (Rehearse number nodes permille) = ⊥
UsesDisk Sites = Unit {0}
UsesDisk Session = Unit {0}
UsesDisk Copies = Unit {0}

-- the command may change the file, of those that a disk shows that keeps copies up
abbrev pub MayChange : Command → ℕ → Type 0
MayChange (Drill l) file = ⊥
MayChange (Create shape) file = file ≡ 0
MayChange Stat file = ⊥
MayChange command.List file = ⊥
MayChange (Put name) file = file ≤ greatest_sites
MayChange Ingest file = file ≤ greatest_sites
MayChange (Get name) file = ⊥
MayChange (Fetch name) file = ⊥
MayChange Fence file = file ≡ 0
MayChange Upgrade file = file ≡ 0
MayChange Scrub file = ⊥
MayChange Repair file = IsSiteFile file
MayChange (Explain word) file = ⊥
MayChange Verify file = ⊥
MayChange (Rehearse number nodes permille) file = ⊥
MayChange Sites file = ⊥
MayChange Session file = file ≤ greatest_sites
MayChange Copies file = ⊥

-- the input is a part of what decides this refusal of the command
abbrev pub IsByInput : Command → Refusal → Type 0
IsByInput (Drill l) why = Unit {0}
IsByInput (Create shape) why = ⊥
IsByInput Stat why = ⊥
IsByInput command.List why = ⊥
IsByInput (Put name) why = put.IsByInput why
IsByInput Ingest why = IsAfterOpening why
IsByInput (Get name) why = ⊥
IsByInput (Fetch name) why = ⊥
IsByInput Fence why = ⊥
IsByInput Upgrade why = ⊥
IsByInput Scrub why = ⊥
IsByInput Repair why = ⊥
IsByInput (Explain word) why = ⊥
IsByInput Verify why = IsAfterOpening why
IsByInput (Rehearse number nodes permille) why = ⊥
IsByInput Sites why = ⊥
IsByInput Session why = session.IsByInput why
IsByInput Copies why = ⊥

-- it leaves the file
abbrev pub Keeps : Command → ℕ → Type 0
Keeps command file = MayChange command file → ⊥

-- the bytes of the input, where they are known
abbrev pub input_of : World → List ℕ
input_of w = unwrap_or w.input.left []

-- no refusal has a cause
abbrev pub NeverRefused : Refusal → Type 0
NeverRefused why = ⊥

-- why a run of the command in this world is refused
abbrev pub Causes : Command → World → Refusal → Type 0
Causes (Drill l) w = DamageCauses l (input_of w)
Causes (Create shape) w = CreateCauses (w.disk.files 0)
Causes Stat w = OpeningCauses (w.disk.files 0)
Causes command.List w = OpeningCauses (w.disk.files 0)
Causes (Put name) w = PutCauses name w.disk.files (input_of w)
Causes Ingest w = IngestCauses w.disk.files (input_of w)
Causes (Get name) w = GetCauses name w.disk.files
Causes (Fetch name) w = FetchCauses name w.disk.files
Causes Fence w = FenceCauses (w.disk.files 0)
Causes Upgrade w = UpgradeCauses (w.disk.files 0)
Causes Scrub w = OpeningCauses (w.disk.files 0)
Causes Repair w = OpeningCauses (w.disk.files 0)
Causes (Explain word) w = ExplainCauses word (w.disk.files 0)
Causes Verify w = VerifyCauses (w.disk.files 0) (input_of w)
Causes (Rehearse number nodes permille) w = NeverRefused
Causes Sites w = OpeningCauses (w.disk.files 0)
Causes Session w = SessionCauses w.disk.files (input_of w)
Causes Copies w = CopiesCauses (w.disk.files 0) w.disk.lent.set

-- the disk has space for all that a run of the command writes, and to sync
abbrev pub FitsDisk : Command → World → Type 0
FitsDisk (Drill l) w = Unit {0}
FitsDisk (Create shape) w = FitsMaking w.disk shape
FitsDisk Stat w = IsRoomy w.disk
FitsDisk command.List w = IsRoomy w.disk
FitsDisk (Put name) w = FitsPutUnlessRefused name w.reveals w.input.left w.disk
FitsDisk Ingest w = FitsIngest w.reveals w.input.left w.disk
FitsDisk (Get name) w = IsRoomy w.disk
FitsDisk (Fetch name) w = IsRoomy w.disk
FitsDisk Fence w = FitsRecord next_fence w.reveals w.disk
FitsDisk Upgrade w = FitsRecord next_raise w.reveals w.disk
FitsDisk Scrub w = IsRoomy w.disk
FitsDisk Repair w = FitsRepair w.reveals w.disk
FitsDisk (Explain word) w = IsRoomy w.disk
FitsDisk Verify w = IsRoomy w.disk
FitsDisk (Rehearse number nodes permille) w = Unit {0}
FitsDisk Sites w = IsRoomy w.disk
FitsDisk Session w = FitsSession w.reveals w.input.left w.disk
FitsDisk Copies w = FitsBeginning w.disk

-- no reason for a refusal of the command holds
abbrev pub IsUnrefused : Command → World → Type 0
IsUnrefused command w = (why : Refusal) → Causes command w why → ⊥

-- the output has space for all that a run of the command prints
abbrev pub FitsOutput : Command → World → Type 0
FitsOutput (Drill l) w = (text : List ℕ) (status : Status) → IsOutcome l (input_of w) text status → FitsText w.out text
FitsOutput (Create shape) w = IsUnrefused (Create shape) w → FitsText w.out (created_line shape)
FitsOutput Stat w = (text : List ℕ) → IsStatOf (w.disk.files 0) text → FitsText w.out text
FitsOutput command.List w = (text : List ℕ) → IsListOf (w.disk.files 0) text → FitsText w.out text
FitsOutput (Put name) w = IsUnrefused (Put name) w → (shape : Shape) (records : List Record) → HasLedger shape records (w.disk.files 0) → FitsText w.out (stored_line shape (object_of name (input_of w)))
FitsOutput Ingest w = FitsLines w.disk.files (input_of w) w.out
FitsOutput (Get name) w = (shape : Shape) (records : List Record) (p : Placed) → HasObject w.disk.files name shape records p → FitsBytes w.out p.object.length
FitsOutput (Fetch name) w = (shape : Shape) (records : List Record) (p : Placed) → HasObject w.disk.files name shape records p → FitsBytes w.out p.object.length
FitsOutput Fence w = IsUnrefused Fence w → (shape : Shape) (records : List Record) → HasLedger shape records (w.disk.files 0) → FitsText w.out (fence_line (nodes_of records))
FitsOutput Upgrade w = IsUnrefused Upgrade w → FitsText w.out upgraded_line
FitsOutput Scrub w = (l : Lattice) (intact : BlockId → Bool) → RevealsIntact w.disk.files l intact → FitsText w.out (scrub_text l intact)
FitsOutput Repair w = (text : List ℕ) → IsRepairText w.disk.files text → FitsText w.out text
FitsOutput (Explain word) w = (text : List ℕ) → IsExplanationText w.disk.files word text → FitsText w.out text
FitsOutput Verify w = (text : List ℕ) → IsVerdictText w.disk.files (input_of w) text → FitsText w.out text
FitsOutput (Rehearse number nodes permille) w = (r : Rehearsal) → IsRehearsalOf number nodes permille r → FitsText w.out (rehearsal_line nodes r)
FitsOutput Sites w = (text : List ℕ) → AreFirstLines (w.disk.files 0) text → FitsText w.out text
FitsOutput Session w = FitsReplies w.disk.files (input_of w) w.out
FitsOutput Copies w = IsUnrefused Copies w → FitsText w.out copies_line

-- what a run of the command did
abbrev pub Does : Command → World → World → Answer → Type 0
Does (Drill l) old new answer = Drills l old.input new.input old.out new.out answer
Does (Create shape) old new answer = Creates shape old.reveals old.disk new.disk old.out new.out answer
Does Stat old new answer = Stats old.reveals old.disk new.disk old.out new.out answer
Does command.List old new answer = ListsObjects old.reveals old.disk new.disk old.out new.out answer
Does (Put name) old new answer = Puts name old.reveals old.disk new.disk old.input.left new.input.left old.out new.out answer
Does Ingest old new answer = Ingests old.reveals old.disk new.disk old.input.left new.input.left old.out new.out answer
Does (Get name) old new answer = GetsNamed name old.reveals old.disk new.disk old.out new.out answer
Does (Fetch name) old new answer = FetchesNamed name old.reveals old.disk new.disk old.out new.out answer
Does Fence old new answer = Fences old.reveals old.disk new.disk old.out new.out answer
Does Upgrade old new answer = Upgrades old.reveals old.disk new.disk old.out new.out answer
Does Scrub old new answer = Scrubs old.reveals old.disk new.disk old.out new.out answer
Does Repair old new answer = RepairsArchive old.reveals old.disk new.disk old.out new.out answer
Does (Explain word) old new answer = ExplainsOrNot word old.reveals old.disk new.disk old.out new.out answer
Does Verify old new answer = Verifies old.reveals old.disk new.disk old.input new.input old.out new.out answer
Does (Rehearse number nodes permille) old new answer = Rehearses number nodes permille old.out new.out answer
Does Sites old new answer = SumsUpSites old.reveals old.disk new.disk old.out new.out answer
Does Session old new answer = Sessions old.reveals old.disk new.disk old.input.left new.input.left old.out new.out answer
Does Copies old new answer = Begins old.reveals old.disk new.disk old.out new.out answer

-- where the intact blocks are honest no digests clash: of a repair and of a fetch for some data list that the ledger records,
-- and no other command compares digests that it computes
abbrev pub IsHonest : Command → World → Type 0
IsHonest (Fetch name) w = HasHonestSurvivors w.disk.files
IsHonest Repair w = HasHonestSurvivors w.disk.files
IsHonest command w = Unit {0}

-- a run of the command prints before it has met all reasons for refusal: where the output fails first, it ends by that
abbrev pub PrintsEarly : Command → Type 0
PrintsEarly Ingest = Unit {0}
PrintsEarly Session = Unit {0}
PrintsEarly command = ⊥

-- what decides this refusal of the command is known: of the disk, if it uses it, and of the input, if that is a part of it
abbrev pub IsRevealedFor : Command → World → Refusal → Type 0
IsRevealedFor command w why = IsDecided (UsesDisk command → w.reveals) (IsSome w.input.left) (IsByInput command) why

-- the contents of what the command uses of the disk and of the input are known
pub record IsRevealed (command : Command) (w : World) : Type 0 where
  pub disk : UsesDisk command → w.reveals
  pub input : ReadsInput command → IsSome w.input.left

-- Of a run of the command, whichever it is:
pub record Runs (command : Command) (old new : World) (answer : Answer) : Type 0 where
  -- what it did
  pub does : Does command old new answer
  -- when it is refused
  pub refuses : (PrintsEarly command → answer ≢ Err failure.Output) → RefusesBy (IsRevealedFor command old) (Causes command old) answer
  -- it does not fail where there is space, on a disk that is ready and whose contents are known
  pub disk_fits : old.reveals → IsReady old.disk → FitsDisk command old → answer ≢ Err failure.Disk
  pub output_fits : IsRevealed command old → FitsOutput command old → answer ≢ Err failure.Output
  -- no digests clash where the intact blocks are honest
  pub honest : (UsesDisk command → old.reveals) → IsHonest command old → NeverClashes answer
  -- the files that it may not change stay; and from the moment at which its first sync has succeeded every image has each
  -- of them as it read before
  pub stays : KeepsWhere old.reveals (Keeps command) old.disk new.disk
  pub opens : old.reveals → HasOpening old.disk new.disk (KeepsFiles (Keeps command) old.disk.files)
