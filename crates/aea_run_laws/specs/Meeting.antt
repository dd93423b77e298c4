-- Runs over these archives that meet all that is asked of a run over a disk, an input and an output that do not fail.
use Rattle.std.specs.Prelude.{◌≡◌, ◌<◌, ◌≤◌, ◌+◌, ◌-◌, ℕ, List, length, vec_len}
use Rattle.aea_lattice.specs.declared.blocks.BlockId.{BlockId}
use Rattle.aea_lattice.specs.declared.grid.Lattice.{Lattice}
use Rattle.aea_lattice.specs.declared.shape.Shape.{Shape}
use Rattle.aea_lattice.specs.Blocks.{HasBlock}
use Rattle.aea_lattice.specs.Texts.{text_of}
use Rattle.aea_disk.specs.Files.{Files}
use Rattle.aea_disk.specs.Log.{Log}
use Rattle.aea_disk.specs.Spaces.{Memory, files_of, room_of}
use Rattle.aea_io.specs.declared.sure.SureSink.{SureSink}
use Rattle.aea_records.specs.Format.{Stored}
use Rattle.aea_archive.specs.Next.{NewObject}
use Rattle.aea_command.specs.declared.refusal.Refusal.{Refusal}
use Rattle.aea_command_loss.specs.Repair.{IsRepairText}
use Rattle.aea_dispatch.specs.declared.command.Command.{Command}
use Rattle.aea_dispatch.specs.declared.command.Command.TheVariants.{Get, Fetch, Scrub, Explain, Repair, Fence, Upgrade, Verify}
use Rattle.aea_cli.specs.Beneath.{RunCauses, FitsOutputRun, IsHonestRun}
use Rattle.aea_cli.specs.Surely.{sure_world, FitsSurely}
use Rattle.aea_run_laws.specs.Logs.{HasOneImage}
use Rattle.aea_run_laws.specs.Standing.{IsOneBlock, HasTheObject, HasLostSite}

-- A disk in memory of 67 files that read so, each with space for so many bytes, of which no call has failed.
pub record HasFiles (c : Files) (room : ℕ) (m : Memory) : Type 0 where
  pub count : length m.spaces ≡ 67
  pub files : (f : ℕ) → files_of m.spaces f ≡ c f
  pub rooms : (f : ℕ) → f < 67 → room_of m.spaces f ≡ room
  pub steady : m.faults ≡ 0

-- Of a run of the command over this disk, this input and this output: there is space for all that it writes and prints, the intact blocks
-- are honest where that makes a difference, and no refusal has a cause. These are the premises of the completeness of `run_surely`.
pub record IsMet (command : Command) (m : Memory) (input : List ℕ) (out : SureSink) : Type 0 where
  pub fits : FitsSurely command m input out
  pub prints : FitsOutputRun command (sure_world m input out)
  pub honest : IsHonestRun command (sure_world m input out)
  pub unrefused : (why : Refusal) → RunCauses command (sure_world m input out) why → ⊥

-- the output has space left for so many bytes
abbrev pub HasLeft : ℕ → SureSink → Type 0
HasLeft n out = n ≤ out.room - vec_len out.bytes

-- On each disk in memory that reads so, with at least so much space for each file, and each output with space left for so many bytes, a
-- run of the command over this input meets all that is asked.
abbrev pub Meets : Files → (space prints : ℕ) → Command → List ℕ → Type 0
Meets c space prints command input =
    (room : ℕ) (m : Memory) (out : SureSink) → space ≤ room → HasFiles c room m → HasLeft prints out → IsMet command m input out

-- Runs over an archive with the object alone, which reads as c, and over the same with a lost site, which reads as d. A repair needs space
-- for the one cell that it writes; a fence, and a raise of the limit, for ten bytes more than the ledger has; a run that only reads needs
-- none. The numbers of bytes that are printed are those of the texts; of an explanation it is the most that one may have.
pub record AreMet (l : Lattice) (o : NewObject) (c d : Files) (input : List ℕ) : Type 0 where
  pub get : Meets c 0 (length o.bytes) (Get o.name) input
  pub fetch : Meets d 0 (length o.bytes) (Fetch o.name) input
  pub scrub : Meets d 0 29 Scrub input
  pub explain : (b : BlockId) → HasBlock l b → Meets d 0 24 (Explain (text_of b)) input
  pub repair : Meets d 560 126 Repair input
  pub fence : Meets c (length (c 0) + 10) 8 Fence input
  pub upgrade : Meets c (length (c 0) + 10) 17 Upgrade input

-- the text is the report that a repair of these files prints, and over that input `verify` meets all that is asked where they are whole
pub record IsReportMet (c d : Files) (report : List ℕ) : Type 0 where
  pub is : IsRepairText d report
  pub verify : Meets c 0 9 Verify report

-- Of each object of one block there are such an archive and the same with a lost site. Each is on a disk that lists its calls, with one
-- image, and on disks in memory with space for as many bytes of each file as is wanted; and over these, runs meet all that is asked,
-- whatever the input is, and of `verify` for a report.
abbrev pub RunsAreMet : Type 0
RunsAreMet =
    (o : NewObject) → IsOneBlock o
    → (shape : Shape) × (l : Lattice) × (r : Stored) × (c : Files) × (d : Files) × HasTheObject shape l r o c × HasLostSite shape l r o c d
    × (g : Log) × (h : Log) × HasOneImage c g × HasOneImage d h
    × ((room : ℕ) → (m : Memory) × (n : Memory) × HasFiles c room m × HasFiles d room n)
    × ((input : List ℕ) → AreMet l o c d input)
    × (report : List ℕ) × IsReportMet c d report
