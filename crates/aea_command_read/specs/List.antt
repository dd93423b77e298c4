-- What `list` does: the lines of the objects.
use Rattle.std.specs.Prelude.{◌≡◌, ◌⊎◌, ℕ, List, ◌++◌, codes, decimal, Result, Ok, Err, IfOk, IfErr, OnOk}
use Rattle.std.specs.List.{flat_map}
use Rattle.std.specs.FinMap.{entries}
use Rattle.hex.specs.Hex.{encode_lower}
use Rattle.aea_io.specs.Streams.{SinkState}
use Rattle.aea_disk.specs.State.{State}
use Rattle.aea_catalog.specs.declared.objects.ObjectRef.{ObjectRef}
use Rattle.aea_catalog.specs.Catalogs.{Objects, named_object}
use Rattle.aea_records.specs.Catalogued.{objects_of}
use Rattle.aea_records.specs.Format.{Record}
use Rattle.aea_records.specs.Grammar.{IsLedger}
use Rattle.aea_lattice.specs.declared.shape.Shape.{Shape}
use Rattle.aea_ledger.specs.Values.{Opened, HasRecords}
use Rattle.aea_command.specs.declared.refusal.Failure.{Failure}
use Rattle.aea_command.specs.declared.refusal.Failure.TheVariants as failure
use Rattle.aea_command.specs.declared.status.Status.TheVariants.{Done}
use Rattle.aea_command.specs.Failures.{Answer}
use Rattle.aea_command.specs.Lines.{newline}
use Rattle.aea_command.specs.Openings.{Opens}
use Rattle.aea_command.specs.Printed.{PrintsText}

-- `LENGTH DIGEST NAME`
abbrev pub object_line : List ℕ × ObjectRef → List ℕ
object_line e = decimal e.1.length ++ (codes " " ++ (encode_lower e.1.digest ++ (codes " " ++ (e.0 ++ newline))))

-- a line for each object, in the order of the names' bytes
abbrev pub list_text : Objects → List ℕ
list_text objects = flat_map (λ e. object_line (named_object e)) (entries objects)

-- the bytes are a ledger, and the text has the lines of its objects
pub record IsListOf (bytes text : List ℕ) : Type 0 where
  pub shape : Shape
  pub records : List Record
  pub end : ℕ
  pub ledger : IsLedger bytes shape records end
  pub lines : text ≡ list_text (objects_of records)

-- Of a run that prints the objects of the archive, with the disk and `out` before and after it, and its answer:
pub record ListsObjects (reveals : Type 0) (old new : State) (before after : SinkState) (answer : Answer) : Type 0 where
  -- the archive is opened, and nothing more is done to the disk
  pub opening : Result Opened Failure
  pub opens : Opens reveals old new opening
  -- where it is not opened, that is the answer
  pub unopened : IfErr opening (λ f. (answer ≡ Err f) × (after ≡ before))
  -- where it is, the lines of its objects are printed, unless the output fails
  pub kinds : OnOk opening ((answer ≡ Ok Done) ⊎ (answer ≡ Err failure.Output))
  pub prints : IfOk opening (λ v. (records : List Record) → HasRecords v records → PrintsText before after answer (list_text (objects_of records)))
