-- What the witness shows: that all that is asked of an archive which is repaired, and of which an object is got, can be met.
use Rattle.std.specs.Prelude.{◌≡◌, ℕ, List, [], ◌∷◌, length}
use Rattle.aea_disk.specs.Files.{Files}
use Rattle.aea_ledger.specs.Values.{Opened}
use Rattle.aea_archive.specs.Next.{NewObject}
use Rattle.aea_repair.specs.declared.outcome.Outcome.{Outcome}
use Rattle.aea_append.specs.Frames.{EndsInside}
use Rattle.aea_witness.specs.Objects.{first_object, second_object, third_object, cut_frame, witness_stream, HasPuts}
use Rattle.aea_witness.specs.Losses.{IsLostAndMended}

-- the objects that are put, in order
abbrev pub witness_objects : List NewObject
witness_objects = first_object ∷ second_object ∷ third_object ∷ []

-- The archive has the objects; what is left of the stream after the frame of the third ends inside a frame; and all of the
-- stream was taken, so many bytes.
pub record IsFilled (v : Opened) (c : Files) (at : ℕ) : Type 0 where
  pub puts : HasPuts v witness_objects c
  pub cut : EndsInside v cut_frame
  pub taken : at ≡ length witness_stream

-- An archive was made, two objects were put into it, and a stream was ingested from which a third one was put, and which ended
-- inside the frame of a fourth, after so many bytes; its first site was lost, and it was repaired, with this report; and what was
-- got of the first object, whose datum was lost, is what was put.
pub record IsWitnessed (at : ℕ) (report got : List ℕ) (c : Files) (o : Outcome) : Type 0 where
  pub opened : Opened
  pub whole : Files
  pub filled : IsFilled opened whole at
  pub mended : IsLostAndMended opened witness_objects report whole c o
  pub bytes : got ≡ first_object.bytes
