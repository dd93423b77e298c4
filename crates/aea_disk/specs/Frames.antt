-- The frames of contracts: what calls that only read, or that change the files by one step alone, leave of all else, and
-- when they fail.
use Rattle.std.specs.Prelude.{◌≡◌, ◌⊎◌, ◌≤◌}
use Rattle.aea_faults.specs.Faults.{Rose}
use Rattle.aea_disk.specs.Files.{Files}
use Rattle.aea_disk.specs.State.{State, Passes, Follows, KeepsImages, HasEarlier, IsReady, IsRoomy, KeepsTaking, NeverFails}

-- Of calls that only read: the contents and what a crash leaves stay; where some image is of a moment of the calls, some
-- image is of each earlier one; and a fault has its cause, the count rose, where without a fault the count is what it was.
-- Where the disk's contents are known and it is ready, a fault comes only where the count beneath rose, and none comes where the
-- disk has space to sync; and calls without a fault leave what the disk takes.
pub record OnlyReads (reveals fault : Type 0) (old new : State) : Type 0 where
  pub contents : reveals → new.files ≡ old.files
  pub crash : KeepsImages old new
  pub time : Passes old new
  pub earlier : HasEarlier old new
  pub kept : old.faults ≤ new.faults
  pub cause : fault → Rose old.faults new.faults
  pub still : (fault → ⊥) → new.faults ≡ old.faults
  pub sure : reveals → IsReady old → NeverFails (IsRoomy old) (fault → ⊥) old new
  pub beneath : reveals → IsReady old → fault → Rose old.beneath new.beneath
  pub goes : reveals → IsReady old → IsRoomy old ⊎ (Rose old.beneath new.beneath → ⊥) → KeepsTaking old new

-- Of calls that change the files by this step alone, whatever they return: so do the files as they read, and each image of
-- a moment of the calls is an image from before them, after the step. A fault has its cause, the count rose, where without a
-- fault the count is what it was. Where the disk's contents are known and it takes the calls, a fault comes only where the count
-- beneath rose, and none comes where the calls fit; and calls without a fault leave what the disk takes.
pub record OnlyWrites (reveals taken fits fault : Type 0) (step : Files → Files → Type 0) (old new : State) : Type 0 where
  pub contents : reveals → step old.files new.files
  pub crash : Follows step old new
  pub time : Passes old new
  pub earlier : HasEarlier old new
  pub kept : old.faults ≤ new.faults
  pub cause : fault → Rose old.faults new.faults
  pub still : (fault → ⊥) → new.faults ≡ old.faults
  pub sure : reveals → taken → NeverFails fits (fault → ⊥) old new
  pub beneath : reveals → taken → fault → Rose old.beneath new.beneath
  pub goes : reveals → taken → fits ⊎ (Rose old.beneath new.beneath → ⊥) → KeepsTaking old new
