-- All that `adopt` promises of a call.
use Rattle.std.specs.Prelude.{◌≡◌, ◌≢◌, Result, Err, IfOk}
use Rattle.aea_disk.specs.Files.{KeepsFiles}
use Rattle.aea_disk.specs.Frames.{OnlyWrites}
use Rattle.aea_disk.specs.State.{State, KeepsImages, IsSynced}
use Rattle.aea_copies.specs.Kept.{LeavesAdopted}
use Rattle.aea_ledger.specs.Stops.{HasOpening, IsOpened}
use Rattle.aea_adopt.specs.Adopting.{IsAdopted, IsAnswered, IsTrueOf, AreNear, IsSite, MayBeAdopted}
use Rattle.aea_adopt.specs.Mending.{FitsAdopting}
use Rattle.aea_adopt.specs.declared.answers.Adopted.{Adopted}
use Rattle.aea_adopt.specs.declared.answers.AdoptFault.{AdoptFault}
use Rattle.aea_adopt.specs.declared.answers.AdoptFault.TheVariants.{DiskFault}

-- Of a call, with the disk before and after it, and its answer: the clauses of `adopt`, in its order.
pub record Adopts (reveals : Type 0) (old new : State) (result : Result Adopted AdoptFault) : Type 0 where
  pub answers : reveals → IsAdopted old.files new.files result
  pub revealed : IfOk result (λ a. reveals → IsTrueOf new.files a)
  pub near : IfOk result AreNear
  pub exactly : reveals → IsAnswered old.files result
  pub idle : reveals → LeavesAdopted old.files old.files → KeepsImages old new × (new.files ≡ old.files)
  pub stops : reveals → HasOpening old new (λ c. MayBeAdopted old.files c)
  pub opened : result ≢ Err DiskFault → reveals → IsOpened old new (λ c. MayBeAdopted old.files c)
  pub synced : result ≢ Err DiskFault → reveals → IsSynced new
  pub writes : OnlyWrites reveals old.free (FitsAdopting old) (result ≡ Err DiskFault) (KeepsFiles IsSite) old new
