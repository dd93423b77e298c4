-- Copies that were adopted are no fault of the disk.
use Rattle.std.proofs.Common.{◌≡◌, Result, Ok, Err}
use Rattle.aea_adopt.specs.declared.answers.Adopted.{Adopted}
use Rattle.aea_adopt.specs.declared.answers.AdoptFault.{AdoptFault}
use Rattle.aea_adopt.specs.declared.answers.AdoptFault.TheVariants.{DiskFault}

-- an answer that is Ok is not that the disk failed: who cites a clause for the runs that adopted copies shows its premise so
pub adopted_not : (a : Adopted) → (let r : Result Adopted AdoptFault = Ok a in r ≡ Err DiskFault) → ⊥
adopted_not a e = cc
