-- Pieces are kept: what a stop leaves meanwhile, and what is there at the end.
use Rattle.std.specs.Prelude.{◌≡◌, ◌≤◌, ℕ, List}
use Rattle.aea_disk.specs.Files.{Files}
use Rattle.aea_disk.specs.State.{State}
use Rattle.aea_copies.specs.Format.{text_of}
use Rattle.aea_copies.specs.Kept.{IsCopyFile, IsGood, mended}
use Rattle.aea_copy_reader.specs.Judging.{IsJudged}
use Rattle.aea_copy_reader.specs.declared.known.Judgement.{Judgement}
use Rattle.aea_adopt.specs.declared.choice.Kept.{Kept}
use Rattle.aea_adopt.specs.Choosing.{IsKept}
use Rattle.aea_adopt.specs.Mending.{MayBeMended, MayBeRenewed, FitsAdopting}

-- these pieces are kept, and both copies are as they were judged
pub record IsKnown (files : Files) (pieces : List (List ℕ)) (j : Judgement) (k : Kept) : Type 0 where
  pub kept : IsKept files pieces k
  pub first : IsJudged files 65 j.first
  pub second : IsJudged files 66 j.second

-- What a stop may leave: the sites stay; each copy is as it was, or not begun, or whole, and one is good with the pieces; and
-- of the ledger what may be left of it.
pub record MayBeKept (pieces : List (List ℕ)) (old new : Files) : Type 0 where
  pub sites : (f : ℕ) → 1 ≤ f → f ≤ 64 → new f ≡ old f
  pub copies : (f : ℕ) → IsCopyFile f → MayBeRenewed pieces (old f) (new f)
  pub good : (f : ℕ) × IsCopyFile f × IsGood pieces (new f)
  pub ledger : MayBeMended (text_of pieces) (old 0) (new 0)

-- what is there at the end
pub record AllKept (pieces : List (List ℕ)) (old new : Files) : Type 0 where
  pub ledger : new 0 ≡ mended (text_of pieces) (old 0)
  pub copies : (f : ℕ) → IsCopyFile f → IsGood pieces (new f)
  pub others : (f : ℕ) → 1 ≤ f → f ≤ 64 → new f ≡ old f

-- pieces are kept, and the disk has space to adopt them
pub record FitsKeeping (s : State) (j : Judgement) (k : Kept) : Type 0 where
  pub pieces : List (List ℕ)
  pub known : IsKnown s.files pieces j k
  pub fit : FitsAdopting s
