-- A site that is lost, and an archive that is repaired after it.
use Rattle.std.specs.Prelude.{◌≡◌, ℕ, List, []}
use Rattle.aea_lattice.specs.declared.blocks.Class.TheVariants.{Datum}
use Rattle.aea_lattice.specs.Blocks.{block_of}
use Rattle.aea_disk.specs.Files.{Files, ChangesFile}
use Rattle.aea_ledger.specs.Values.{Opened}
use Rattle.aea_archive.specs.Blocks.{IsIntactBy}
use Rattle.aea_archive.specs.Data.{AreSurvivorsHonest, IsDamagePlain}
use Rattle.aea_archive.specs.Next.{NewObject}
use Rattle.aea_repair.specs.declared.outcome.Outcome.{Outcome}
use Rattle.aea_fetch.specs.Puts.{datas_of}
use Rattle.aea_rehearse.specs.Altered.{IsMended}
use Rattle.aea_witness.specs.Objects.{HasPuts}

-- the site is lost: its file has no bytes any more, and each other file is as it was
abbrev pub LosesSite : ℕ → Files → Files → Type 0
LosesSite site old new = ChangesFile site (λ before after. after ≡ []) old new

-- The first site was lost, and so the datum of the first node; the survivors were honest for the data list of the objects that
-- were put, and the damage was plain; the archive was repaired, with these bytes as its report; and all is there again.
pub record IsLostAndMended (v : Opened) (puts : List NewObject) (report : List ℕ) (old new : Files) (o : Outcome) : Type 0 where
  pub lost : Files
  pub loses : LosesSite 1 old lost
  pub damaged : IsIntactBy v.shape v.digests lost (block_of 1 Datum) → ⊥
  pub honest : AreSurvivorsHonest v.shape v.lattice v.digests (datas_of v.shape puts) lost
  pub plain : IsDamagePlain v.shape v.lattice v.digests lost
  pub mended : IsMended v report lost new o
  pub again : HasPuts v puts new
