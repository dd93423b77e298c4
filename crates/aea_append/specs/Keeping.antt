-- Heads that are kept from one object to the next.
use Rattle.std.specs.Prelude.{◌≡◌, ⊤, [], Option, None, Some}
use Rattle.aea_disk.specs.Files.{Files}
use Rattle.aea_weave.specs.Woven.{Woven}
use Rattle.aea_ledger.specs.Values.{Opened}
use Rattle.aea_append.specs.Weaving.{HasWoven}

-- The heads are those by which the next node of an opened ledger is woven, as if they were loaded now: they are of its lattice and
-- of its blocks' size, and they go on from its last parities, which have the recorded digests and, where the disk's contents are
-- known, are at their homes.
pub record AreLastHeads (reveals : Type 0) (v : Opened) (files : Files) (heads : Woven) : Type 0 where
  pub lattice : heads.lattice ≡ v.lattice
  pub size : heads.size ≡ v.shape.block
  pub woven : HasWoven reveals v.shape v.lattice v.digests files files heads [] []

-- what is kept: nothing, or these heads
abbrev pub HasKeptHeads : Type 0 → Opened → Files → Option Woven → Type 0
HasKeptHeads reveals v files None = ⊤
HasKeptHeads reveals v files (Some heads) = AreLastHeads reveals v files heads
