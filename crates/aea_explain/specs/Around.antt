-- What a search leaves that has gone around one block. No public contract cites it.
use Rattle.std.specs.Prelude.{◌≡◌, ◌≢◌, ◌↔◌, true, false, []}
use Rattle.aea_lattice.specs.declared.blocks.BlockId.{BlockId}
use Rattle.aea_lattice.specs.Blocks.{HasBlock}
use Rattle.aea_view.specs.Marked.{is_marked}
use Rattle.aea_disk.specs.Files.{Files}
use Rattle.aea_ledger.specs.Values.{Opened}
use Rattle.aea_archive.specs.Blocks.{IsIntactBy}
use Rattle.aea_search.specs.Searches.{Searched}

-- The block was taken as unknown, and no unknown block waits. Where the contents of the disk are known, each other block that
-- was read is unknown exactly where it is not intact.
pub record IsAround (reveals : Type 0) (v : Opened) (c : Files) (b : BlockId) (s : Searched) : Type 0 where
  pub lattice : s.read.lattice ≡ v.lattice
  pub done : s.waiting ≡ []
  pub unknown : is_marked s.unknown b ≡ true
  pub revealed : reveals → (d : BlockId) → HasBlock v.lattice d → d ≢ b → is_marked s.read d ≡ true
      → (is_marked s.unknown d ≡ false) ↔ IsIntactBy v.shape v.digests c d
