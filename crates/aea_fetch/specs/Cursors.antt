-- The data blocks of an object that are still to come.
use Rattle.std.specs.Prelude.{ℕ, List, ◌++◌, drop, Option}
use Rattle.aea_lattice.specs.declared.blocks.BlockId.{BlockId}
use Rattle.aea_catalog.specs.declared.objects.Extent.{Extent}
use Rattle.aea_catalog.specs.Catalogs.{Placed}
use Rattle.aea_archive.specs.Objects.{data_in, data_of, parts_under}

-- those of what is left of a part that was begun, and of the parts from a place on
abbrev pub data_left : Option Placed → Extent → ℕ → List BlockId
data_left placed begun place = data_in begun ++ data_of (drop place (parts_under placed))
