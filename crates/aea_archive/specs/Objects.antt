-- The data blocks of an object in its parts, payloads of blocks, whatever a payload is, and the bytes that they are.
use Rattle.std.specs.Prelude.{◌≡◌, ℕ, zero, suc, List, [], ◌∷◌, ◌++◌, take, All, Option, None, Some}
use Rattle.std.specs.List.{flat_map}
use Rattle.aea_lattice.specs.declared.blocks.BlockId.{BlockId}
use Rattle.aea_lattice.specs.declared.blocks.Class.TheVariants.{Datum}
use Rattle.aea_lattice.specs.Blocks.{block_of}
use Rattle.aea_catalog.specs.declared.objects.Extent.{Extent}
use Rattle.aea_catalog.specs.Catalogs.{Placed}
use Rattle.aea_records.specs.Recorded.{blocks_in}

-- the data blocks of so many nodes from this one on, in order
abbrev pub data_from : ℕ → ℕ → List BlockId
data_from first zero = []
data_from first (suc n) = block_of first Datum ∷ data_from (suc first) n

-- the data blocks of a part
abbrev pub data_in : Extent → List BlockId
data_in e = data_from e.first e.count

-- those of several parts, one part after the other
abbrev pub data_of : List Extent → List BlockId
data_of parts = flat_map data_in parts

-- the parts of what is under a name, and their data blocks: none where nothing is
abbrev pub parts_under : Option Placed → List Extent
parts_under None = []
parts_under (Some p) = p.parts

abbrev pub data_under : Option Placed → List BlockId
data_under placed = data_of (parts_under placed)

-- payloads of the blocks, one of each, in order, where `has b p` says that p is a payload of b
abbrev pub ArePayloads : (BlockId → List ℕ → Type 0) → List BlockId → List (List ℕ) → Type 0
ArePayloads has [] [] = Unit {0}
ArePayloads has [] (p ∷ ps) = ⊥
ArePayloads has (b ∷ bs) [] = ⊥
ArePayloads has (b ∷ bs) (p ∷ ps) = has b p × ArePayloads has bs ps

-- payloads one after the other
abbrev pub joined : List (List ℕ) → List ℕ
joined payloads = flat_map (λ p. p) payloads

-- the bytes of an object in a data list: its blocks there, one after the other, cut to its length
abbrev pub object_in : Placed → List (List ℕ) → List ℕ
object_in p datas = take p.object.length (joined (blocks_in p.parts datas))

-- the block is one of these
pub record IsOneOf (blocks : List BlockId) (b : BlockId) : Type 0 where
  pub before : List BlockId
  pub after : List BlockId
  pub are : blocks ≡ before ++ b ∷ after

-- the first one of the blocks that is not good, whatever good is
pub record IsFirstWithout (good : BlockId → Type 0) (blocks : List BlockId) (b : BlockId) : Type 0 where
  pub before : List BlockId
  pub after : List BlockId
  pub are : blocks ≡ before ++ b ∷ after
  pub good_before : All good before
  pub bad : good b → ⊥

-- some of the blocks, from the first one on
pub record IsFront (front blocks : List BlockId) : Type 0 where
  pub after : List BlockId
  pub are : blocks ≡ front ++ after
