-- “Records”: the blocks of a data list that an object is made of.
use Rattle.std.specs.Prelude.{◌≡◌, ◌≤◌, ℕ, ◌-◌, List, length, take, drop, replicate, All}
use Rattle.std.specs.List.{flat_map}
use Rattle.sha2.specs.Sha256.{sha256}
use Rattle.aea_catalog.specs.declared.objects.Extent.{Extent}
use Rattle.aea_records.specs.Format.{Stored, Record, Object, Joined, Fence, Raise, own_parts}

-- the blocks of a data list that the parts have, in their order
abbrev pub blocks_in : List Extent → List (List ℕ) → List (List ℕ)
blocks_in parts datas = flat_map (λ e. take e.count (drop (e.first - 1) datas)) parts

-- Its parts of the data list contain the bytes of an object that has its length and digest, and then zeros.
pub record HoldsObject (datas : List (List ℕ)) (o : Stored) (parts : List Extent) : Type 0 where
  pub bytes : List ℕ
  pub long : length bytes ≡ o.size
  pub digest : sha256 bytes ≡ o.digest
  pub within : length bytes ≤ length (flat_map (λ d. d) (blocks_in parts datas))
  pub front : take (length bytes) (flat_map (λ d. d) (blocks_in parts datas)) ≡ bytes
  pub zeros : drop (length bytes) (flat_map (λ d. d) (blocks_in parts datas))
      ≡ replicate (length (flat_map (λ d. d) (blocks_in parts datas)) - length bytes) 0

-- the data list holds the object of the record, if it is of one
abbrev pub HoldsRecord : List (List ℕ) → Record → Type 0
HoldsRecord datas (Object o) = HoldsObject datas o (own_parts o)
HoldsRecord datas (Joined o parts) = HoldsObject datas o parts
HoldsRecord datas (Fence node) = Unit {0}
HoldsRecord datas Raise = Unit {0}

-- it holds the objects of all records
abbrev pub HoldsRecords : List (List ℕ) → List Record → Type 0
HoldsRecords datas records = All (HoldsRecord datas) records
