-- How a catalogue is kept: its entries in the order in which they came, and the indices of these in the order of the
-- names' bytes, in pieces (`Pieces.antt`).
use Rattle.std.specs.Prelude.{◌≡◌, ℕ, ◌+◌, ◌-◌, ◌^◌, ◌<◌, ◌≤◌, List, [], ◌∷◌, map, min, length, slice_index_or, IsTrue, All}
use Rattle.std.specs.Ordering.{nat_cmp}
use Rattle.std.specs.Cmp.Lexicographic.{slice_cmp}
use Rattle.std.specs.declared.cmp.Ordering.{Ordering}
use Rattle.std.specs.declared.cmp.Ordering.TheVariants.{Less}
use Rattle.std.specs.FinMap.{is_sorted}
use Rattle.aea_catalog.specs.declared.objects.ObjectRef.{ObjectRef}
use Rattle.aea_catalog.specs.declared.objects.Extent.{Extent}
use Rattle.aea_catalog.specs.Names.{IsName}
use Rattle.aea_catalog.specs.declared.order.Place.{Place}
use Rattle.aea_catalog.specs.Catalogs.{Placed, own_range}
use Rattle.aea_catalog.specs.Pieces.{joined, before_piece, place_in, IsIn, IsWithin}

-- a name, and its object with its parts
abbrev pub Pair : Type 0
Pair = List ℕ × Placed

-- the parts of an object for which these are kept: none are kept where its range is its one part
abbrev pub parts_of : ObjectRef → List Extent → List Extent
parts_of o [] = own_range o
parts_of o (e ∷ parts) = e ∷ parts

-- the order of names: by their bytes, the first that differs, and a name before those that it begins
abbrev pub name_cmp : List ℕ → List ℕ → Ordering
name_cmp = slice_cmp nat_cmp

-- stands in where there is no entry
abbrev pub no_pair : Pair
no_pair = ([], record { object = record { first = 0; count = 0; length = 0; digest = [] }; parts = [] })

-- the entry with this index
abbrev pub pair_at : List Pair → ℕ → Pair
pair_at pairs k = slice_index_or pairs k no_pair

-- the name at this place
abbrev pub name_at : List Pair → ℕ → List ℕ
name_at pairs k = let pair = pair_at pairs k in pair.0

-- the entries with these indices
abbrev pub listed : List Pair → List ℕ → List Pair
listed pairs order = map (pair_at pairs) order

-- there is one index for each entry, each is the index of an entry, the names of the entries rise in this order, and
-- they are names
pub record IsKept (pairs : List Pair) (order : List ℕ) : Type 0 where
  pub as_many : length order ≡ length pairs
  pub in_range : All (λ k. k < length pairs) order
  pub rising : IsTrue (is_sorted name_cmp (listed pairs order))
  pub named : All (λ pair. IsName pair.0) pairs

-- the entry at place i has the name
pub record IsAt (list : List Pair) (name : List ℕ) (i : ℕ) : Type 0 where
  pub in_range : i < length list
  pub has_name : name_at list i ≡ name

-- the name would go at place i: lesser names are before it, and greater ones from it on
pub record IsGapFor (list : List Pair) (name : List ℕ) (i : ℕ) : Type 0 where
  pub in_range : i ≤ length list
  pub before : (k : ℕ) → k < i → name_cmp (name_at list k) name ≡ Less
  pub after : (k : ℕ) → i ≤ k → k < length list → name_cmp name (name_at list k) ≡ Less

-- the name, if it is anywhere, is in this piece: lesser names are in the pieces before it, and greater ones in those after
-- it; where there is no piece, it is the first
pub record IsPieceFor (pairs : List Pair) (pieces : List (List ℕ)) (name : List ℕ) (piece : ℕ) : Type 0 where
  pub in_range : piece ≤ length pieces - 1
  pub before : (k : ℕ) → k < before_piece pieces piece → name_cmp (name_at (listed pairs (joined pieces)) k) name ≡ Less
  pub after : (k : ℕ) → before_piece pieces (piece + 1) ≤ k → k < length (joined pieces) → name_cmp name (name_at (listed pairs (joined pieces)) k) ≡ Less

-- the entry at this place has the name
pub record HasName (pairs : List Pair) (pieces : List (List ℕ)) (name : List ℕ) (place : Place) : Type 0 where
  pub is_in : IsIn pieces place
  pub is_at : IsAt (listed pairs (joined pieces)) name (place_in pieces place)

-- the name would go at this place
pub record HasGap (pairs : List Pair) (pieces : List (List ℕ)) (name : List ℕ) (place : Place) : Type 0 where
  pub is_within : IsWithin pieces place
  pub is_gap : IsGapFor (listed pairs (joined pieces)) name (place_in pieces place)

-- the entry at this place of the piece has the name
abbrev pub IsFoundIn : List Pair → List (List ℕ) → List ℕ → ℕ → ℕ → Type 0
IsFoundIn pairs pieces name piece at = HasName pairs pieces name (record { piece = piece; at = at })

-- the name would go at this place of the piece
abbrev pub IsGapIn : List Pair → List (List ℕ) → List ℕ → ℕ → ℕ → Type 0
IsGapIn pairs pieces name piece at = HasGap pairs pieces name (record { piece = piece; at = at })

-- how many more objects there is space for in a vector of this length with this capacity, where the order has space for so
-- many: what both can take, and what is left of 2^32 indices
abbrev pub room_of : ℕ → ℕ → ℕ → ℕ
room_of len entries order = min (min (entries - len) order) (2 ^ 32 - len)
