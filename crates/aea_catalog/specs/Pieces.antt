-- How the order of a catalogue's names is kept: a list of indices, cut into pieces.
use Rattle.std.specs.Prelude.{◌≡◌, ℕ, ◌+◌, ◌-◌, ◌<◌, ◌≤◌, ◌==◌, Bool, ◌&&◌, ◌||◌, if◌then◌else◌, nat_lt, List, [], take, length, slice_index_or, Option, is_some, IsSome, IfSome, All, refl}
use Rattle.std.specs.List.{flat_map}
use Rattle.std.specs.Coded.{Coded, code_by, coded×, coded_list, coded_ℕ}
use Rattle.aea_catalog.specs.declared.order.Place.{Place}

-- the most indices of a piece
abbrev pub piece_size : ℕ
piece_size = 1024

-- how many stay in a full piece that is cut
abbrev pub half_size : ℕ
half_size = 512

-- a piece with this length and this capacity has not more indices, and memory for as many
pub record HasPieceSize (len capacity : ℕ) : Type 0 where
  pub len_in : len ≤ piece_size
  pub capacity_in : piece_size ≤ capacity

-- a piece has an index, and not more than it can have
pub record IsFilled (piece : List ℕ) : Type 0 where
  pub some : 0 < length piece
  pub few : length piece ≤ piece_size

-- the indices of all pieces, one after the other
abbrev pub joined : List (List ℕ) → List ℕ
joined pieces = flat_map (λ piece. piece) pieces

-- how many indices are before the piece with this number
abbrev pub before_piece : List (List ℕ) → ℕ → ℕ
before_piece pieces k = length (joined (take k pieces))

-- a place among all indices
abbrev pub place_in : List (List ℕ) → Place → ℕ
place_in pieces place = before_piece pieces place.piece + place.at

-- an index can be put at the place: the piece is there, and the place is in it or at its end; or there is no piece, and it
-- is the first place of the first
pub record IsWithin (pieces : List (List ℕ)) (place : Place) : Type 0 where
  pub piece_in : place.piece ≤ length pieces - 1
  pub at_in : place.at ≤ length (slice_index_or pieces place.piece [])

-- there is an index at the place
pub record IsIn (pieces : List (List ℕ)) (place : Place) : Type 0 where
  pub piece_in : place.piece < length pieces
  pub at_in : place.at < length (slice_index_or pieces place.piece [])

-- one piece alone, which is not full: an index can be put anywhere in it
abbrev pub has_space : List (List ℕ) → Bool
has_space pieces = (length pieces == 1) && nat_lt (length (slice_index_or pieces 0 [])) piece_size

-- how many indices can be put without memory, as far as it is told: one where a piece is spare, or where none is needed
abbrev pub order_room : List (List ℕ) → Option (List ℕ) → ℕ
order_room pieces spare = if is_some spare || has_space pieces then 1 else 0

-- no piece is empty, or has more than it can have; a spare piece is empty, and there is space for it in the list of pieces
pub record IsInPieces (pieces : List (List ℕ)) (len capacity : ℕ) (spare : Option (List ℕ)) : Type 0 where
  pub filled : All IsFilled pieces
  pub empty : IfSome spare (λ piece. piece ≡ [])
  pub space : IsSome spare → len < capacity

-- the pieces of an order, and how many indices can be put without memory
pub record OrderValue : Type 0 where
  pub pieces : List (List ℕ)
  pub room : ℕ

-- what an order contains as the pair of both
abbrev pub order_code : Coded OrderValue
order_code =
    code_by (List (List ℕ) × ℕ) (coded× (coded_list (coded_list coded_ℕ)) coded_ℕ) (λ o. (o.pieces, o.room)) (λ p. record { pieces = p.0; room = p.1 }) (λ _. refl)
