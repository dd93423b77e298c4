-- Steps of a table of words and their heads.
use Rattle.std.specs.Prelude.{◌≡◌, ℕ, ◌+◌, ◌<◌, ◌≤◌, Bool, false, not, ◌&&◌, ◌==◌, cond, List, [], length, get_or}
use Rattle.aea_sweep.specs.declared.heads.Heads.{Heads}
use Rattle.aea_sweep.specs.Heads.{head_in}
use Rattle.aea_sweep.specs.Words.{RiseWithin, word_in}
use Rattle.aea_sweep.specs.Sweep.{with_added}

-- the lists have as many words and heads as before
pub record SameSize (words new : List (List ℕ)) (heads headed : List Heads) : Type 0 where
  pub words_long : length new ≡ length words
  pub heads_long : length headed ≡ length heads

-- The word of a row is added to each row that passes, with its heads.
pub record AddsRow (from : ℕ) (hit : ℕ → Bool) (words new : List (List ℕ)) (heads headed : List Heads) : Type 0 where
  pub size : SameSize words new heads headed
  pub words_are : (r i : ℕ) → word_in new r i ≡ with_added (word_in words) from hit r i
  pub heads_are : (r t : ℕ) → t < 192 → head_in headed r t ≡ with_added (head_in heads) from hit r t
  pub rises : (top : ℕ) → ((r : ℕ) → RiseWithin 1 (get_or words r []) top) → (r : ℕ) → RiseWithin 1 (get_or new r []) top

-- the row that changes places with row r where rows a and b do
abbrev pub partner : ℕ → ℕ → ℕ → ℕ
partner a b r = cond (r == a) b (cond (r == b) a r)

-- Two rows have changed places.
pub record Exchanges (a b : ℕ) (words new : List (List ℕ)) (heads headed : List Heads) : Type 0 where
  pub size : SameSize words new heads headed
  pub words_are : (r : ℕ) → get_or new r [] ≡ get_or words (partner a b r) []
  pub heads_are : (r t : ℕ) → head_in headed r t ≡ head_in heads (partner a b r) t

-- The row has no nodes and no heads, and the others are as they were.
pub record Clears (row : ℕ) (words new : List (List ℕ)) (heads headed : List Heads) : Type 0 where
  pub size : SameSize words new heads headed
  pub words_are : (r : ℕ) → get_or new r [] ≡ cond (r == row) [] (get_or words r [])
  pub heads_are : (r t : ℕ) → head_in headed r t ≡ cond (r == row) false (head_in heads r t)

-- The heads at a place are taken away.
pub record Forgets (place : ℕ) (heads headed : List Heads) : Type 0 where
  pub long : length headed ≡ length heads
  pub heads_are : (r t : ℕ) → t < 192 → head_in headed r t ≡ (head_in heads r t && not (t == place))

-- A copy of the row is after all rows, and its heads and nodes are gone.
pub record Closes (row : ℕ) (words new : List (List ℕ)) : Type 0 where
  pub long : length new ≡ length words + 1
  pub words_are : (r : ℕ) → get_or new r [] ≡ cond (r == row) [] (cond (r == length words) (get_or words row []) (get_or words r []))

-- There are heads for each slot and for the spare word, whose place it is, and a word for each of them.
pub record IsSized (spare : ℕ) (words : List (List ℕ)) (heads : List Heads) : Type 0 where
  pub heads_long : length heads ≡ spare + 1
  pub words_long : length heads ≡ length words
  pub few : spare < 192

-- no word in a slot and not the spare one has a head past the places of slots
abbrev pub HasPlaces : ℕ → List Heads → Type 0
HasPlaces spare heads = (r t : ℕ) → r ≤ spare → spare ≤ t → t < 192 → head_in heads r t ≡ false
