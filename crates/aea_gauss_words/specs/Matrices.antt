-- Matrices over the field of two elements: whether row i has column k.
use Rattle.std.specs.Prelude.{◌≡◌, ◌≢◌, ◌↔◌, ℕ, ◌<◌, Bool, false, not, ◌==◌, ◌&&◌, IsTrue}
use Rattle.aea_lattice.specs.Parity.{differ}
use Rattle.aea_gauss_laws.specs.Parities.{odd_below}

-- the XOR of the picked ones of the first rows, at column k
abbrev pub sum_of_rows : ℕ → (ℕ → ℕ → Bool) → (ℕ → Bool) → ℕ → Bool
sum_of_rows rows matrix picks k = odd_below (λ i. picks i && matrix i k) rows

-- the columns are those of the XOR of some set of rows
abbrev pub IsSumOfRows : ℕ → ℕ → (ℕ → ℕ → Bool) → (ℕ → Bool) → Type 0
IsSumOfRows rows cols matrix v = (picks : ℕ → Bool) × ((k : ℕ) → k < cols → v k ≡ sum_of_rows rows matrix picks k)

-- c is the least column that the row has
pub record IsLead (cols : ℕ) (row : ℕ → Bool) (c : ℕ) : Type 0 where
  pub below : c < cols
  pub here : IsTrue (row c)
  pub least : (k : ℕ) → k < c → row k ≡ false

-- The least column of each row is in no other row.
abbrev pub IsReduced : ℕ → ℕ → (ℕ → ℕ → Bool) → Type 0
IsReduced rows cols matrix =
    (i j c : ℕ) → i < rows → j < rows → i ≢ j → IsLead cols (matrix i) c → matrix j c ≡ false

-- The new rows are reduced, and the XORs of sets of rows are the same as before.
pub record IsReduction (rows cols : ℕ) (old new : ℕ → ℕ → Bool) : Type 0 where
  pub same_sums : (v : ℕ → Bool) → IsSumOfRows rows cols old v ↔ IsSumOfRows rows cols new v
  pub reduced : IsReduced rows cols new

-- The new rows are the old ones, and row i is added to each other row that has column c.
abbrev pub IsCleared : ℕ → ℕ → (ℕ → ℕ → Bool) → (ℕ → ℕ → Bool) → ℕ → ℕ → Type 0
IsCleared rows cols old new i c =
    (r k : ℕ) → r < rows → k < cols → new r k ≡ differ (old r k) ((not (r == i) && old r c) && old i k)

-- the same for the one row j alone
abbrev pub IsClearedOne : ℕ → ℕ → (ℕ → ℕ → Bool) → (ℕ → ℕ → Bool) → ℕ → ℕ → ℕ → Type 0
IsClearedOne rows cols old new i c j =
    (r k : ℕ) → r < rows → k < cols → new r k ≡ differ (old r k) ((r == j && (not (r == i) && old r c)) && old i k)

-- the XORs of sets of rows are the same
abbrev pub SameSums : ℕ → ℕ → (ℕ → ℕ → Bool) → (ℕ → ℕ → Bool) → Type 0
SameSums rows cols old new = (v : ℕ → Bool) → IsSumOfRows rows cols old v ↔ IsSumOfRows rows cols new v

-- the least columns of the first n rows are in no other row
abbrev pub ReducedTo : ℕ → ℕ → ℕ → (ℕ → ℕ → Bool) → Type 0
ReducedTo n rows cols m = (p j c : ℕ) → p < n → j < rows → p ≢ j → IsLead cols (m p) c → m j c ≡ false
