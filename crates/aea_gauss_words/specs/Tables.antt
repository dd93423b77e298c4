-- Tables of the sums of eight rows, and the rows to which a group of thirty-two is added by four of them.
use Rattle.std.specs.Prelude.{◌≡◌, ◌≢◌, ◌⊎◌, ℕ, zero, suc, ◌+◌, ◌-◌, ◌*◌, ◌<◌, ◌≤◌, ◌^◌, Bool, false, not, ◌&&◌, cond, nat_lt, List, length, get_or, bit_xor, Option, Some, None, MatchOption}
use Rattle.aea_gauss_words.specs.Words.{is_bit}
use Rattle.aea_gauss_words.specs.Matrices.{IsLead, SameSums, ReducedTo}

-- the n numbers from `into` on are those of the function, and the others are as they were
pub record Sets (into n : ℕ) (f : ℕ → ℕ) (old new : List ℕ) : Type 0 where
  pub long : length new ≡ length old
  pub inside : (t : ℕ) → t < n → get_or new (into + t) 0 ≡ f t
  pub outside : (k : ℕ) → (k < into) ⊎ (into + n ≤ k) → get_or new k 0 ≡ get_or old k 0

-- word w of row r
abbrev pub word_of : ℕ → List ℕ → ℕ → ℕ → ℕ
word_of wide words r w = get_or words (r * wide + w) 0

-- the XOR of the picked ones of the first n numbers
abbrev pub xor_of : (ℕ → Bool) → (ℕ → ℕ) → ℕ → ℕ
xor_of picks f zero = 0
xor_of picks f (suc n) = bit_xor (xor_of picks f n) (cond (picks n) (f n) 0)

-- the place of a set of the first n rows in a table: bit s stands for row s
abbrev pub place_of : (ℕ → Bool) → ℕ → ℕ
place_of picks zero = 0
place_of picks (suc n) = place_of picks n + cond (picks n) (2 ^ n) 0

-- From the word `base` on the table has, 64 words each, the sums of each set of the first n rows, at `len` words.
abbrev pub IsTable : ℕ → ℕ → ℕ → (ℕ → ℕ → ℕ) → List ℕ → Type 0
IsTable base n len row table =
    (picks : ℕ → Bool) (k : ℕ) → k < len → get_or table (base + place_of picks n * 64 + k) 0 ≡ xor_of picks (λ s. row s k) n

-- Four tables: of the rows from `lo` on, eight each, at `len` words from the word `at` on.
abbrev pub AreTables : ℕ → List ℕ → ℕ → ℕ → ℕ → List ℕ → Type 0
AreTables wide words lo at len table =
    (t : ℕ) → t < 4 → IsTable (t * 16384) 8 len (λ s k. word_of wide words (lo + 8 * t + s) (at + k)) table

-- whether the row has the column, if there is one
abbrev pub has_lead : ℕ → List ℕ → ℕ → Option ℕ → Bool
has_lead wide words r None = false
has_lead wide words r (Some c) = is_bit words (r * wide) c

-- whether the number is one of those from a to before b
abbrev pub within : ℕ → ℕ → ℕ → Bool
within a b x = not (nat_lt x a) && nat_lt x b

-- whether row s of the group is to be added to row r: it is outside and has that row's least column
abbrev pub is_hit : ℕ → List ℕ → ℕ → List (Option ℕ) → ℕ → ℕ → Bool
is_hit wide words lo leads r s = not (within lo (lo + 32) r) && has_lead wide words r (get_or leads s None)

-- for each of `count` rows from `from` on the places in the four tables
abbrev pub ArePicks : ℕ → List ℕ → ℕ → List (Option ℕ) → ℕ → ℕ → List ℕ → Type 0
ArePicks wide words lo leads from count picks =
    (i t : ℕ) → i < count → t < 4 → get_or picks (4 * i + t) 0 ≡ place_of (λ s. is_hit wide words lo leads (from + i) (8 * t + s)) 8

-- the XOR of four numbers
abbrev pub four : (ℕ → ℕ) → ℕ
four f = bit_xor (bit_xor (f 0) (f 1)) (bit_xor (f 2) (f 3))

-- word w of row r with the group added
abbrev pub added_word : ℕ → List ℕ → ℕ → List (Option ℕ) → ℕ → ℕ → ℕ
added_word wide words lo leads r w =
    bit_xor (word_of wide words r w)
    (four (λ t. xor_of (λ s. is_hit wide words lo leads r (8 * t + s)) (λ s. word_of wide words (lo + 8 * t + s) w) 8))

-- the rows from `from` to before `to` have the group added, and the others are as they were
abbrev pub AddsGroup : ℕ → ℕ → ℕ → List (Option ℕ) → ℕ → ℕ → List ℕ → List ℕ → Type 0
AddsGroup rows wide lo leads from to old new =
    (r w : ℕ) → r < rows → w < wide
    → word_of wide new r w ≡ cond (within from to r) (added_word wide old lo leads r w) (word_of wide old r w)

-- the same at the words before `at` alone
abbrev pub AddsPart : ℕ → ℕ → ℕ → List (Option ℕ) → ℕ → ℕ → ℕ → List ℕ → List ℕ → Type 0
AddsPart rows wide lo leads from to at old new =
    (r w : ℕ) → r < rows → w < wide
    → word_of wide new r w ≡ cond (within from to r && nat_lt w at) (added_word wide old lo leads r w) (word_of wide old r w)

-- the first n rows from `from` on have at `len` words from `at` on the four picked sums added, and all else is as it was
abbrev pub AddsSums : ℕ → ℕ → ℕ → ℕ → ℕ → ℕ → List ℕ → List ℕ → List ℕ → List ℕ → Type 0
AddsSums rows wide from n at len table picks old new =
    (r w : ℕ) → r < rows → w < wide
    → word_of wide new r w
    ≡ cond (within from (from + n) r && within at (at + len) w)
    (bit_xor (word_of wide old r w) (four (λ t. get_or table (t * 16384 + get_or picks (4 * (r - from) + t) 0 * 64 + (w - at)) 0)))
    (word_of wide old r w)

-- each column of the list is one of the row's
abbrev pub AreInside : ℕ → List (Option ℕ) → Type 0
AreInside wide leads = (s c : ℕ) → s < 32 → get_or leads s None ≡ Some c → c < 64 * wide

-- for each of the first n rows from `lo` on its least column, if it has one
abbrev pub AreGroupLeads : ℕ → List ℕ → ℕ → ℕ → List (Option ℕ) → Type 0
AreGroupLeads wide words lo n leads =
    (s : ℕ) → s < n
    → MatchOption (get_or leads s None) ((k : ℕ) → k < 64 * wide → is_bit words ((lo + s) * wide) k ≡ false)
    (λ c. IsLead (64 * wide) (is_bit words ((lo + s) * wide)) c)

-- The thirty-two rows from `lo` on are reduced among themselves; the sums are as they were, and the least columns of
-- earlier rows still alone.
pub record ReducesGroup (rows cols lo : ℕ) (old new : ℕ → ℕ → Bool) : Type 0 where
  pub sums : SameSums rows cols old new
  pub kept : ReducedTo lo rows cols old → ReducedTo lo rows cols new
  pub alone : (g h c : ℕ) → lo ≤ g → g < lo + 32 → lo ≤ h → h < lo + 32 → g ≢ h → IsLead cols (new g) c → new h c ≡ false

-- the sums are as they were, and the least columns of the first n rows are alone
pub record LeavesReduced (rows cols n : ℕ) (old new : ℕ → ℕ → Bool) : Type 0 where
  pub sums : SameSums rows cols old new
  pub reduced : ReducedTo n rows cols new
