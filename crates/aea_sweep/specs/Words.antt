-- Lists of nodes as words.
use Rattle.std.specs.Prelude.{ℕ, suc, ◌≤◌, Bool, false, ◌==◌, List, [], ◌∷◌, get_or}
use Rattle.aea_lattice.specs.Parity.{differ}

-- whether the node is in the list an odd number of times
abbrev pub has_odd : List ℕ → ℕ → Bool
has_odd [] i = false
has_odd (k ∷ nodes) i = differ (i == k) (has_odd nodes i)

-- the nodes rise, each at least `low` and below `top`
abbrev pub RiseWithin : ℕ → List ℕ → ℕ → Type 0
RiseWithin low [] top = low ≤ top
RiseWithin low (k ∷ nodes) top = (low ≤ k) × RiseWithin (suc k) nodes top

-- the nodes of each word
abbrev pub word_in : List (List ℕ) → ℕ → ℕ → Bool
word_in words r = has_odd (get_or words r [])
