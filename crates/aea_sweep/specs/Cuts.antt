-- A list of lists that is kept as one list, cut where each of them starts.
use Rattle.std.specs.Prelude.{ℕ, ◌-◌, ◌≤◌, List, [], ◌∷◌, take, drop}

-- the lists that start at these places; each ends where the next one starts, and the last one where all ends
abbrev pub lists_of : List ℕ → List ℕ → List (List ℕ)
lists_of [] items = []
lists_of (a ∷ []) items = drop a items ∷ []
lists_of (a ∷ b ∷ starts) items = take (b - a) (drop a items) ∷ lists_of (b ∷ starts) items

-- the places do not fall, each at least `low` and at most `top`
abbrev pub AreCuts : ℕ → List ℕ → ℕ → Type 0
AreCuts low [] top = low ≤ top
AreCuts low (a ∷ starts) top = (low ≤ a) × AreCuts a starts top
