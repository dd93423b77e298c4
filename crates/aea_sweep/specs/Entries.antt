-- The lists of nodes that blocks share, by labels: 1 more than the place of a list, and 0 for none.
use Rattle.std.specs.Prelude.{ℕ, zero, suc, List, [], get_or, Option, Some, None}

-- the list of a label, None for 0
abbrev pub entry_of : List (List ℕ) → ℕ → Option (List ℕ)
entry_of words zero = None
entry_of words (suc r) = Some (get_or words r [])
