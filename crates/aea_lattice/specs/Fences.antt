-- “Fences”: nodes of a lattice after each of which every strand begins anew.
use Rattle.std.specs.Prelude.{ℕ, suc, Bool, true, ◌&&◌, nat_le, List, [], ◌∷◌, length}
use Rattle.std.specs.List.{list_any}

-- the most fences that a lattice has
abbrev pub greatest_fences : ℕ
greatest_fences = 16

-- whether the numbers rise, each above `low` and at most n
abbrev pub rise_to : ℕ → ℕ → List ℕ → Bool
rise_to low n [] = true
rise_to low n (f ∷ fences) = nat_le (suc low) f && nat_le f n && rise_to f n fences

-- whether these are fences of a lattice of n nodes: nodes in rising order, each 1 to n, at most 16
abbrev pub are_fences : ℕ → List ℕ → Bool
are_fences n fences = nat_le (length fences) greatest_fences && rise_to 0 n fences

-- the last fence; 0, before the first node, where there is none
abbrev pub last_fence : List ℕ → ℕ
last_fence [] = 0
last_fence (f ∷ []) = f
last_fence (f ∷ g ∷ fences) = last_fence (g ∷ fences)

-- Whether a fence parts node k from node i: it is at k or later, and before i. So k is not parted from i exactly
-- where k is greater than the greatest fence below i.
abbrev pub is_parted : List ℕ → ℕ → ℕ → Bool
is_parted fences k i = list_any (λ f. nat_le k f && nat_le (suc f) i) fences
