-- The longest runs of nodes, which are the parts of an object.
use Rattle.std.specs.Prelude.{◌≡◌, ◌≢◌, ◌≤◌, ℕ, ◌+◌, List, [], ◌∷◌, length, sum_by}
use Rattle.std.specs.List.{flat_map, range_with_len}
use Rattle.aea_catalog.specs.declared.objects.Extent.{Extent}
use Rattle.aea_machine.specs.Machine.{runs_of}

-- the nodes of runs, one run after the other
abbrev pub nodes_in : List Extent → List ℕ
nodes_in runs = flat_map (λ e. range_with_len e.first e.count) runs

-- the next run, if there is one, does not go on where this one ends
abbrev pub EndsBefore : Extent → List Extent → Type 0
EndsBefore e [] = Unit {0}
EndsBefore e (f ∷ runs) = e.first + e.count ≢ f.first

-- no run is empty, and none goes on with the one before it
abbrev pub AreApart : List Extent → Type 0
AreApart [] = Unit {0}
AreApart (e ∷ runs) = (1 ≤ e.count) × EndsBefore e runs × AreApart runs

-- The runs have these nodes, in their order, and as many; and they are as long as they can be.
pub record AreLongestRuns (nodes : List ℕ) (runs : List Extent) : Type 0 where
  pub are : nodes_in runs ≡ nodes
  pub many : sum_by (λ e. e.count) runs ≡ length nodes
  pub apart : AreApart runs

-- Of all nodes the runs are their longest.
abbrev pub RunsAreLongest : Type 0
RunsAreLongest = (nodes : List ℕ) → AreLongestRuns nodes (runs_of nodes)
