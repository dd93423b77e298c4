-- What is known of the records before one, and all that the next one is judged by.
use Rattle.std.specs.Prelude.{ℕ, Bool, List, length}
use Rattle.std.specs.List.{list_any}
use Rattle.std.specs.Str.{bytes_eq}
use Rattle.aea_records.specs.Format.{Record, stored_of, nodes_of, fences_of, is_raise}

-- an object of these records has the name
abbrev pub is_taken : List Record → List ℕ → Bool
is_taken earlier name = list_any (λ o. bytes_eq o.name name) (stored_of earlier)

-- which names are taken; how many objects there are, and how many nodes; the fences; and whether the limit was raised
pub record Known : Type 0 where
  pub taken : List ℕ → Bool
  pub objects : ℕ
  pub nodes : ℕ
  pub fences : List ℕ
  pub raised : Bool

-- what is known of these records
abbrev pub known_of : List Record → Known
known_of earlier = record {
  taken = is_taken earlier;
  objects = length (stored_of earlier);
  nodes = nodes_of earlier;
  fences = fences_of earlier;
  raised = list_any is_raise earlier;
}
