-- The nodes of a line are in rising order.
use Rattle.std.proofs.Common.{ℕ, zero, suc, ◌<◌, ◌≤◌, List, [], ◌∷◌, length, get_or, arith}
use Rattle.std.proofs.lemmas.List.Elements.{All-from_get_or}
use Rattle.aea_lattice.specs.declared.grid.Lattice.{Lattice}
use Rattle.aea_lattice.specs.Blocks.{HasNode}
use Rattle.aea_walk.specs.Codewords.{AreRising}
use Rattle.aea_report.specs.Grammar.{RiseFrom, AreNodes}

rise_all : (l : Lattice) (i : ℕ) (nodes : List ℕ) → RiseFrom l i nodes → (k : ℕ) → k < length nodes → (i < get_or nodes k 0) × (get_or nodes k 0 ≤ l.n)
rise_all l i [] rise k lt = absurd (omega arith)
rise_all l i (j ∷ nodes) rise zero lt = (rise.0, rise.1)
rise_all l i (j ∷ nodes) rise (suc k) lt =
    let more = rise_all l j nodes rise.2 k (omega arith) in
    let low = rise.0 in let above = more.0 in (omega arith, more.1)

rise_pairs : (l : Lattice) (i : ℕ) (nodes : List ℕ) → RiseFrom l i nodes → (j k : ℕ) → j < k → k < length nodes → get_or nodes j 0 < get_or nodes k 0
rise_pairs l i [] rise j k less lt = absurd (omega arith)
rise_pairs l i (x ∷ nodes) rise j zero less lt = absurd (omega arith)
rise_pairs l i (x ∷ nodes) rise zero (suc k) less lt = (rise_all l x nodes rise.2 k (omega arith)).0
rise_pairs l i (x ∷ nodes) rise (suc j) (suc k) less lt = rise_pairs l x nodes rise.2 j k (omega arith) (omega arith)

-- the nodes of a line are in rising order
pub nodes-rising : (l : Lattice) (nodes : List ℕ) → AreNodes l nodes → AreRising l nodes
nodes-rising l nodes are = record {
  inside = All-from_get_or (HasNode l) nodes 0
      (λ k lt. let node = rise_all l 0 nodes are.1 k lt in let low = node.0 in record { first = omega arith; last = node.1 });
  rising = λ j k less lt. rise_pairs l 0 nodes are.1 j k less lt;
}
