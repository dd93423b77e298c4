-- Lost blocks are counted in number order.
use Rattle.std.proofs.Common.{◌≡◌, ℕ, ◌+◌, ◌<◌, ◌≤◌, List, [], ◌∷◌, ◌++◌, take, length, get_or, cond, Option, Some, None, ◌∙◌, ap, arith}
use Rattle.std.specs.Prelude.{filter, slice_get}
use Rattle.std.specs.Option.{is_some}
use Rattle.std.proofs.lemmas.Option.{slice_get_within, get_or_from_slice_get}
use Rattle.std.proofs.lemmas.List.{append-nil, length-take-le, take_all}
use Rattle.std.proofs.lemmas.List.Elements.{filter_more}
use Rattle.std.proofs.lemmas.List.Sums.{count_by-le-length, length-filter}
use Rattle.aea_lattice.specs.declared.blocks.BlockId.{BlockId}
use Rattle.aea_lattice.specs.declared.grid.Lattice.{Lattice}
use Rattle.aea_lattice.specs.Blocks.{blocks_of, blocks_count, number_of}
use Rattle.aea_lattice.proofs.Numbers.{length-blocks_of}
use Rattle.aea_sites.specs.declared.lost.SiteLoss.{SiteLoss}
use Rattle.aea_sites.specs.Counts.{has_nodes, with_nodes, IsCountOf}

-- no more blocks have nodes than were looked at
pub counted_few : (l : Lattice) (losses : List (Option (List ℕ))) (k : ℕ) (loss : SiteLoss) → k < blocks_count l → IsCountOf l losses (with_nodes l losses k) loss → loss.lost ≤ k
counted_few l losses k loss inside counted =
    let test = has_nodes l losses in
    let few = take k (blocks_of l) in
    let long : length few ≡ k = length-take-le k (blocks_of l) (omega (arith, inside, length-blocks_of l)) in
    omega (arith, counted.count, length-filter test few, count_by-le-length test few, long)

-- one block more is looked at
with_more : (l : Lattice) (losses : List (Option (List ℕ))) (k : ℕ) (b : BlockId) → slice_get (blocks_of l) k ≡ Some b
    → with_nodes l losses (k + 1) ≡ with_nodes l losses k ++ cond (has_nodes l losses b) (b ∷ []) []
with_more l losses k b place =
    let test = has_nodes l losses in
    filter_more test (blocks_of l) k b (slice_get_within (blocks_of l) k b place)
    ∙ ap (λ d. with_nodes l losses k ++ cond (test d) (d ∷ []) []) (get_or_from_slice_get (blocks_of l) k b b place)

-- it has nodes
pub with_one : (l : Lattice) (losses : List (Option (List ℕ))) (k : ℕ) (b : BlockId) (nodes : List ℕ) → slice_get (blocks_of l) k ≡ Some b → get_or losses (number_of l b) None ≡ Some nodes
    → with_nodes l losses (k + 1) ≡ with_nodes l losses k ++ b ∷ []
with_one l losses k b nodes place is = with_more l losses k b place ∙ ap (λ r. with_nodes l losses k ++ cond (is_some r) (b ∷ []) []) is

-- it has none
pub with_none : (l : Lattice) (losses : List (Option (List ℕ))) (k : ℕ) (b : BlockId) → slice_get (blocks_of l) k ≡ Some b → get_or losses (number_of l b) None ≡ None
    → with_nodes l losses (k + 1) ≡ with_nodes l losses k
with_none l losses k b place is =
    with_more l losses k b place ∙ ap (λ r. with_nodes l losses k ++ cond (is_some r) (b ∷ []) []) is ∙ append-nil (with_nodes l losses k)

-- all are looked at
pub with_all : (l : Lattice) (losses : List (Option (List ℕ))) (k : ℕ) → blocks_count l ≤ k → with_nodes l losses k ≡ filter (has_nodes l losses) (blocks_of l)
with_all l losses k all = ap (filter (has_nodes l losses)) (take_all k (blocks_of l) (omega (arith, all, length-blocks_of l)))
