use Rattle.std.proofs.Common.{◌≡◌, None, Some, sym, ◌∙◌, ap, subst, arith, get_or}
use Rattle.std.proofs.lemmas.Option.{get_or_from_slice_get}
use Rattle.std.proofs.lemmas.Result.{on_ok_weaker}
use Rattle.aea_lattice.specs.Blocks.{number_of}
use Rattle.aea_sites.specs.Counts.{with_nodes, IsCountOf}
use Rattle.aea_sites.proofs.Counting.{counted_few, with_one, with_none}
use Rattle.aea_sites.proofs.count.count_block.Goals as goal

pub add_block-requires : goal.add_block-requires
add_block-requires c = omega (arith, counted_few c.args.lattice.now c.args.list.now c.args.k c.args.loss.now c.requires.block c.requires.count, c.requires.small)

pub returns-in-None : goal.returns-in-None
returns-in-None c =
    let l = c.args.lattice.now in
    let list = c.args.list.now in
    subst (λ blocks. IsCountOf l list blocks c.args.loss.now)
    (sym (with_none l list c.args.k c.block-block.result c.block-block.ensures.place
    (ap (λ n. get_or list n None) c.block-block.ensures.number ∙ get_or_from_slice_get list c.args.k None None c.in-None.ensures)))
    c.requires.count

pub returns-in-Some : goal.returns-in-Some
returns-in-Some c =
    let l = c.args.lattice.now in
    let list = c.args.list.now in
    let loss = c.add_block.new.loss in
    let b = c.block-block.result in
    let nodes = c.in-Some.nodes.now in
    let is : get_or list (number_of l b) None ≡ Some nodes =
    ap (λ n. get_or list n None) c.block-block.ensures.number ∙ get_or_from_slice_get list c.args.k (Some nodes) None c.in-Some.ensures in
    on_ok_weaker c.add_block.result
    (λ add. subst (λ blocks. IsCountOf l list blocks loss) (sym (with_one l list c.args.k b nodes c.block-block.ensures.place is))
    (add l list (with_nodes l list c.args.k) is c.requires.count))
    c.add_block.ensures
