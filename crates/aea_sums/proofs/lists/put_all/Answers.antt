use Rattle.std.proofs.Common.{◌≡◌, ◌+◌, ◌-◌, ℕ, suc, map, sym, subst, arith}
use Rattle.aea_lattice.specs.Blocks.{classes}
use Rattle.aea_lattice.specs.Equations.{equation_of, equations_to}
use Rattle.aea_sums.specs.Lists.{Puts}
use Rattle.aea_sums.proofs.Listing.{puts_then}
use Rattle.aea_sums.proofs.lists.put_all.Goals as goal

pub loop-node-preserved : goal.loop-node-preserved
loop-node-preserved c =
    let l = c.args.lattice.now in
    let i = c.loop-node.node in
    let first = c.loop-node.auto.node in
    let here : suc (i - 1) ≡ i = omega arith in
    let next : suc (i - 1) ≡ i + 1 - 1 = omega arith in
    subst (λ (n : ℕ). Puts l c.args.table.now (equations_to l n) c.args.lists.now c.put_node.new.lists) next
    (puts_then l c.args.table.now (equations_to l (i - 1)) (map (equation_of (suc (i - 1))) (classes l)) c.args.lists.now c.loop-node.lists c.put_node.new.lists
    c.loop-node.invariant
    (subst (λ (n : ℕ). Puts l c.args.table.now (map (equation_of n) (classes l)) c.loop-node.lists c.put_node.new.lists) (sym here) c.in_ok-put_node.ensures))
