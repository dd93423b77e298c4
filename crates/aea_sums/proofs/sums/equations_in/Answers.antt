use Rattle.std.proofs.Common.{◌≡◌, ◌+◌, ◌-◌, ◌++◌, ℕ, List, suc, map, filter, sym, ◌∙◌, ap, arith}
use Rattle.std.proofs.lemmas.List.Elements.{filter-append}
use Rattle.aea_lattice.specs.declared.blocks.EqId.{EqId}
use Rattle.aea_lattice.specs.Blocks.{classes}
use Rattle.aea_lattice.specs.Equations.{equation_of, equations_to}
use Rattle.aea_sums.specs.Sums.{has_equation}
use Rattle.aea_sums.proofs.sums.equations_in.Goals as goal

pub loop-node-preserved : goal.loop-node-preserved
loop-node-preserved c =
    let l = c.args.lattice.now in
    let p = has_equation l c.args.table.now c.args.k in
    let i = c.loop-node.node in
    let first = c.loop-node.auto.node in
    let here : i ≡ suc (i - 1) = omega arith in
    let next : suc (i - 1) ≡ i + 1 - 1 = omega arith in
    c.in_ok-keep_node.ensures
    ∙ ap (λ (xs : List EqId). xs ++ filter p (map (equation_of i) (classes l))) c.loop-node.invariant
    ∙ ap (λ (n : ℕ). filter p (equations_to l (i - 1)) ++ filter p (map (equation_of n) (classes l))) here
    ∙ sym (filter-append p (equations_to l (i - 1)) (map (equation_of (suc (i - 1))) (classes l)))
    ∙ ap (λ (n : ℕ). filter p (equations_to l n)) next
