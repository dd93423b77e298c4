use Rattle.std.proofs.Common.{◌≡◌, ◌<◌, ◌⊎◌, ◌+◌, ℕ, length, take, get_or, sym, ◌∙◌, ap, subst, arith}
use Rattle.aea_lattice.specs.declared.blocks.Class.TheVariants.{Datum}
use Rattle.aea_lattice.specs.Blocks.{block_of}
use Rattle.aea_lattice.specs.Lists.{has_node}
use Rattle.aea_view.specs.Marked.{is_marked}
use Rattle.aea_walk.proofs.Firsts.{IsFirstDatum, datum-marked, datum-unmarked}
use Rattle.aea_walk.proofs.codewords.first_datum.Goals.{then-get, else-get}
use Rattle.aea_walk.proofs.codewords.first_datum.Goals as goal

pub loop-k-preserved : goal.loop-k-preserved
loop-k-preserved c =
    let l = c.args.marks.now.lattice in
    let intact = is_marked c.args.marks.now in
    let nodes = c.args.nodes.now in
    let k = c.loop-k.k in
    let is : c.node_at-node.result ≡ get_or nodes k 0 = c.node_at-node.ensures in
    let mark : c.get.result ≡ intact (block_of (get_or nodes k 0) Datum) = c.get.ensures ∙ ap (λ (j : ℕ). intact (block_of j Datum)) is in
    let less : k < length nodes = (let h = c.loop-k-test.true in let e = c.len-k-end.ensures in omega arith) in
    elim c.if-get.branch [
      | then-get w ↦
          (let a = w.lesser-first.ensures.first in
          let b = w.lesser-first.ensures.second in
          let one = subst (λ (j : ℕ). (w.lesser-first.result ≡ c.loop-k.first) ⊎ (w.lesser-first.result ≡ j)) is w.lesser-first.ensures.one in
          subst (λ (v : ℕ). IsFirstDatum l intact (has_node (take (k + 1) nodes)) v) (sym w.first-is)
          (datum-marked l intact nodes k c.loop-k.first w.lesser-first.result c.requires less (sym mark ∙ w.if-get.true) a (omega arith) one c.loop-k.invariant))
      | else-get w ↦
          subst (λ (v : ℕ). IsFirstDatum l intact (has_node (take (k + 1) nodes)) v) (sym w.first-is)
          (datum-unmarked l intact nodes k c.loop-k.first c.requires less (sym mark ∙ w.if-get.false) c.loop-k.invariant)
    ]
