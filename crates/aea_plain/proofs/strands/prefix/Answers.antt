use Rattle.std.proofs.Common.{◌∷◌, [], ◌++◌, sym, ◌∙◌, ap, arith}
use Rattle.aea_lattice.specs.Strands.{strand_of, is_on}
use Rattle.aea_plain.proofs.Scans.{filter-node_kept, filter-node_dropped}
use Rattle.aea_plain.proofs.strands.prefix.Goals as goal
use Rattle.aea_plain.proofs.strands.prefix.Goals.{then-is_on+in_ok-push, else-is_on}

pub loop-k-preserved : goal.loop-k-preserved
loop-k-preserved c =
    let l = c.args.lattice.now in
    let p = is_on l c.args.class (strand_of l c.args.class c.args.node) c.args.node in
    let same = ap (λ s. is_on l c.args.class s c.args.node c.loop-k.k) c.strand-strand.ensures in
    elim c.if-is_on.branch [
      | then-is_on+in_ok-push w ↦
          rw w.nodes-is
          (w.in_ok-push.ensures.items
          ∙ ap (λ xs. xs ++ c.loop-k.k ∷ []) c.loop-k.invariant
          ∙ sym (filter-node_kept p c.loop-k.k (omega arith) (sym same ∙ sym c.is_on.ensures ∙ w.if-is_on.true)))
      | else-is_on w ↦
          rw w.nodes-is
          (c.loop-k.invariant
          ∙ sym (filter-node_dropped p c.loop-k.k (omega arith) (sym same ∙ sym c.is_on.ensures ∙ w.if-is_on.false)))
    ]
