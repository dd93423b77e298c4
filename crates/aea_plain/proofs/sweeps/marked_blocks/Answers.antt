use Rattle.std.proofs.Common.{◌≡◌, ◌≤◌, ◌∷◌, [], ◌++◌, filter, Bool, sym, ◌∙◌, ap, subst, arith}
use Rattle.aea_view.specs.Marked.{Marked}
use Rattle.aea_view.specs.Marked as marked
use Rattle.aea_plain.specs.Marks.{is_marked}
use Rattle.aea_plain.proofs.Marks.{marked-at, marks-of}
use Rattle.aea_lattice.specs.declared.blocks.BlockId.{BlockId}
use Rattle.aea_lattice.specs.Blocks.{blocks_count}
use Rattle.aea_plain.proofs.Places.{filter-block_kept, filter-block_dropped, take-blocks_of}
use Rattle.aea_plain.proofs.sweeps.marked_blocks.Goals as goal
use Rattle.aea_plain.proofs.sweeps.marked_blocks.Goals.{then-get+in_ok-push, else-get}

pub loop-k-preserved : goal.loop-k-preserved
loop-k-preserved c =
    let p : BlockId → Bool = is_marked c.args.lattice.now c.args.marks.now.marks in
    let read : p c.block-b.result ≡ c.get.result =
    marked-at c.args.lattice.now c.args.marks.now.marks c.block-b.result c.block-b.ensures.block
    ∙ sym
    (subst (λ (m : Marked). c.get.result ≡ marked.is_marked m c.block-b.result)
    (marks-of c.args.marks.now c.args.lattice.now c.requires) c.get.ensures) in
    elim c.if-get.branch [
      | then-get+in_ok-push w ↦
          rw w.blocks-is
          (w.in_ok-push.ensures.items
          ∙ ap (λ xs. xs ++ c.block-b.result ∷ []) c.loop-k.invariant
          ∙ sym
          (filter-block_kept c.args.lattice.now p c.block-b.result c.loop-k.k c.block-b.ensures.block c.block-b.ensures.number
          (read ∙ w.if-get.true)))
      | else-get w ↦
          rw w.blocks-is
          (c.loop-k.invariant
          ∙ sym
          (filter-block_dropped c.args.lattice.now p c.block-b.result c.loop-k.k c.block-b.ensures.block c.block-b.ensures.number
          (read ∙ w.if-get.false)))
    ]

pub returns : goal.returns
returns c =
    let all : blocks_count c.args.lattice.now ≤ c.loop-k.k = omega arith in
    c.loop-k.invariant ∙ ap (filter (is_marked c.args.lattice.now c.args.marks.now.marks)) (take-blocks_of c.args.lattice.now c.loop-k.k all)
