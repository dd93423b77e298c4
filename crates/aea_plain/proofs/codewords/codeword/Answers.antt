use Rattle.std.proofs.Common.{◌≤◌, ◌∷◌, [], ◌++◌, filter, Bool, sym, ◌∙◌, ap, arith}
use Rattle.aea_lattice.specs.Lists.{has_node}
use Rattle.aea_lattice.specs.Equations.{is_in_codeword}
use Rattle.aea_lattice.specs.declared.blocks.BlockId.{BlockId}
use Rattle.aea_lattice.specs.Blocks.{blocks_count}
use Rattle.aea_plain.proofs.Places.{filter-block_kept, filter-block_dropped, take-blocks_of}
use Rattle.aea_plain.proofs.codewords.codeword.Goals as goal
use Rattle.aea_plain.proofs.codewords.codeword.Goals.{then-is_in_codeword+in_ok-push, else-is_in_codeword}

pub loop-k-preserved : goal.loop-k-preserved
loop-k-preserved c =
    let p : BlockId → Bool = is_in_codeword c.args.lattice.now (has_node c.args.nodes.now) in
    elim c.if-is_in_codeword.branch [
      | then-is_in_codeword+in_ok-push w ↦
          rw w.blocks-is
          (w.in_ok-push.ensures.items
          ∙ ap (λ xs. xs ++ c.block-b.result ∷ []) c.loop-k.invariant
          ∙ sym
          (filter-block_kept c.args.lattice.now p c.block-b.result c.loop-k.k c.block-b.ensures.block c.block-b.ensures.number
          (sym c.is_in_codeword.ensures ∙ w.if-is_in_codeword.true)))
      | else-is_in_codeword w ↦
          rw w.blocks-is
          (c.loop-k.invariant
          ∙ sym
          (filter-block_dropped c.args.lattice.now p c.block-b.result c.loop-k.k c.block-b.ensures.block c.block-b.ensures.number
          (sym c.is_in_codeword.ensures ∙ w.if-is_in_codeword.false)))
    ]

pub returns : goal.returns
returns c =
    let all : blocks_count c.args.lattice.now ≤ c.loop-k.k = omega arith in
    c.loop-k.invariant ∙ ap (filter (is_in_codeword c.args.lattice.now (has_node c.args.nodes.now))) (take-blocks_of c.args.lattice.now c.loop-k.k all)
