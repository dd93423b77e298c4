use Rattle.std.proofs.Common.{◌≡◌, ◌≤◌, ◌∷◌, [], ◌++◌, ◌&&◌, filter, Bool, sym, ◌∙◌, ap, arith}
use Rattle.aea_lattice.specs.declared.blocks.EqId.{EqId}
use Rattle.aea_lattice.specs.Equations.{is_in_equation, is_odd_count, adds_up_to}
use Rattle.aea_lattice.specs.Lists.{is_listed}
use Rattle.aea_lattice.specs.declared.blocks.BlockId.{BlockId}
use Rattle.aea_lattice.specs.Blocks.{blocks_count}
use Rattle.aea_plain.proofs.Places.{filter-block_kept, filter-block_dropped, take-blocks_of}
use Rattle.aea_plain.proofs.sums.sum.Goals as goal
use Rattle.aea_plain.proofs.sums.sum.Goals.{then-is_in_sum+in_ok-push, else-is_in_sum}

pub loop-k-preserved : goal.loop-k-preserved
loop-k-preserved c =
    let q : EqId → Bool = λ e. is_listed c.args.equations.now e && is_in_equation c.args.lattice.now e c.block-b.result in
    let odd : c.is_in_sum.result ≡ adds_up_to c.args.lattice.now (is_listed c.args.equations.now) c.block-b.result =
    c.is_in_sum.ensures ∙ ap (is_odd_count q) (c.as_slice.ensures.value ∙ c.in_ok-all.ensures.all) in
    let p : BlockId → Bool = adds_up_to c.args.lattice.now (is_listed c.args.equations.now) in
    elim c.if-is_in_sum.branch [
      | then-is_in_sum+in_ok-push w ↦
          rw w.blocks-is
          (w.in_ok-push.ensures.items
          ∙ ap (λ xs. xs ++ c.block-b.result ∷ []) c.loop-k.invariant
          ∙ sym
          (filter-block_kept c.args.lattice.now p c.block-b.result c.loop-k.k c.block-b.ensures.block c.block-b.ensures.number
          (sym odd ∙ w.if-is_in_sum.true)))
      | else-is_in_sum w ↦
          rw w.blocks-is
          (c.loop-k.invariant
          ∙ sym
          (filter-block_dropped c.args.lattice.now p c.block-b.result c.loop-k.k c.block-b.ensures.block c.block-b.ensures.number
          (sym odd ∙ w.if-is_in_sum.false)))
    ]

pub returns : goal.returns
returns c =
    let all : blocks_count c.args.lattice.now ≤ c.loop-k.k = omega arith in
    c.loop-k.invariant ∙ ap (filter (adds_up_to c.args.lattice.now (is_listed c.args.equations.now))) (take-blocks_of c.args.lattice.now c.loop-k.k all)
