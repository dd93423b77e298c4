use Rattle.std.proofs.Common.{◌++◌, Bool, not, List, cond, [], ◌∷◌, filter, sym, ◌∙◌, ap, arith}
use Rattle.aea_lattice.specs.declared.blocks.BlockId.{BlockId}
use Rattle.aea_lattice.specs.Blocks.{blocks_of}
use Rattle.aea_view.specs.Marked.{is_marked}
use Rattle.aea_gauss.proofs.Solving.{blocks_more, take_whole}
use Rattle.aea_gauss.proofs.unknown.all_fates.Goals as goal

pub loop-k-preserved : goal.loop-k-preserved
loop-k-preserved c =
    let p : BlockId → Bool = λ b. not (is_marked c.args.known.now b) in
    let b = c.block-b.result in
    record {
      batch = c.in_ok-keep_fate.ensures.batch;
      each = c.in_ok-keep_fate.ensures.each;
      blocks =
          c.in_ok-keep_fate.ensures.blocks ∙ ap (λ (xs : List BlockId). xs ++ cond (p b) (b ∷ []) []) c.loop-k.invariant.blocks
          ∙ sym (blocks_more p (blocks_of c.args.lattice.now) c.loop-k.k b (let h = c.loop-k-test.true in let e = c.blocks-k-end.ensures.all in omega arith) c.block-b.ensures.place);
    }

pub returns : goal.returns
returns c =
    let p : BlockId → Bool = λ b. not (is_marked c.args.known.now b) in
    record {
      blocks = c.loop-k.invariant.blocks
          ∙ ap (filter p) (take_whole (blocks_of c.args.lattice.now) c.loop-k.k (let h = c.loop-k-test.false in let e = c.blocks-k-end.ensures.all in omega arith));
      each = c.loop-k.invariant.each;
    }
