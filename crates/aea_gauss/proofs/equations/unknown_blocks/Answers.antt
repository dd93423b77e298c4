use Rattle.std.proofs.Common.{◌≡◌, ◌++◌, ◌∷◌, [], Bool, not, cond, sym, ◌∙◌, ap, subst, arith}
use Rattle.aea_lattice.specs.declared.blocks.BlockId.{BlockId}
use Rattle.aea_lattice.specs.Blocks.{blocks_of}
use Rattle.aea_view.specs.Marked.{is_marked}
use Rattle.aea_readings.specs.Small.{unknown_blocks, AreListed}
use Rattle.aea_gauss.proofs.Filling.{blocks_more, unknown_whole}
use Rattle.aea_gauss.proofs.equations.unknown_blocks.Goals as goal

pub loop-k-preserved : goal.loop-k-preserved
loop-k-preserved c =
    let p : BlockId → Bool = λ b. not (is_marked c.args.known.now b) in
    c.in_ok-keep_unknown.ensures
    ∙ ap (λ bs. bs ++ cond (p c.block.result) (c.block.result ∷ []) []) c.loop-k.invariant
    ∙ sym (blocks_more p (blocks_of c.args.lattice.now) c.loop-k.k c.block.result (omega (arith, c.blocks-k-end.ensures.all)) c.block.ensures.place)

pub returns-clause-all : goal.returns-clause-all
returns-clause-all c =
    unknown_whole c.args.lattice.now (is_marked c.args.known.now) c.loop-k.blocks.items c.loop-k.k c.loop-k.invariant (omega (arith, c.blocks-k-end.ensures.all))

pub returns-clause-listed : goal.returns-clause-listed
returns-clause-listed c =
    let is : c.loop-k.blocks.items ≡ unknown_blocks c.args.lattice.now (is_marked c.args.known.now) =
    unknown_whole c.args.lattice.now (is_marked c.args.known.now) c.loop-k.blocks.items c.loop-k.k c.loop-k.invariant (omega (arith, c.blocks-k-end.ensures.all)) in
    subst (AreListed c.args.lattice.now) (sym is) (c.unknown_are_listed.ensures c.args.lattice.now (is_marked c.args.known.now))
