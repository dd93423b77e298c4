use Rattle.std.proofs.Common.{not, ◌∙◌, ap, sym, subst, ◌++◌, ◌∷◌, [], arith}
use Rattle.aea_lattice.specs.Blocks.{blocks_count}
use Rattle.aea_view.specs.Marked.{is_marked}
use Rattle.aea_readings.specs.Small.{AreListed}
use Rattle.aea_gauss.proofs.Marking.{marked_more, marked_all}
use Rattle.aea_gauss.proofs.marked.marked_blocks.Goals as goal

pub loop-k-preserved : goal.loop-k-preserved
loop-k-preserved c = record {
  inside = let below = c.in-Some.ensures.found.inside in let count = ap blocks_count c.requires.same in omega arith;
  blocks =
      c.in_ok-push.ensures.items
      ∙ ap (λ bs. bs ++ c.block.result ∷ []) c.loop-k.invariant.blocks
      ∙ sym (marked_more c.args.lattice.now c.args.marks.now c.requires.same c.loop-k.from c.in-Some.k c.block.result c.in-Some.ensures.found c.block.ensures.place c.block.ensures.number);
}

pub returns-clause-all : goal.returns-clause-all
returns-clause-all c =
    marked_all c.args.lattice.now c.args.marks.now c.requires.same c.loop-k.from c.loop-k.blocks.items c.loop-k.invariant.inside c.in_default.ensures.none c.loop-k.invariant.blocks

pub returns-clause-listed : goal.returns-clause-listed
returns-clause-listed c =
    let l = c.args.lattice.now in
    subst (AreListed l)
    (sym
    (marked_all l c.args.marks.now c.requires.same c.loop-k.from c.loop-k.blocks.items c.loop-k.invariant.inside c.in_default.ensures.none c.loop-k.invariant.blocks))
    (c.unknown_are_listed.ensures l (λ b. not (is_marked c.args.marks.now b)))
