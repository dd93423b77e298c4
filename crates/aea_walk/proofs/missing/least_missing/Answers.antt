use Rattle.std.proofs.Common.{◌≡◌, arith, sym, ◌∙◌, ap, subst}
use Rattle.aea_lattice.specs.Blocks.{HasBlock, number_of}
use Rattle.aea_view.specs.Marked.{is_marked}
use Rattle.aea_walk.proofs.Found.{found_missing, nothing_missing}
use Rattle.aea_walk.proofs.missing.least_missing.Goals as goal

pub returns-then-not-get : goal.returns-then-not-get
returns-then-not-get c =
    let l = c.args.marks.now.lattice in
    let same = c.lattice-lattice.ensures.lattice in
    let has : HasBlock l c.block-block.result = subst (λ m. HasBlock m c.block-block.result) same c.block-block.ensures.block in
    let number : number_of l c.block-block.result ≡ c.loop-k.k = ap (λ m. number_of m c.block-block.result) (sym same) ∙ c.block-block.ensures.number in
    sym (found_missing l (is_marked c.args.marks.now) c.args.least c.args.next c.block-block.result has
    (sym c.get.ensures ∙ c.if-not-get.true) (omega arith) (omega arith)
    (λ d has_d le lt. c.loop-k.invariant d has_d le (omega arith)))

pub returns : goal.returns
returns c =
    sym (nothing_missing c.args.marks.now.lattice (is_marked c.args.marks.now) c.args.least c.args.next
    (λ d has le lt. c.loop-k.invariant d has le (omega arith)))
