use Rattle.std.proofs.Common.{◌≡◌, ◌<◌, false, get_or, length, set, ◌∙◌, ap, arith}
use Rattle.std.proofs.lemmas.List.{length-set, length-replicate}
use Rattle.aea_lattice.specs.declared.grid.Lattice.{Lattice}
use Rattle.aea_lattice.specs.Blocks.{number_of, blocks_count}
use Rattle.aea_lattice.specs.Closure.{is_among}
use Rattle.aea_lattice.proofs.Equations.{number_below}
use Rattle.aea_plain.proofs.Marks.{marked-at, marks-set}
use Rattle.aea_plain.proofs.sweeps.known_marks.Goals as goal

pub loop-k-init : goal.loop-k-init
loop-k-init c = record {
  same = c.in_ok-marks.ensures.lattice;
  long = ap length c.in_ok-marks.ensures.marks ∙ length-replicate (blocks_count c.args.lattice.now) false;
  marks = λ b has below. absurd (omega arith);
}

pub loop-k-preserved : goal.loop-k-preserved
loop-k-preserved c =
    let l = c.args.lattice.now in
    let old = c.loop-k.marks.marks in
    let written : c.set.new.self.marks ≡ set old c.loop-k.k c.has_block.result =
    c.set.ensures.marks
    ∙ ap (λ (x : Lattice). set old (number_of x c.block-block.result) c.has_block.result) c.loop-k.invariant.same
    ∙ ap (λ k. set old k c.has_block.result) c.block-block.ensures.number in
    let within : c.loop-k.k < length old =
    (let less = c.loop-k-test.true in let end = c.blocks-k-end.ensures.count in let long = c.loop-k.invariant.long in omega arith) in
    record {
      same = c.set.ensures.lattice ∙ c.loop-k.invariant.same;
      long = ap length written ∙ length-set old c.loop-k.k c.has_block.result ∙ c.loop-k.invariant.long;
      marks = λ d has_d below.
          ap (λ xs. get_or xs (number_of l d) false) written
          ∙ marks-set l (is_among c.args.known.now) old c.loop-k.k c.block-block.result c.has_block.result
          within c.block-block.ensures.block c.block-block.ensures.number c.has_block.ensures c.loop-k.invariant.marks d has_d below;
    }

pub returns-clause-marks : goal.returns-clause-marks
returns-clause-marks c b has =
    marked-at c.args.lattice.now c.loop-k.marks.marks b has
    ∙ c.loop-k.invariant.marks b has
    (let below : number_of c.args.lattice.now b < blocks_count c.args.lattice.now = number_below c.args.lattice.now b has in
    let end = c.loop-k-test.false in let count = c.blocks-k-end.ensures.count in omega arith)
