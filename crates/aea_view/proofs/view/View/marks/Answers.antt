use Rattle.std.proofs.Common.{◌≡◌, ◌<◌, length, set, sym, ◌∙◌, ap, subst, arith}
use Rattle.aea_lattice.specs.declared.grid.Lattice.{Lattice}
use Rattle.aea_lattice.specs.Blocks.{number_of, blocks_count}
use Rattle.aea_lattice.proofs.Equations.{number_below}
use Rattle.aea_view.specs.Marked.{Marked, AreMarks, is_marked}
use Rattle.aea_view.proofs.Filling.{marks_in, marks-of, marks-set}
use Rattle.aea_view.proofs.view.View.marks.Goals as goal

pub loop-k-init : goal.loop-k-init
loop-k-init g c = record {
  same = c.in_ok-marks.ensures.lattice;
  whole = c.in_ok-marks.ensures.whole;
  marks = λ known answers b inside below. absurd (omega arith);
}

pub loop-k-preserved : goal.loop-k-preserved
loop-k-preserved g c =
    let l = c.args.self.now.lattice in
    let old = c.loop-k.marks.marks in
    let written : c.set.new.self.marks ≡ set old c.loop-k.k c.has.result =
    c.set.ensures.marks
    ∙ ap (λ (x : Lattice). set old (number_of x c.block-block.result) c.has.result) c.loop-k.invariant.same
    ∙ ap (λ k. set old k c.has.result) c.block-block.ensures.number in
    let within : c.loop-k.k < length old =
    (let less = c.loop-k-test.true in
    let end = c.blocks-k-end.ensures.count in
    let long : length old ≡ blocks_count l = c.loop-k.invariant.whole ∙ ap blocks_count c.loop-k.invariant.same in
    omega arith) in
    record {
      same = c.set.ensures.lattice ∙ c.loop-k.invariant.same;
      whole = c.set.ensures.whole;
      marks = λ known answers b inside below.
          subst (λ marks. is_marked (marks_in l marks) b ≡ known b) (sym written)
          (marks-set l known old c.block-block.result c.loop-k.k c.has.result
          within c.block-block.ensures.block c.block-block.ensures.number (c.has.ensures known answers)
          (c.loop-k.invariant.marks known answers) b inside below);
    }

pub returns : goal.returns
returns g c = record {
  lattice = c.loop-k.invariant.same;
  whole = c.loop-k.invariant.whole;
  marks = λ known answers.
      subst (λ (m : Marked). AreMarks m known) (sym (marks-of c.loop-k.marks c.args.self.now.lattice c.loop-k.invariant.same))
      (λ b inside.
      let below : number_of c.args.self.now.lattice b < blocks_count c.args.self.now.lattice = number_below c.args.self.now.lattice b inside in
      c.loop-k.invariant.marks known answers b inside
      (let end = c.loop-k-test.false in let count = c.blocks-k-end.ensures.count in omega arith));
}
