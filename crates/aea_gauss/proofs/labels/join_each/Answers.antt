use Rattle.std.proofs.Common.{◌≡◌, length, ◌∙◌, subst, arith}
use Rattle.aea_readings.specs.Small.{equation_in}
use Rattle.aea_gauss.specs.Parts.{JoinsEquation, JoinsEach}
use Rattle.aea_gauss.proofs.Joining.{each_more}
use Rattle.aea_gauss.proofs.labels.join_each.Goals as goal

pub loop-at-preserved : goal.loop-at-preserved
loop-at-preserved c = record {
  long = c.join_equation.auto.parents ∙ c.loop-at.invariant.long;
  parents = c.join_equation.ensures.parents;
  follows = λ label follows.
      (let all = c.join_equation.ensures.follows label follows in
      each_more (λ i. JoinsEquation c.args.lattice.now c.args.blocks.now (equation_in c.args.equations.now i) label) c.loop-at.at (c.loop-at.invariant.follows label all.0) all.1);
}

pub returns-clause-follows : goal.returns-clause-follows
returns-clause-follows c label follows =
    let all : c.loop-at.at ≡ length c.args.equations.now = omega arith in
    subst (λ n. JoinsEach c.args.lattice.now c.args.blocks.now c.args.equations.now n label) all (c.loop-at.invariant.follows label follows)
