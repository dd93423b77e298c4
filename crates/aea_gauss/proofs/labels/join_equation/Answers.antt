use Rattle.aea_gauss.proofs.Joining.{joined}
use Rattle.aea_gauss.proofs.labels.join_equation.Goals as goal

pub returns-clause-follows : goal.returns-clause-follows
returns-clause-follows c label follows =
    let third = c.join_blocks.ensures.follows label follows in
    let second = c.join_input-2.ensures.follows label third.0 in
    let first = c.join_input.ensures.follows label second.0 in
    (first.0, joined c.args.lattice.now c.args.blocks.now c.requires.listed label c.args.e c.equation-q.result c.equation-q.ensures.listed first.1 second.1 third.1)
