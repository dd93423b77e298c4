use Rattle.aea_gauss.proofs.Joining.{blocks_joined}
use Rattle.aea_gauss.proofs.labels.join_blocks.Goals as goal

pub returns-in-Some-b-clause-follows : goal.returns-in-Some-b-clause-follows
returns-in-Some-b-clause-follows c label follows =
    let all = c.join.ensures.follows label follows in (
      all.0,
      blocks_joined c.args.lattice.now c.args.blocks.now c.requires.listed label c.args.first c.args.second c.in-Some.a c.in-Some-b.b
          c.in-Some.ensures.0 c.in-Some-b.ensures.0 c.in-Some.ensures.1 c.in-Some-b.ensures.1 all.1,
    )
