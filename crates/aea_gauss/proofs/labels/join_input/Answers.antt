use Rattle.aea_gauss.specs.Parts.{JoinsBlocks}
use Rattle.aea_gauss.proofs.Joining.{some_from}
use Rattle.aea_gauss.proofs.labels.join_input.Goals as goal

pub returns-in-Some-clause-follows : goal.returns-in-Some-clause-follows
returns-in-Some-clause-follows c label follows =
    let all = c.join_blocks.ensures.follows label follows in
    (all.0, some_from c.args.input (λ g. JoinsBlocks c.args.blocks.now g c.args.other label) c.in-Some.g c.in-Some.is all.1)
