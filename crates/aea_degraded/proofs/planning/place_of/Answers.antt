use Rattle.aea_degraded.proofs.FatesAt.{sum_there, fate_there}
use Rattle.aea_degraded.proofs.planning.place_of.Goals as goal

pub find-requires-clause-order : goal.find-requires-clause-order
find-requires-clause-order c = let are = c.requires.order in (_, are.1.blocks)

pub returns-in-Some : goal.returns-in-Some
returns-in-Some c damaged are given marked =
    let found = c.in-Some.ensures in
    sum_there c.args.fates.now c.args.b c.in-Some.at found.0 found.1 found.2 given

pub returns-in-None : goal.returns-in-None
returns-in-None c damaged are given marked =
    absurd (fate_there c.passing_are_among.ensures c.args.lattice.now damaged c.args.fates.now c.args.b are c.requires.block marked c.in-None.ensures)
