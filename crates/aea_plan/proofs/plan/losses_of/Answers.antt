use Rattle.aea_plan.proofs.Flipped.{all-marked}
use Rattle.aea_plan.proofs.plan.losses_of.Goals as goal

pub returns-in-None : goal.returns-in-None
returns-in-None c b has unmarked =
    absurd (all-marked c.args.reached.now c.in_ok-open.open c.in_ok-open.ensures.lattice c.in_ok-open.ensures.marks c.in_ok-open.ensures.whole c.in-None.ensures.none b has unmarked)
