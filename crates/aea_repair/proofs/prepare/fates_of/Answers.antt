use Rattle.aea_repair.proofs.Plans.{no_fates}
use Rattle.aea_repair.proofs.prepare.fates_of.Goals as goal

pub returns-in-None : goal.returns-in-None
returns-in-None c =
    rw c.new.ensures
    (no_fates c.blocks_are_inside.ensures c.args.reached.now c.in_ok-open.open c.in_ok-open.ensures.lattice c.in_ok-open.ensures.marks c.in_ok-open.ensures.whole c.in-None.ensures.none)
