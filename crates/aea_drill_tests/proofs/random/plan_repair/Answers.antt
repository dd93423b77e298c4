use Rattle.std.proofs.Common.{rules}
use Rattle.aea_lattice.specs.Closure.{is_among}
use Rattle.aea_drill_tests.proofs.random.plan_repair.Goals as goal

pub new-view-requires-clause-one_list : goal.new-view-requires-clause-one_list
new-view-requires-clause-one_list c = ((λ b. is_among c.args.left.now b), λ b answer inside h. search rules)
