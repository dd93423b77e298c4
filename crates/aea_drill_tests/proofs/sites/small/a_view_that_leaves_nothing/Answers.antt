use Rattle.std.proofs.Common.{rules, ◌==◌}
use Rattle.aea_drill_tests.proofs.sites.small.a_view_that_leaves_nothing.Goals as goal

pub new-view-requires-clause-one_list : goal.new-view-requires-clause-one_list
new-view-requires-clause-one_list g c = ((λ b. b.node == 3), λ b answer inside h. search rules)
