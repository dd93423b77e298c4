use Rattle.std.proofs.Common.{rules, not, ◌==◌}
use Rattle.aea_drill_tests.proofs.sites.small.without_last.Goals as goal

pub new-view-requires-clause-one_list : goal.new-view-requires-clause-one_list
new-view-requires-clause-one_list c = ((λ b. not (b.node == c.n-last.result)), λ b answer inside h. search rules)
