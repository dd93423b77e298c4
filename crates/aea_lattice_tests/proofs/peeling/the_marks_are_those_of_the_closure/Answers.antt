use Rattle.std.proofs.Common.{rules, ◌==◌}
use Rattle.aea_lattice_tests.proofs.peeling.the_marks_are_those_of_the_closure.Goals as goal

pub new-view-requires-clause-one_list : goal.new-view-requires-clause-one_list
new-view-requires-clause-one_list g c = ((λ b. b.node == 2), λ b answer inside h. search rules)
