use Rattle.std.proofs.Common.{rules, not, ◌==◌}
use Rattle.aea_lattice_tests.proofs.peeling.a_datum_follows_from_a_parity_that_a_step_gives.Goals as goal

pub new-view-requires-clause-one_list : goal.new-view-requires-clause-one_list
new-view-requires-clause-one_list g c = ((λ b. not (b.node == 1)), λ b answer inside h. search rules)
