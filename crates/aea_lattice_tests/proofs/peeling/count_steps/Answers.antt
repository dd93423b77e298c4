use Rattle.std.proofs.Common.{rules, not, ◌==◌}
use Rattle.std.specs.List.{list_any}
use Rattle.aea_lattice.specs.Blocks.{number_of}
use Rattle.aea_lattice_tests.proofs.peeling.count_steps.Goals as goal

pub new-view-requires-clause-one_list : goal.new-view-requires-clause-one_list
new-view-requires-clause-one_list c = ((λ b. not (list_any (λ k. k == number_of c.args.lattice.now b) c.args.absent.now)), λ b answer inside h. search rules)
