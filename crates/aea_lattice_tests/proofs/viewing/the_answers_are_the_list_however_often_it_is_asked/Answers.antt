use Rattle.std.proofs.Common.{rules, not, ◌==◌, ◌∷◌, []}
use Rattle.std.specs.List.{list_any}
use Rattle.aea_lattice.specs.Blocks.{number_of}
use Rattle.aea_lattice_tests.proofs.viewing.the_answers_are_the_list_however_often_it_is_asked.Goals as goal

pub new-view-requires-clause-one_list : goal.new-view-requires-clause-one_list
new-view-requires-clause-one_list g c = (
  (λ b. not (list_any (λ k. k == number_of c.in_ok-lattice.lattice b) (0 ∷ 4 ∷ 5 ∷ 8 ∷ []))),
  λ b answer inside h. search rules,
)
