use Rattle.std.proofs.Common.{List, not, subst}
use Rattle.std.proofs.lemmas.Result.{IfOk-weaker}
use Rattle.std.specs.Prelude.{IfOk}
use Rattle.aea_view.specs.Marked.{is_marked}
use Rattle.aea_gauss.specs.declared.fates.Fate.{Fate}
use Rattle.aea_gauss.specs.Fates.{AreFates}
use Rattle.aea_search.specs.Searches.{Searched, IsSearch}
use Rattle.aea_search.proofs.Fated.{unknown_fates_known}
use Rattle.aea_search.proofs.searching.Search.fates.Goals as goal

pub returns-clause-unknown : goal.returns-clause-unknown
returns-clause-unknown c =
    subst (λ (s : Searched). IfOk c.solve_open.result (AreFates c.args.lattice.now (λ b. not (is_marked s.unknown b)))) c.self.view_is c.solve_open.ensures

pub returns-clause-known : goal.returns-clause-known
returns-clause-known c =
    IfOk-weaker c.solve_open.result (AreFates c.args.lattice.now (λ b. not (is_marked c.args.self.now.unknown b))) _
    (λ (fates : List Fate) are none known right.
    unknown_fates_known c.parts_stand_alone.ensures c.words_stay.ensures c.blocks_are_inside.ensures c.args.lattice.now c.args.self.now c.requires.same
    (subst IsSearch c.self.view_is c.self.invariant.1) none known right fates are)
    (returns-clause-unknown c)
