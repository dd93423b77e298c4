use Rattle.std.proofs.Common.{◌≡◌, ◌+◌, ◌∙◌, sym, subst, ap, drop}
use Rattle.aea_search.specs.Searches.{Searched, IsSearch, IsGoneAround}
use Rattle.aea_search.proofs.Keeping.{search_passes}
use Rattle.aea_search.proofs.Waiting.{some_first, first_is}
use Rattle.aea_search.proofs.searching.Search.pass.Goals as goal

pub invariant_of-self : goal.invariant_of-self
invariant_of-self c =
    let i = c.self.inside in
    let s = c.args.self.now in
    let view : Searched = record { read = i.read; unknown = i.unknown; waiting = drop i.gone i.found.items } in
    let is : view ≡ s = c.self.view_is in
    let some = some_first s i.found.items i.gone (subst IsSearch is c.self.invariant.1) (ap (λ (x : Searched). x.waiting) is) c.requires.waits in (
      some.below,
      search_passes view some.block (drop (i.gone + 1) i.found.items) c.self.invariant.1 (ap (λ (x : Searched). x.waiting) is ∙ some.waits)
          (subst (λ (x : Searched). IsGoneAround x.read.lattice x.read some.block) (sym is) (c.requires.around some.block some.first)),
    )

pub returns-clause-waiting : goal.returns-clause-waiting
returns-clause-waiting c b first =
    let i = c.self.inside in
    let s = c.args.self.now in
    let view : Searched = record { read = i.read; unknown = i.unknown; waiting = drop i.gone i.found.items } in
    let is : view ≡ s = c.self.view_is in
    let some = some_first s i.found.items i.gone (subst IsSearch is c.self.invariant.1) (ap (λ (x : Searched). x.waiting) is) c.requires.waits in
    first_is s some.block b (drop (i.gone + 1) i.found.items) some.waits first
