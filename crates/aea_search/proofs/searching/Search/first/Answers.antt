use Rattle.std.proofs.Common.{subst, ap, ◌∙◌, slice_get}
use Rattle.aea_search.specs.Searches.{Searched, IsSearch}
use Rattle.aea_search.proofs.Waiting.{first_of}
use Rattle.aea_search.proofs.searching.Search.first.Goals as goal

pub returns : goal.returns
returns c =
    let i = c.self.inside in
    first_of c.args.self.now i.found.items i.gone (subst IsSearch c.self.view_is c.self.invariant.1) (ap (λ (s : Searched). s.waiting) c.self.view_is) c.item_at.result
    (c.item_at.ensures ∙ ap (λ xs. slice_get xs i.gone) c.as_slice.ensures.value)
