use Rattle.std.proofs.Common.{refl, sym, subst, drop}
use Rattle.aea_lattice.specs.Blocks.{HasBlock}
use Rattle.aea_search.specs.Searches.{Searched, IsMarkedToo, Passes}
use Rattle.aea_search.proofs.Keeping.{marked_too, search_skips}
use Rattle.aea_search.proofs.searching.Search.skip.Goals as goal
use Rattle.aea_search.proofs.searching.Search.skip.Goals.{After-set}

marked : (c : After-set) → IsMarkedToo c.self.inside.read.lattice c.self.inside.read c.set.new.self c.args.b
marked c =
    marked_too c.self.inside.read.lattice c.self.inside.read c.set.new.self c.args.b refl
    (record {
      block = subst (λ (s : Searched). HasBlock s.read.lattice c.args.b) (sym c.self.view_is) c.requires.block;
      whole = c.set.ensures.whole;
      same = c.set.ensures.lattice;
      marks = c.set.ensures.marks;
    })

pub invariant_of-self : goal.invariant_of-self
invariant_of-self c =
    let i = c.self.inside in
    let s : Searched = record { read = i.read; unknown = i.unknown; waiting = drop i.gone i.found.items } in
    let t : Searched = record { read = c.set.new.self; unknown = i.unknown; waiting = drop i.gone i.found.items } in
    (c.self.invariant.0, search_skips s t c.args.b c.self.invariant.1 c.set.ensures.whole (record { read = marked (goal.at.invariant_of-self c).After-set; unknown = refl; waiting = refl }))

pub returns : goal.returns
returns c =
    let i = c.self.inside in
    let t : Searched = record { read = c.set.new.self; unknown = i.unknown; waiting = drop i.gone i.found.items } in
    subst (λ (s : Searched). Passes s t c.args.b) c.self.view_is (record { read = marked (goal.at.returns c).After-set; unknown = refl; waiting = refl })
