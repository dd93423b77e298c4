use Rattle.std.proofs.Common.{◌∷◌, [], refl, sym, subst, ap, ◌∙◌, drop, arith, length, length-append}
use Rattle.std.proofs.lemmas.List.{drop-append-le}
use Rattle.aea_lattice.specs.declared.grid.Lattice.{Lattice}
use Rattle.aea_lattice.specs.Blocks.{HasBlock}
use Rattle.aea_search.specs.Searches.{Searched, Begins}
use Rattle.aea_search.proofs.Keeping.{marked_too, search_begins}
use Rattle.aea_search.proofs.searching.Search.begin.Goals as goal
use Rattle.aea_search.proofs.searching.Search.begin.Goals.{After-set-2}

begun : (c : After-set-2) → Begins (record { read = c.self.inside.read; unknown = c.self.inside.unknown; waiting = drop c.self.inside.gone c.self.inside.found.items })
    (record { read = c.set-2.new.self; unknown = c.set.new.self; waiting = drop c.self.inside.gone c.push.new.self.items }) c.args.b
begun c =
    let i = c.self.inside in
    let here : HasBlock i.read.lattice c.args.b = subst (λ (s : Searched). HasBlock s.read.lattice c.args.b) (sym c.self.view_is) c.requires in
    record {
      read = marked_too i.read.lattice i.read c.set-2.new.self c.args.b refl
          (record { block = here; whole = c.set-2.ensures.whole; same = c.set-2.ensures.lattice; marks = c.set-2.ensures.marks });
      unknown = marked_too i.read.lattice i.unknown c.set.new.self c.args.b c.self.invariant.1.same
          (record {
            block = subst (λ (l : Lattice). HasBlock l c.args.b) (sym c.self.invariant.1.same) here;
            whole = c.set.ensures.whole;
            same = c.set.ensures.lattice;
            marks = c.set.ensures.marks;
          });
      waiting = ap (drop i.gone) c.in_ok-push.ensures.items ∙ drop-append-le i.gone i.found.items (c.args.b ∷ []) c.self.invariant.0;
    }

pub invariant_of-self-2 : goal.invariant_of-self-2
invariant_of-self-2 c =
    let i = c.self.inside in
    let s : Searched = record { read = i.read; unknown = i.unknown; waiting = drop i.gone i.found.items } in
    let t : Searched = record { read = c.set-2.new.self; unknown = c.set.new.self; waiting = drop i.gone c.push.new.self.items } in (
      omega (arith, c.self.invariant.0, ap length c.in_ok-push.ensures.items, length-append i.found.items (c.args.b ∷ [])),
      search_begins s t c.args.b c.self.invariant.1 (subst (λ (x : Searched). HasBlock x.read.lattice c.args.b) (sym c.self.view_is) c.requires)
          c.set-2.ensures.whole c.set.ensures.whole (begun (goal.at.invariant_of-self-2 c).After-set-2),
    )

pub returns-clause-begins : goal.returns-clause-begins
returns-clause-begins c =
    let i = c.self.inside in
    let t : Searched = record { read = c.set-2.new.self; unknown = c.set.new.self; waiting = drop i.gone c.push.new.self.items } in
    subst (λ (s : Searched). Begins s t c.args.b) c.self.view_is (begun (goal.at.returns-clause-begins c).After-set-2)
