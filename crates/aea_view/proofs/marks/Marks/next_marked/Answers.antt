use Rattle.std.proofs.Common.{List, ℕ, IfSome, IfNone, subst}
use Rattle.aea_lattice.specs.Blocks.{blocks_count}
use Rattle.aea_view.specs.Marked.{Marked, AreClear, IsNextMarked}
use Rattle.aea_view.proofs.Nexts.{kept_in, next-found, next-none}
use Rattle.aea_view.proofs.marks.Marks.next_marked.Goals as goal

pub returns-clause-found : goal.returns-clause-found
returns-clause-found c =
    let l = c.self.inside.lattice in
    let r = c.next_set.result in
    let from = c.args.from in
    subst (λ (m : Marked). IfSome r (IsNextMarked m from)) c.self.view_is
    (subst (λ (words : List ℕ). IfSome r (IsNextMarked (kept_in l words) from)) c.as_slice.ensures.value
    (next-found l c.as_slice.result.now c.blocks-2.result from r c.blocks-2.ensures.count
    c.next_set.ensures.inside c.next_set.ensures.set c.next_set.ensures.before))

pub returns-clause-none : goal.returns-clause-none
returns-clause-none c =
    let l = c.self.inside.lattice in
    let r = c.next_set.result in
    let from = c.args.from in
    subst (λ (m : Marked). IfNone r (AreClear m from (blocks_count m.lattice))) c.self.view_is
    (subst (λ (words : List ℕ). IfNone r (AreClear (kept_in l words) from (blocks_count l))) c.as_slice.ensures.value
    (next-none l c.as_slice.result.now c.blocks-2.result from r c.blocks-2.ensures.count c.next_set.ensures.none))
