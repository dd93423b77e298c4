use Rattle.std.proofs.Common.{◌+◌, ℕ, List, get_or, sym, ◌∙◌, ap, subst}
use Rattle.std.proofs.lemmas.List.{get_or-replicate}
use Rattle.aea_lattice.specs.declared.grid.Lattice.{Lattice}
use Rattle.aea_view.specs.Marked.{is_marked}
use Rattle.aea_walk.specs.Stretches.{IsFirstOn, AreNextOn}
use Rattle.aea_walk.proofs.stretches.first_used.Goals as goal

pub pass_nodes-passed-requires-clause-none : goal.pass_nodes-passed-requires-clause-none
pass_nodes-passed-requires-clause-none c s less =
    ap (λ (xs : List ℕ). get_or xs s 0) c.as_mut_slice-opens.ensures.value
    ∙ get_or-replicate 64 s (c.n.result + 1) 0 less
    ∙ ap (λ (n : ℕ). n + 1) c.n.ensures

pub returns : goal.returns
returns c =
    let l = c.args.marks.now.lattice in
    let same = c.lattice-lattice.ensures.lattice in
    let intact = is_marked c.args.marks.now in
    let nodes = c.args.nodes.now in
    let class = c.args.class in
    let next : AreNextOn c.lattice-lattice.result.now intact class c.of-next.result.now =
    subst (λ (m : Lattice). AreNextOn m intact class c.of-next.result.now) (sym same)
    (subst (λ (xs : List ℕ). AreNextOn l intact class xs) (sym c.of-next.ensures) (c.requires.next class c.requires.class)) in
    subst (λ (m : Lattice). IsFirstOn m intact nodes class c.end_stretches.result) same
    (c.end_stretches.ensures intact next (c.pass_nodes-passed.ensures.passed intact next))
