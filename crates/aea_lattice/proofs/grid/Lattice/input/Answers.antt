use Rattle.std.proofs.Common.{Some, None, sym, ◌∙◌, ap}
use Rattle.std.proofs.lemmas.Bool.{cond-true, cond-false}
use Rattle.aea_lattice.specs.Fences.{is_parted}
use Rattle.aea_lattice.specs.Neighbours.{joined_before}
use Rattle.aea_lattice.proofs.Prefixes.{previous-first, previous-before}
use Rattle.aea_lattice.proofs.Runs.{previous-neighbour}
use Rattle.aea_lattice.proofs.grid.Lattice.input.Goals as goal

pub returns-in_err-before-clause-input : goal.returns-in_err-before-clause-input
returns-in_err-before-clause-input c =
    let l = c.args.self.now in
    c.from_residual.ensures
    ∙ sym (previous-neighbour l c.args.class c.args.node ∙ ap (joined_before l c.args.node) (sym c.neighbour_before.ensures ∙ c.in_err-before.was))

pub returns-then-parts-clause-input : goal.returns-then-parts-clause-input
returns-then-parts-clause-input c =
    let l = c.args.self.now in
    let g = c.in_ok-before.before in
    sym
    (previous-neighbour l c.args.class c.args.node
    ∙ ap (joined_before l c.args.node) (sym c.neighbour_before.ensures ∙ c.in_ok-before.was)
    ∙ cond-true (is_parted l.fences g c.args.node) None (Some g) (sym c.parts.ensures ∙ c.if-parts.true))

pub returns-else-parts-clause-input : goal.returns-else-parts-clause-input
returns-else-parts-clause-input c =
    let l = c.args.self.now in
    let g = c.in_ok-before.before in
    sym
    (previous-neighbour l c.args.class c.args.node
    ∙ ap (joined_before l c.args.node) (sym c.neighbour_before.ensures ∙ c.in_ok-before.was)
    ∙ cond-false (is_parted l.fences g c.args.node) None (Some g) (sym c.parts.ensures ∙ c.if-parts.false))

pub returns-else-parts-clause-earlier : goal.returns-else-parts-clause-earlier
returns-else-parts-clause-earlier c =
    let was = sym (returns-else-parts-clause-input c) in
    (previous-first c.args.self.now c.args.class c.args.node c.in_ok-before.before was, previous-before c.args.self.now c.args.class c.args.node c.in_ok-before.before was)
