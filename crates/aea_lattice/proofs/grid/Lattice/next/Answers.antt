use Rattle.std.proofs.Common.{Some, None, refl, sym, ◌∙◌, ap, subst}
use Rattle.std.proofs.lemmas.Bool.{cond-true, cond-false}
use Rattle.aea_lattice.specs.Fences.{is_parted}
use Rattle.aea_lattice.specs.Strands.{IsNext}
use Rattle.aea_lattice.specs.Neighbours.{joined_after}
use Rattle.aea_lattice.proofs.Prefixes.{previous-before}
use Rattle.aea_lattice.proofs.Runs.{next-joined}
use Rattle.aea_lattice.proofs.grid.Lattice.next.Goals as goal

pub returns-in_err-after-clause-next : goal.returns-in_err-after-clause-next
returns-in_err-after-clause-next c =
    let l = c.args.self.now in
    subst (IsNext l c.args.class c.args.node)
    (ap (joined_after l c.args.node) c.in_err-after.was ∙ sym c.from_residual.ensures)
    (next-joined l c.args.class c.args.node c.neighbour_after.result c.neighbour_after.ensures)

pub returns-then-parts-clause-next : goal.returns-then-parts-clause-next
returns-then-parts-clause-next c =
    let l = c.args.self.now in
    let j = c.in_ok-after.after in
    subst (IsNext l c.args.class c.args.node)
    (ap (joined_after l c.args.node) c.in_ok-after.was
    ∙ cond-true (is_parted l.fences c.args.node j) None (Some j) (sym c.parts.ensures ∙ c.if-parts.true))
    (next-joined l c.args.class c.args.node c.neighbour_after.result c.neighbour_after.ensures)

pub returns-else-parts-clause-next : goal.returns-else-parts-clause-next
returns-else-parts-clause-next c =
    let l = c.args.self.now in
    let j = c.in_ok-after.after in
    subst (IsNext l c.args.class c.args.node)
    (ap (joined_after l c.args.node) c.in_ok-after.was
    ∙ cond-false (is_parted l.fences c.args.node j) None (Some j) (sym c.parts.ensures ∙ c.if-parts.false))
    (next-joined l c.args.class c.args.node c.neighbour_after.result c.neighbour_after.ensures)

pub returns-else-parts-clause-later : goal.returns-else-parts-clause-later
returns-else-parts-clause-later c =
    let l = c.args.self.now in
    let j = c.in_ok-after.after in
    let is = (returns-else-parts-clause-next c j).0 refl in
    (previous-before l c.args.class j c.args.node is.1, is.0)
