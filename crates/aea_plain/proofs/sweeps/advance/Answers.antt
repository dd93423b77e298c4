use Rattle.std.proofs.Common.{◌≡◌, true, set, ◌∙◌, ap, subst, sym}
use Rattle.aea_lattice.specs.declared.grid.Lattice.{Lattice}
use Rattle.aea_lattice.specs.Blocks.{number_of}
use Rattle.aea_plain.specs.Marks.{IsState}
use Rattle.aea_plain.proofs.Marks.{state-mark}
use Rattle.aea_plain.proofs.sweeps.advance.Goals as goal

pub returns-in-Some-clause-state : goal.returns-in-Some-clause-state
returns-in-Some-clause-state c known state =
    let l = c.args.lattice.now in
    let old = c.args.marks.now.marks in
    let written : c.set.new.self.marks ≡ set old (number_of l c.in-Some.b) true =
    c.set.ensures.marks ∙ ap (λ (x : Lattice). set old (number_of x c.in-Some.b) true) c.requires.same in
    subst (IsState l known) (sym written) (state-mark l known old c.in-Some.b c.args.e c.requires.long c.in-Some.ensures.inside c.in-Some.ensures.forced state)
