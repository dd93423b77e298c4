use Rattle.std.proofs.Common.{◌≡◌, drop, sym, ◌∙◌, ap}
use Rattle.aea_lattice.specs.declared.grid.Lattice.{Lattice}
use Rattle.aea_reader.specs.Heads.{shape_line}
use Rattle.aea_reader.proofs.Options.{none_weaker}
use Rattle.aea_reader.proofs.HeadLines.{lattice_small}
use Rattle.aea_reader.proofs.heads.lattice_in.Goals as goal

pub returns-clause-none : goal.returns-clause-none
returns-clause-none c =
    none_weaker c.lattice_of.result
    ((l : Lattice) → l.alpha ≡ c.in_ok-alpha.alpha → l.s ≡ c.in_ok-alpha.s → l.p ≡ c.in_ok-alpha.p → l.n ≡ c.in_ok-alpha.n → ⊥)
    ((l : Lattice) → c.args.line.now ≡ shape_line l → ⊥)
    (λ none l spelled.
    let small = lattice_small l in
    let same = c.in_ok-alpha.ensures.reads l.alpha l.s l.p l.n small.0 small.1 small.2 small.3 (ap (drop 7) (sym c.in_ok-rest.ensures.found ∙ spelled)) in
    none l (sym same.0) (sym same.1) (sym same.2) (sym same.3))
    c.lattice_of.ensures.none
