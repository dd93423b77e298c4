use Rattle.aea_view.specs.Marked.{is_marked}
use Rattle.aea_gauss.proofs.Solving.{is_lost}
use Rattle.aea_gauss.proofs.unknown.fate_of.Goals as goal

pub returns-in_ok-copied-in-Some-clause-fate : goal.returns-in_ok-copied-in-Some-clause-fate
returns-in_ok-copied-in-Some-clause-fate c =
    is_lost c.args.lattice.now (is_marked c.args.known.now) c.args.lost.now c.args.b c.number.result c.in-Some.nodes.now c.in_ok-copied-in-Some.field-0
    c.requires.losses c.requires.block c.number.ensures.value c.in-Some.ensures c.in_ok-copied-in-Some.ensures
