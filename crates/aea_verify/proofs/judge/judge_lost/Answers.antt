use Rattle.std.proofs.Common.{sym, subst}
use Rattle.aea_lattice.specs.declared.grid.Lattice.{Lattice}
use Rattle.aea_walk.specs.Codewords.{AreRising}
use Rattle.aea_verify.proofs.Lines.{nodes-rising}
use Rattle.aea_verify.proofs.judge.judge_lost.Goals as goal

pub is_in_codeword-requires-clause-nodes : goal.is_in_codeword-requires-clause-nodes
is_in_codeword-requires-clause-nodes c =
    subst (λ (l : Lattice). AreRising l c.args.nodes.now) (sym c.lattice.ensures.lattice) (nodes-rising c.args.marks.now.lattice c.args.nodes.now c.requires.nodes)

pub first_touched-requires-clause-nodes : goal.first_touched-requires-clause-nodes
first_touched-requires-clause-nodes c = nodes-rising c.args.marks.now.lattice c.args.nodes.now c.requires.nodes
