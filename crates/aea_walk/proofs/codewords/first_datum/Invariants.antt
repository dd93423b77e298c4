use Rattle.std.proofs.Common.{take}
use Rattle.aea_lattice.specs.Lists.{has_node}
use Rattle.aea_view.specs.Marked.{is_marked}
use Rattle.aea_walk.proofs.Firsts.{IsFirstDatum}
use Rattle.aea_walk.proofs.codewords.first_datum.Given as goal

abbrev pub invariant-loop-k : goal.invariant-loop-k
invariant-loop-k l = IsFirstDatum l.marks.lattice (is_marked l.marks) (has_node (take l.k l.nodes)) l.first
