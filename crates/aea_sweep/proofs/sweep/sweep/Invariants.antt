use Rattle.std.proofs.Common.{◌++◌}
use Rattle.aea_view.specs.Marked.{is_marked}
use Rattle.aea_sweep.specs.Tables.{IsSized}
use Rattle.aea_sweep.specs.States.{AreSwept}
use Rattle.aea_sweep.proofs.sweep.sweep.Given as goal

abbrev pub invariant-loop-k : goal.invariant-loop-k
invariant-loop-k l = record {
  sized : IsSized l.spare l.words.items l.heads.items;
  swept : AreSwept l.lattice (is_marked l.known) l.k l.lattice.alpha (l.words.items ++ l.closed) l.heads.items;
}
