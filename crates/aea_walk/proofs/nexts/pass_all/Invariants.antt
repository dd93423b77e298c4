use Rattle.std.proofs.Common.{◌≡◌, ◌+◌, ◌-◌, length}
use Rattle.aea_view.specs.Marked.{is_marked}
use Rattle.aea_walk.specs.Stretches.{AreNextFrom}
use Rattle.aea_walk.proofs.nexts.pass_all.Given as goal

abbrev pub invariant-loop-k : goal.invariant-loop-k
invariant-loop-k l = record {
  long : length l.next ≡ l.marks.lattice.n + 1;
  strands : length l.ends ≡ 64;
  passed : AreNextFrom l.marks.lattice (is_marked l.marks) l.class (l.marks.lattice.n - l.k + 1) l.next l.ends;
}
