use Rattle.std.proofs.Common.{◌≡◌, ◌+◌, ◌≤◌, length}
use Rattle.aea_command_loss.proofs.DrillLemmas.DamageLines.{IsTaken}
use Rattle.aea_command_loss.proofs.drill.damage.listed_marks.Given as goal

abbrev pub invariant-loop-rest : goal.invariant-loop-rest
invariant-loop-rest l = record {
  same : l.marks.lattice ≡ l.lattice;
  taken : IsTaken l.lattice l.list l.rest l.line l.marks.marks;
  few : l.line + length l.rest ≤ length l.list;
}

abbrev pub decreases-loop-rest : goal.decreases-loop-rest
decreases-loop-rest l = length l.rest
