use Rattle.std.proofs.Common.{◌≡◌}
use Rattle.aea_report_tests.proofs.planning.plan_without.Given as goal

abbrev pub invariant-loop-text : goal.invariant-loop-text
invariant-loop-text l = l.marks.lattice ≡ l.lattice
