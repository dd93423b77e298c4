use Rattle.std.proofs.Common.{◌+◌, ◌-◌, ◌≤◌, List}
use Rattle.aea_lattice.specs.Blocks.{blocks_count}
use Rattle.aea_report.specs.declared.line.Line.{Line}
use Rattle.aea_plan.specs.Plans.{AreCounts}
use Rattle.aea_plan.proofs.Printing.{IsPast}
use Rattle.aea_plan.proofs.counts.count_blocks.Given as goal

abbrev pub invariant-loop-damaged : goal.invariant-loop-damaged
invariant-loop-damaged l = record {
  inside : l.from ≤ blocks_count l.verdicts.damaged.lattice;
  walked : (done : List Line) × IsPast l.verdicts l.from done × AreCounts l.counts done;
  few : l.counts.peeled + l.counts.solved + l.counts.lost ≤ l.from;
}

abbrev pub decreases-loop-damaged : goal.decreases-loop-damaged
decreases-loop-damaged l = blocks_count l.verdicts.damaged.lattice - l.from
