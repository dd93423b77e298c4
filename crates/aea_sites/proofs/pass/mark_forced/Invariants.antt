use Rattle.std.proofs.Common.{◌-◌}
use Rattle.aea_lattice.specs.Blocks.{blocks_count}
use Rattle.aea_sites.specs.Passes.{GoesOn}
use Rattle.aea_sites.proofs.pass.mark_forced.Given as goal

abbrev pub invariant-loop-k : goal.invariant-loop-k
invariant-loop-k l = GoesOn l.fn.marks l.marks

abbrev pub decreases-loop-k : goal.decreases-loop-k
decreases-loop-k l = blocks_count l.fn.marks.lattice - l.from
