use Rattle.std.proofs.Common.{◌≡◌, ◌<◌, ◌≤◌, true}
use Rattle.aea_lattice.specs.declared.blocks.BlockId.{BlockId}
use Rattle.aea_lattice.specs.Blocks.{HasBlock, number_of}
use Rattle.aea_view.specs.Marked.{is_marked}
use Rattle.aea_walk.proofs.missing.least_missing.Given as goal

abbrev pub invariant-loop-k : goal.invariant-loop-k
invariant-loop-k l =
    (b : BlockId) → HasBlock l.marks.lattice b → l.least ≤ number_of l.marks.lattice b → number_of l.marks.lattice b < l.k → is_marked l.marks b ≡ true
