use Rattle.std.proofs.Common.{◌≡◌, not, filter, take}
use Rattle.aea_lattice.specs.Blocks.{blocks_of}
use Rattle.aea_view.specs.Marked.{is_marked}
use Rattle.aea_gauss.proofs.equations.unknown_blocks.Given as goal

abbrev pub invariant-loop-k : goal.invariant-loop-k
invariant-loop-k l = l.blocks.items ≡ filter (λ b. not (is_marked l.known b)) (take l.k (blocks_of l.lattice))
