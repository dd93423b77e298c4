use Rattle.std.proofs.Common.{◌≡◌, All, filter, map, take, not}
use Rattle.aea_lattice.specs.Blocks.{blocks_of}
use Rattle.aea_view.specs.Marked.{is_marked}
use Rattle.aea_gauss.specs.Fates.{block_of_fate, IsFate}
use Rattle.aea_gauss.specs.Batches.{IsBatch}
use Rattle.aea_gauss.proofs.unknown.all_fates.Given as goal

abbrev pub invariant-loop-k : goal.invariant-loop-k
invariant-loop-k l = record {
  batch : IsBatch l.lattice (is_marked l.known) l.batch;
  each : All (IsFate l.lattice (is_marked l.known)) l.fates;
  blocks : map block_of_fate l.fates ≡ filter (λ b. not (is_marked l.known b)) (take l.k (blocks_of l.lattice));
}
