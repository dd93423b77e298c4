use Rattle.std.proofs.Common.{◌≡◌, List, length}
use Rattle.aea_lattice.specs.declared.blocks.BlockId.{BlockId}
use Rattle.aea_view.specs.Marked.{is_marked}
use Rattle.aea_sums.specs.Rows.{AreSlots}
use Rattle.aea_sums.specs.Places.{places_of}
use Rattle.aea_sums.specs.Tags.{HasTags}
use Rattle.aea_sums.specs.Vectors.{parities_count, ArePassed}
use Rattle.aea_sums.proofs.forward.pass_all.Given as goal

abbrev pub invariant-loop-k : goal.invariant-loop-k
invariant-loop-k l = record {
  long : length l.rows ≡ places_of l.lattice;
  slots : AreSlots l.rows;
  count : length l.records ≡ parities_count l.lattice;
  passed : (wanted : List BlockId) → HasTags l.lattice wanted l.tags → ArePassed l.lattice (is_marked l.known) wanted l.k l.records l.rows l.lost;
}
