use Rattle.std.proofs.Common.{◌≡◌, ◌-◌, ◌<◌, ℕ, List, length, get_or}
use Rattle.aea_lattice.specs.declared.blocks.BlockId.{BlockId}
use Rattle.aea_lattice.specs.Blocks.{blocks_count}
use Rattle.aea_view.specs.Marked.{is_marked}
use Rattle.aea_sums.specs.Tags.{HasTags}
use Rattle.aea_sums.specs.Backs.{AreBack}
use Rattle.aea_sums.proofs.backward.back_all.Given as goal

abbrev pub invariant-loop-at : goal.invariant-loop-at
invariant-loop-at l = record {
  long : length l.words ≡ length l.fn.words;
  table_long : length l.table ≡ length l.fn.table;
  rest : (q : ℕ) → q < blocks_count l.lattice - l.at → get_or l.table q 0 ≡ get_or l.fn.table q 0;
  back : (wanted : List BlockId) → HasTags l.lattice wanted l.fn.table
      → AreBack l.lattice (is_marked l.known) wanted l.records l.table l.words (blocks_count l.lattice - l.at);
}
