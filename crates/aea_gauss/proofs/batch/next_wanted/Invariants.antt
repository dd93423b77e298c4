use Rattle.std.proofs.Common.{◌≡◌, ◌≤◌, length}
use Rattle.aea_view.specs.Marked.{is_marked}
use Rattle.aea_sums.specs.Sums.{wanted_at, AreWanted}
use Rattle.aea_gauss.proofs.batch.next_wanted.Given as goal

abbrev pub invariant-loop-k : goal.invariant-loop-k
invariant-loop-k l = record {
  few : length l.wanted.items ≤ 64;
  some : 1 ≤ length l.wanted.items;
  wanted : AreWanted l.lattice (is_marked l.known) l.wanted.items;
  first : wanted_at l.wanted.items 0 ≡ l.fn.b;
}
