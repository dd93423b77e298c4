use Rattle.std.proofs.Common.{◌≡◌, ◌<◌, ℕ, Bool, List, get_or}
use Rattle.aea_sweep.specs.Labels.{AreLabels}
use Rattle.aea_sweep.specs.Stretches.{AreEnding, AreOpens}
use Rattle.aea_sweep.proofs.marking.end_stretches.Given as goal

abbrev pub invariant-loop-strand : goal.invariant-loop-strand
invariant-loop-strand l = record {
  labels : AreLabels l.lattice l.first l.skip;
  opens : AreOpens l.lattice l.starts;
  ended : (s : ℕ) → s < l.strand → get_or l.starts s 0 ≡ 0;
  kept : (nodes : ℕ → Bool) (labels : List ℕ) → AreEnding l.lattice l.class nodes nodes l.label labels l.fn.first l.fn.starts
      → AreEnding l.lattice l.class nodes nodes l.label labels l.first l.starts;
}
