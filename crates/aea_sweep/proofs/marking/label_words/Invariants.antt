use Rattle.std.proofs.Common.{◌≡◌, ◌+◌, ◌∷◌, ℕ, [], get_or}
use Rattle.aea_sweep.specs.Words.{word_in}
use Rattle.aea_sweep.specs.Labels.{AreLabels}
use Rattle.aea_sweep.specs.Stretches.{AreOpens}
use Rattle.aea_sweep.specs.Firsts.{AreFirst}
use Rattle.aea_sweep.proofs.marking.label_words.Given as goal

abbrev pub invariant-loop-r : goal.invariant-loop-r
invariant-loop-r l = record {
  labels : AreLabels l.lattice l.first l.skip;
  opens : AreOpens l.lattice l.starts;
  empty : (s : ℕ) → get_or l.starts s 0 ≡ 0;
  first : AreFirst l.lattice 1 (l.r + 1) (word_in ([] ∷ l.words)) l.first;
}
