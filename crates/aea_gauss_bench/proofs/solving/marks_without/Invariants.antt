use Rattle.std.proofs.Common.{◌≡◌}
use Rattle.aea_gauss_bench.proofs.solving.marks_without.Given as goal

abbrev pub invariant-loop-k : goal.invariant-loop-k
invariant-loop-k l = l.marks.lattice ≡ l.lattice

abbrev pub invariant-loop-word : goal.invariant-loop-word
invariant-loop-word l =
    (l.marks.lattice ≡ l.lattice)
    × (goal.iterator-loop-word).can_next l.word-iterator
    × (goal.iterator-loop-word).is_finite l.word-iterator
