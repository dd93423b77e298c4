use Rattle.std.proofs.Common.{◌≡◌, ◌<◌, ◌++◌, ℕ, List, length}
use Rattle.aea_report.specs.Format.{numbers_text}
use Rattle.aea_report.specs.Grammar.{RiseFrom}
use Rattle.aea_reader.proofs.Nodes.{Continues}
use Rattle.aea_reader.proofs.judge.nodes_in.Given as goal

abbrev pub invariant-loop-rest : goal.invariant-loop-rest
invariant-loop-rest l = record {
  spelled : l.text ≡ numbers_text l.nodes ++ l.rest;
  some : length l.rest ≡ 0 → 0 < length l.nodes;
  rises : (more : List ℕ) → RiseFrom l.lattice l.last more → RiseFrom l.lattice 0 (l.nodes ++ more);
  reads : (all : List ℕ) → RiseFrom l.lattice 0 all → l.text ≡ numbers_text all → Continues l.lattice l.last l.rest;
}

abbrev pub decreases-loop-rest : goal.decreases-loop-rest
decreases-loop-rest l = length l.rest
