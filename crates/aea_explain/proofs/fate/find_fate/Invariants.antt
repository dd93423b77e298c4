use Rattle.aea_explain.proofs.Fated.{NoneOf}
use Rattle.aea_explain.proofs.fate.find_fate.Given as goal

abbrev pub invariant-loop-k : goal.invariant-loop-k
invariant-loop-k l = record {
  none : NoneOf l.fates l.block l.k;
}
