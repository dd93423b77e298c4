use Rattle.std.proofs.Common.{◌≡◌, take}
use Rattle.aea_explain.proofs.fate.copy_items.Given as goal

abbrev pub invariant-loop-k : goal.invariant-loop-k
invariant-loop-k g l = record {
  copied : l.copy ≡ take l.k l.items;
}
