use Rattle.std.proofs.Common.{◌≡◌, ◌*◌, ◌≤◌, length, vec_capacity, take}
use Rattle.aea_report.specs.Format.{numbers_text}
use Rattle.aea_plan.proofs.nodes.write_nodes.Given as goal

abbrev pub invariant-loop-k : goal.invariant-loop-k
invariant-loop-k l = record {
  made : l.text.items ≡ numbers_text (take l.k l.nodes);
  long : length l.text.items ≤ 11 * l.k;
  room : vec_capacity l.fn.text ≤ vec_capacity l.text;
}
