use Rattle.std.proofs.Common.{◌≡◌, ◌+◌, length, inl, inr, ap, arith}
use Rattle.std.proofs.lemmas.Bool.{cases_lt}
use Rattle.aea_peel.proofs.Queues.{still}
use Rattle.aea_peel.proofs.worklist.add_of_nodes.Goals as goal

pub loop-k-init : goal.loop-k-init
loop-k-init c =
    let none : length c.args.waiting.now.items ≡ 0 = ap length c.requires.none in
    record {
      inside = λ e contains. absurd (omega (arith, contains.1));
      rest = λ e has behind. absurd (let last = has.node.last in omega arith);
    }

pub loop-k-preserved : goal.loop-k-preserved
loop-k-preserved c = record {
  inside = λ e contains. elim (c.in_ok-add_node.ensures.adds.inside e contains) [
    | inl old ↦ c.loop-k.invariant.inside e old
    | inr has ↦ has
  ];
  rest = λ e has behind. elim (cases_lt c.args.lattice.now.n (e.node + c.loop-k.k)) [
    | inl later ↦
        still c.args.lattice.now c.args.marks.now.marks 3 c.loop-k.waiting.items c.add_node.new.waiting.items e c.in_ok-add_node.ensures.adds
        (c.loop-k.invariant.rest e has later)
    | inr here ↦ c.in_ok-add_node.ensures.added e has (let n = c.n.ensures in omega arith)
  ];
}

pub returns : goal.returns
returns c = record {
  inside = c.loop-k.invariant.inside;
  rest = λ e has. c.loop-k.invariant.rest e has
      (let first = has.node.first in let end = c.loop-k-test.false in let n = c.n-k-end.ensures in omega arith);
}
